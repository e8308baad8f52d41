-- The walk over each kind of statement.
use Rattle.std.proofs.Common.{◌≡◌, ℕ, Bool, true, List, [], ◌∷◌, map, length, Option, Some, None, refl, sym, ap, ◌∙◌}
use Rattle.std.specs.Prelude.{◌==◌}
use Rattle.al_source.specs.declared.annotations.LoopNote.{LoopNote}
use Rattle.al_source.specs.declared.operators.BinOp.{BinOp}
use Rattle.al_source.specs.declared.texts.Piece.{Piece}
use Rattle.al_source.specs.declared.source_tree.CType.{CType}
use Rattle.al_source.specs.declared.source_tree.Expr.{Expr}
use Rattle.al_source.specs.declared.source_tree.Stmt.{Stmt, out-Stmt, fold_out-Stmt}
use Rattle.al_source.specs.declared.source_tree.StmtKind.{StmtKind, map-StmtKind, fold-StmtKind, fold-roll-StmtKind}
use Rattle.al_source.specs.declared.source_tree.StmtKind.TheViews.{roll-StmtKind}
use Rattle.al_source.specs.declared.source_tree.StmtKind.TheOpen.{StmtKind-F}
use Rattle.al_source.specs.declared.source_tree.StmtKind.TheVariants as s
use Rattle.al_core.specs.declared.typed_tree.TStmt.{TStmt, roll-TStmt}
use Rattle.al_core.specs.declared.typed_tree.TKind.TheVariants as k
use Rattle.al_rules.specs.declared.faults.TypeKind.TheVariants.{Shape, NotPlace, Count}
use Rattle.al_rules.specs.Names.{Name}
use Rattle.al_rules.specs.Checks.{each, ensure}
use Rattle.al_rules.specs.Scopes.{Known, in_scope}
use Rattle.al_rules.specs.Operands.{integer}
use Rattle.al_rules.specs.Expressions as x
use Rattle.al_rules.specs.Walks.{Walk, pure, checks, lift, within, all_steps, ◌>>=◌, ◌>>◌}
use Rattle.al_rules.specs.Statements.{Declares, Sets, Simple, Other, is_body, may_update, Part, KindPart, part_if, any_part, walks_of, numbers_in, assigned, updated, is_place, operand_of, operands_of, condition, declare, choice_of, returned, leave, for_loop, walk_case, sort_case, kind_case, stmt_case, part, kind_part, statements}

module _ (known : Known) (func : ℕ) (result : CType) where
  abbrev pub part_of : Option Stmt → Option Part
  part_of None = None
  part_of (Some b) = Some (part known func result b)

  of_part : (x : StmtKind-F StmtKind Stmt) (d : StmtKind) → roll-StmtKind x ≡ d
      → kind_part known func result d
      ≡ kind_case known func result (map-StmtKind StmtKind Stmt KindPart Part (kind_part known func result) (part known func result) x)
  unfolding kind_part part
  of_part x d is =
      ap (λ d. fold-StmtKind KindPart Part (kind_case known func result) (stmt_case known func result) d) (sym is)
      ∙ fold-roll-StmtKind KindPart Part (kind_case known func result) (stmt_case known func result) x

  of_walk : (x : StmtKind-F StmtKind Stmt) (d : StmtKind) (line : ℕ) (looped : Bool) → roll-StmtKind x ≡ d
      → (kind_part known func result d).walk line looped
      ≡ walk_case known func result (map-StmtKind StmtKind Stmt KindPart Part (kind_part known func result) (part known func result) x) line looped
  of_walk x d line looped is = ap (λ (p : KindPart). p.walk line looped) (of_part x d is)

  part_out : (b : Stmt)
      → part known func result b ≡ stmt_case known func result (record { line = (out-Stmt b).line; kind = kind_part known func result (out-Stmt b).kind })
  unfolding kind_part part
  part_out b = fold_out-Stmt KindPart Part (kind_case known func result) (stmt_case known func result) b

  pub walks-stmt : (b : Stmt) (looped : Bool)
      → (part known func result b).walk looped
      ≡ ((kind_part known func result (out-Stmt b).kind).walk (out-Stmt b).line looped
      >>= (λ d. pure (roll-TStmt (record { line = (out-Stmt b).line; kind = d }))))
  walks-stmt b looped = ap (λ (p : Part). p.walk looped) (part_out b)

  pub sort-stmt : (b : Stmt) → (part known func result b).sort ≡ (kind_part known func result (out-Stmt b).kind).sort
  sort-stmt b = ap (λ (p : Part). p.sort) (part_out b)

  pub line-stmt : (b : Stmt) → (part known func result b).line ≡ (out-Stmt b).line
  line-stmt b = ap (λ (p : Part). p.line) (part_out b)

  pub walks-Empty : (line : ℕ) (looped : Bool) → (kind_part known func result s.Empty).walk line looped ≡ pure k.Empty
  walks-Empty line looped = of_walk StmtKind-F.Empty _ line looped s.rolls-Empty

  pub walks-Declare : (a : CType) (name : Name) (v : Option Expr) (line : ℕ) (looped : Bool)
      → (kind_part known func result (s.Declare a name v)).walk line looped ≡ declare known func result line a name v
  walks-Declare a name v line looped = of_walk (StmtKind-F.Declare a name v) _ line looped (s.rolls-Declare a name v)

  pub walks-Assign : (a b : Expr) (line : ℕ) (looped : Bool)
      → (kind_part known func result (s.Assign a b)).walk line looped
      ≡ (operand_of known func result line a
      >>= (λ l. lift line (ensure (is_place l) NotPlace) >> (operand_of known func result line b >>= (λ r. lift line (assigned l r)))))
  walks-Assign a b line looped = of_walk (StmtKind-F.Assign a b) _ line looped (s.rolls-Assign a b)

  pub walks-Update : (op : BinOp) (a b : Expr) (line : ℕ) (looped : Bool)
      → (kind_part known func result (s.Update op a b)).walk line looped
      ≡ (lift line (ensure (may_update op) Shape)
      >> (operand_of known func result line a
      >>= (λ l. lift line (ensure (is_place l) NotPlace) >> (operand_of known func result line b >>= (λ r. lift line (updated op l r))))))
  walks-Update op a b line looped = of_walk (StmtKind-F.Update op a b) _ line looped (s.rolls-Update op a b)

  pub walks-Call : (name : Name) (args : List Expr) (line : ℕ) (looped : Bool)
      → (kind_part known func result (s.Call name args)).walk line looped
      ≡ (checks line (λ scope. x.call_alone known (in_scope scope) name (x.operands known (in_scope scope) args)) >>= (λ c. pure (k.Call c)))
  walks-Call name args line looped = of_walk (StmtKind-F.Call name args) _ line looped (s.rolls-Call name args)

  pub walks-Print : (format : List Piece) (args : List Expr) (line : ℕ) (looped : Bool)
      → (kind_part known func result (s.Print format args)).walk line looped
      ≡ (operands_of known func result line args
      >>= (λ xs. lift line (ensure (length xs == numbers_in format) Count) >> (lift line (each integer xs) >>= (λ ns. pure (k.Print format ns)))))
  walks-Print format args line looped = of_walk (StmtKind-F.Print format args) _ line looped (s.rolls-Print format args)

  pub walks-If : (c : Expr) (a : Stmt) (b : Option Stmt) (line : ℕ) (looped : Bool)
      → (kind_part known func result (s.If c a b)).walk line looped
      ≡ (condition known func result line c
      >>= (λ t. part_if is_body (part known func result a) looped >>= (λ p. any_part is_body (part_of b) looped >>= (λ r. pure (k.If t p r)))))
  walks-If c a (Some b) line looped = of_walk (StmtKind-F.If c a (Some b)) _ line looped (s.rolls-If c a (Some b))
  walks-If c a None line looped = of_walk (StmtKind-F.If c a None) _ line looped (s.rolls-If c a None)

  pub walks-While : (c : Expr) (a : Stmt) (line : ℕ) (looped : Bool)
      → (kind_part known func result (s.While c a)).walk line looped
      ≡ (condition known func result line c >>= (λ t. part_if is_body (part known func result a) true >>= (λ p. pure (k.While t p))))
  walks-While c a line looped = of_walk (StmtKind-F.While c a) _ line looped (s.rolls-While c a)

  pub walks-For : (first : Option Stmt) (test : Option Expr) (third : Option Stmt) (body : Stmt) (note : Option LoopNote) (line : ℕ) (looped : Bool)
      → (kind_part known func result (s.For first test third body note)).walk line looped
      ≡ (choice_of known func result line note >>= for_loop known func result line looped (part_of first) test (part_of third) (part known func result body))
  walks-For (Some first) test (Some third) body note line looped =
      of_walk (StmtKind-F.For (Some first) test (Some third) body note) _ line looped (s.rolls-For (Some first) test (Some third) body note)
  walks-For (Some first) test None body note line looped =
      of_walk (StmtKind-F.For (Some first) test None body note) _ line looped (s.rolls-For (Some first) test None body note)
  walks-For None test (Some third) body note line looped =
      of_walk (StmtKind-F.For None test (Some third) body note) _ line looped (s.rolls-For None test (Some third) body note)
  walks-For None test None body note line looped = of_walk (StmtKind-F.For None test None body note) _ line looped (s.rolls-For None test None body note)

  each_walked : (looped : Bool) (ss : List Stmt) → all_steps (walks_of looped (map (part known func result) ss)) ≡ statements known func result looped ss
  each_walked looped [] = refl
  each_walked looped (b ∷ ss) =
      ap (λ (q : Walk (List TStmt)). (part known func result b).walk looped >>= (λ t. q >>= (λ ts. pure (t ∷ ts)))) (each_walked looped ss)

  pub walks-Block : (ss : List Stmt) (line : ℕ) (looped : Bool)
      → (kind_part known func result (s.Block ss)).walk line looped ≡ within (statements known func result looped ss >>= (λ ts. pure (k.Block ts)))
  walks-Block ss line looped =
      of_walk (StmtKind-F.Block ss) _ line looped (s.rolls-Block ss)
      ∙ ap (λ (q : Walk (List TStmt)). within (q >>= (λ ts. pure (k.Block ts)))) (each_walked looped ss)

  pub walks-Return : (v : Option Expr) (line : ℕ) (looped : Bool)
      → (kind_part known func result (s.Return v)).walk line looped ≡ returned known func result line v
  walks-Return v line looped = of_walk (StmtKind-F.Return v) _ line looped (s.rolls-Return v)

  pub walks-Break : (line : ℕ) (looped : Bool) → (kind_part known func result s.Break).walk line looped ≡ leave known func result line looped k.Break
  walks-Break line looped = of_walk StmtKind-F.Break _ line looped s.rolls-Break

  pub walks-Continue : (line : ℕ) (looped : Bool) → (kind_part known func result s.Continue).walk line looped ≡ leave known func result line looped k.Continue
  walks-Continue line looped = of_walk StmtKind-F.Continue _ line looped s.rolls-Continue

  of_sort : (x : StmtKind-F StmtKind Stmt) (d : StmtKind) → roll-StmtKind x ≡ d
      → (kind_part known func result d).sort
      ≡ sort_case known func result (map-StmtKind StmtKind Stmt KindPart Part (kind_part known func result) (part known func result) x)
  of_sort x d is = ap (λ (p : KindPart). p.sort) (of_part x d is)

  pub sort-Declare : (a : CType) (name : Name) → (kind_part known func result (s.Declare a name None)).sort ≡ Declares
  sort-Declare a name = of_sort (StmtKind-F.Declare a name None) _ (s.rolls-Declare a name None)

  pub sort-Sets : (a : CType) (name : Name) (v : Expr) → (kind_part known func result (s.Declare a name (Some v))).sort ≡ Sets
  sort-Sets a name v = of_sort (StmtKind-F.Declare a name (Some v)) _ (s.rolls-Declare a name (Some v))

  pub sort-Assign : (a b : Expr) → (kind_part known func result (s.Assign a b)).sort ≡ Simple
  sort-Assign a b = of_sort (StmtKind-F.Assign a b) _ (s.rolls-Assign a b)

  pub sort-Update : (op : BinOp) (a b : Expr) → (kind_part known func result (s.Update op a b)).sort ≡ Simple
  sort-Update op a b = of_sort (StmtKind-F.Update op a b) _ (s.rolls-Update op a b)

  pub sort-Call : (name : Name) (args : List Expr) → (kind_part known func result (s.Call name args)).sort ≡ Simple
  sort-Call name args = of_sort (StmtKind-F.Call name args) _ (s.rolls-Call name args)

  pub sort-Print : (format : List Piece) (args : List Expr) → (kind_part known func result (s.Print format args)).sort ≡ Simple
  sort-Print format args = of_sort (StmtKind-F.Print format args) _ (s.rolls-Print format args)

  pub sort-Empty : (kind_part known func result s.Empty).sort ≡ Other
  sort-Empty = of_sort StmtKind-F.Empty _ s.rolls-Empty

  pub sort-If : (c : Expr) (a : Stmt) (b : Option Stmt) → (kind_part known func result (s.If c a b)).sort ≡ Other
  sort-If c a b = of_sort (StmtKind-F.If c a b) _ (s.rolls-If c a b)

  pub sort-While : (c : Expr) (a : Stmt) → (kind_part known func result (s.While c a)).sort ≡ Other
  sort-While c a = of_sort (StmtKind-F.While c a) _ (s.rolls-While c a)

  pub sort-For : (first : Option Stmt) (test : Option Expr) (third : Option Stmt) (body : Stmt) (note : Option LoopNote)
      → (kind_part known func result (s.For first test third body note)).sort ≡ Other
  sort-For first test third body note = of_sort (StmtKind-F.For first test third body note) _ (s.rolls-For first test third body note)

  pub sort-Block : (ss : List Stmt) → (kind_part known func result (s.Block ss)).sort ≡ Other
  sort-Block ss = of_sort (StmtKind-F.Block ss) _ (s.rolls-Block ss)

  pub sort-Return : (v : Option Expr) → (kind_part known func result (s.Return v)).sort ≡ Other
  sort-Return v = of_sort (StmtKind-F.Return v) _ (s.rolls-Return v)

  pub sort-Break : (kind_part known func result s.Break).sort ≡ Other
  sort-Break = of_sort StmtKind-F.Break _ s.rolls-Break

  pub sort-Continue : (kind_part known func result s.Continue).sort ≡ Other
  sort-Continue = of_sort StmtKind-F.Continue _ s.rolls-Continue

pub ruleset walk_nodes = (
  walks-stmt,
  walks-Empty,
  walks-Declare,
  walks-Assign,
  walks-Update,
  walks-Call,
  walks-Print,
  walks-If,
  walks-While,
  walks-For,
  walks-Block,
  walks-Return,
  walks-Break,
  walks-Continue,
)

pub ruleset sort_nodes = (
  sort-stmt,
  line-stmt,
  sort-Declare,
  sort-Sets,
  sort-Assign,
  sort-Update,
  sort-Call,
  sort-Print,
  sort-Empty,
  sort-If,
  sort-While,
  sort-For,
  sort-Block,
  sort-Return,
  sort-Break,
  sort-Continue,
)
