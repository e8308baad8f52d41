-- What typing makes of a statement whose numbers are of a kind: what the operations on expressions and places keep holds of
-- all terms in it.
use Rattle.std.proofs.Common.{◌≡◌, ℕ, ◌==◌, Bool, true, false, not, if◌then◌else◌, List, [], ◌∷◌, map, length, Option, Some, None, Ok, pos, refl, sym, ap, ◌∙◌, subst}
use Rattle.std.specs.Prelude.{ℤ}
use Rattle.al_source.specs.Steps.{and_then}
use Rattle.al_source.specs.declared.annotations.LoopNote.{LoopNote}
use Rattle.al_source.specs.declared.operators.BinOp.{BinOp}
use Rattle.al_source.specs.declared.texts.Piece.{Piece}
use Rattle.al_source.specs.declared.source_tree.CType.{CType}
use Rattle.al_source.specs.declared.source_tree.Expr.{Expr}
use Rattle.al_source.specs.declared.source_tree.Stmt.{Stmt, roll-Stmt, out-roll-Stmt}
use Rattle.al_source.specs.declared.source_tree.StmtKind.{StmtKind}
use Rattle.al_source.specs.declared.source_tree.StmtKind.TheOpen.{Stmt-F}
use Rattle.al_source.specs.declared.source_tree.StmtKind.TheVariants as k
use Rattle.al_core.specs.declared.choices.Choice.{Choice}
use Rattle.al_core.specs.declared.typed_tree.TExpr.{TExpr}
use Rattle.al_core.specs.declared.typed_tree.TExpr.TheVariants as te
use Rattle.al_core.specs.declared.typed_tree.TPlace.{TPlace}
use Rattle.al_core.specs.declared.typed_tree.TStmt.{TStmt, roll-TStmt, fold-roll-TStmt}
use Rattle.al_core.specs.declared.typed_tree.TKind.{TKind, map-TKind, fold-TKind, fold-roll-TKind}
use Rattle.al_core.specs.declared.typed_tree.TKind.TheViews.{roll-TKind}
use Rattle.al_core.specs.declared.typed_tree.TKind.TheOpen.{TKind-F}
use Rattle.al_core.specs.declared.typed_tree.TKind.TheVariants as tk
use Rattle.al_core.specs.Accepted.{Terms, no_terms, one_expr, place_and_expr, if_expr, both_terms, all_terms, kind_terms, terms, terms_of}
use Rattle.al_rules.specs.declared.faults.TypeKind.TheVariants.{Twice, Shape, Mismatch, NotPlace, Count, Return, Outside}
use Rattle.al_rules.specs.declared.operands.Operand.{Operand}
use Rattle.al_rules.specs.declared.operands.Operand.TheVariants.{Literal, Null, Value, Variable, Place}
use Rattle.al_rules.specs.Names.{Name, AllOf}
use Rattle.al_rules.specs.Names as n
use Rattle.al_rules.specs.Checks.{Checked, each, ensure}
use Rattle.al_rules.specs.Types.{is_int, is_scalar, type_checked}
use Rattle.al_rules.specs.Scopes.{Known, Scope, in_scope, is_declared, is_struct}
use Rattle.al_rules.specs.Operands as o
use Rattle.al_rules.specs.Expressions as x
use Rattle.al_rules.specs.Walks.{Progress, Walk, bind, pure, checks, lift, fails, add_local, begin_loop, end_loop, within}
use Rattle.al_rules.specs.Statements as w
use Rattle.al_rules.proofs.StatementNodes as nodes
use Rattle.al_rules_laws.proofs.SourceInduction.{IfAny, present}
use Rattle.al_rules_laws.proofs.LoopEntries.{all_append}
use Rattle.al_rules_laws.proofs.WalkFacts.{Ends, bind_ends, pure_is, check_is, within_ends, never_ends}
use Rattle.al_runs_laws.proofs.NumberedTrees.{StmtCases}
use Rattle.al_runs_laws.proofs.Making.{Gives, gives_value, gives_then, gives_after, Kept}
use Rattle.al_runs_laws.proofs.Making as e

-- ---- walks that leave a value of which something holds

abbrev pub Leaves : {A : Type 0} → (A → Type 0) → Walk A → Type 0
Leaves {A = A} P p = (s : Progress) (z : A × Progress) → Ends (p s) z → P z.0

abbrev Any : {A : Type 0} → A → Type 0
Any a = Unit {0}

leaves_pure : {A : Type 0} (P : A → Type 0) (a : A) → P a → Leaves P (pure a)
leaves_pure {A = A} P a h s z e = subst (λ (z : A × Progress). P z.0) (pure_is a s z e) h

leaves_bind : {A B : Type 0} (P : A → Type 0) (Q : B → Type 0) (p : Walk A) (f : A → Walk B) → Leaves P p → ((a : A) → P a → Leaves Q (f a))
    → Leaves Q (bind p f)
leaves_bind P Q p f h g s z e = let q = bind_ends p f s z e in g q.0.0 (h s q.0 q.1) q.0.1 z q.2

leaves_after : {A B : Type 0} (Q : B → Type 0) (p : Walk A) (f : A → Walk B) → ((a : A) → Leaves Q (f a)) → Leaves Q (bind p f)
leaves_after Q p f g s z e = let q = bind_ends p f s z e in g q.0.0 q.0.1 z q.2

leaves_checks : {A : Type 0} (P : A → Type 0) (line : ℕ) (c : Scope → Checked A) → ((scope : Scope) → Gives P (c scope)) → Leaves P (checks line c)
leaves_checks P line c h s z e = let q = check_is line c s z e in h s.scope z.0 q.0

leaves_lift : {A : Type 0} (P : A → Type 0) (line : ℕ) (c : Checked A) → Gives P c → Leaves P (lift line c)
leaves_lift P line c h = leaves_checks P line (λ _. c) (λ _. h)

leaves_within : {A : Type 0} (P : A → Type 0) (p : Walk A) → Leaves P p → Leaves P (within p)
leaves_within {A = A} P p h s z e = let q = within_ends p s z e in subst (λ (z : A × Progress). P z.0) q.2 (h _ q.0 q.1)

by_walk : {A : Type 0} (P : A → Type 0) {p q : Walk A} → p ≡ q → Leaves P q → Leaves P p
by_walk P same h s z e = h s z (sym (ap (λ f. f s) same) ∙ e)

-- ---- terms of typed statements

abbrev pub terms_in : TKind → Terms
terms_in = fold-TKind Terms Terms kind_terms (λ s. s.kind)

-- a place of which something holds at a type
abbrev pub Stands : (CType → TPlace → Type 0) → TPlace → Type 0
Stands Q q = (a : CType) × Q a q

-- what holds of all expressions and places of some terms
pub record AllMade (P : TExpr → Type 0) (Q : CType → TPlace → Type 0) (t : Terms) : Type 0 where
  pub exprs : AllOf P t.exprs
  pub places : AllOf (Stands Q) t.places

module _ (N : ℤ → Type 0) (known : Known) (P : TExpr → Type 0) (Q : CType → TPlace → Type 0) (R : TPlace → Type 0) (c : Kept N known P Q R)
    (func : ℕ) (result : CType) where
  abbrev Made : Terms → Type 0
  Made t = AllMade P Q t

  abbrev Good : Operand → Type 0
  Good = e.Good N known P Q R c

  -- an expression in each scope
  abbrev pub FineExpr : Expr → Type 0
  FineExpr = e.FineAnywhere N known P Q R c

  nothing : Made no_terms
  nothing = record { exprs = n.none; places = n.none }

  one : (v : TExpr) → P v → Made (one_expr v)
  one v h = record { exprs = n.more h n.none; places = n.none }

  two : (s t : Terms) → Made s → Made t → Made (both_terms s t)
  two s t h k = record {
    exprs = all_append h.exprs k.exprs;
    places = all_append h.places k.places;
  }

  abbrev MadeIn : TKind → Type 0
  MadeIn d = Made (terms_in d)

  abbrev MadeStmt : TStmt → Type 0
  MadeStmt d = Made (terms d)

  abbrev MadeAny : Option TStmt → Type 0
  MadeAny None = Unit {0}
  MadeAny (Some d) = MadeStmt d

  abbrev KeptAny : Option TExpr → Type 0
  KeptAny None = Unit {0}
  KeptAny (Some v) = P v

  made_kind : (y : TKind-F TKind TStmt) (d : TKind) → roll-TKind y ≡ d → Made (kind_terms (map-TKind TKind TStmt Terms Terms terms_in terms y)) → MadeIn d
  unfolding terms
  made_kind y d is h = subst Made (sym (ap terms_in (sym is) ∙ fold-roll-TKind Terms Terms kind_terms (λ s. s.kind) y)) h

  made_stmt : (line : ℕ) (d : TKind) → MadeIn d → MadeStmt (roll-TStmt (record { line = line; kind = d }))
  unfolding terms
  made_stmt line d h = subst Made (sym (fold-roll-TStmt Terms Terms kind_terms (λ s. s.kind) (record { line = line; kind = d }))) h

  -- ---- what is said of statements

  abbrev pub Fine : Stmt → Type 0
  Fine b = (looped : Bool) → Leaves MadeStmt ((w.part known func result b).walk looped)

  abbrev pub KindFine : StmtKind → Type 0
  KindFine d = (line : ℕ) (looped : Bool) → Leaves MadeIn ((w.kind_part known func result d).walk line looped)

  operand_of : (line : ℕ) (a : Expr) → FineExpr a → Leaves Good (w.operand_of known func result line a)
  operand_of line a f = leaves_checks Good line (λ scope. x.operand known (in_scope scope) a) (λ scope. f (in_scope scope))

  condition : (line : ℕ) (a : Expr) → FineExpr a → Leaves P (w.condition known func result line a)
  condition line a f =
      leaves_bind Good P (w.operand_of known func result line a) (λ p. lift line (o.scalar p)) (operand_of line a f)
      (λ p h. leaves_lift P line (o.scalar p) (e.scalar_good N known P Q R c p h))

  any_condition : (line : ℕ) (a : Option Expr) → IfAny FineExpr a → Leaves KeptAny (w.any_condition known func result line a)
  any_condition line None f = leaves_pure KeptAny None tt
  any_condition line (Some a) (present f) =
      leaves_bind P KeptAny (w.condition known func result line a) (λ v. pure (Some v)) (condition line a f) (λ v h. leaves_pure KeptAny (Some v) h)

  part_if : (allowed : w.Sort → Bool) (b : Stmt) (looped : Bool) → Fine b → Leaves MadeStmt (w.part_if allowed (w.part known func result b) looped)
  part_if allowed b looped h = by (allowed (w.part known func result b).sort)
    where
      by : (d : Bool) → Leaves MadeStmt (if d then (w.part known func result b).walk looped else fails (w.part known func result b).line Shape)
      by true s z run = h looped s z run
      by false s z run = absurd (never_ends (w.part known func result b).line Shape s z run)

  any_part : (allowed : w.Sort → Bool) (b : Option Stmt) (looped : Bool) → IfAny Fine b
      → Leaves MadeAny (w.any_part allowed (nodes.part_of known func result b) looped)
  any_part allowed None looped h = leaves_pure MadeAny None tt
  any_part allowed (Some b) looped (present h) =
      leaves_bind MadeStmt MadeAny (w.part_if allowed (w.part known func result b) looped) (λ t. pure (Some t)) (part_if allowed b looped h)
      (λ t g. leaves_pure MadeAny (Some t) g)

  abbrev MadeBody : TStmt × Option ℕ → Type 0
  MadeBody b = MadeStmt b.0

  looped_body : (line : ℕ) (own : Option Choice) (body : Stmt) → Fine body
      → Leaves MadeBody (w.looped_body known func result line own (w.part known func result body))
  looped_body line None body h =
      leaves_bind MadeStmt MadeBody (w.part_if w.is_body (w.part known func result body) true) (λ b. pure (b, None)) (part_if w.is_body body true h)
      (λ b g. leaves_pure MadeBody (b, None) g)
  looped_body line (Some own) body h =
      leaves_after MadeBody (begin_loop func line own)
      (λ m. bind (w.part_if w.is_body (w.part known func result body) true) (λ b. bind (end_loop m) (λ _. pure (b, Some m))))
      (λ m. leaves_bind MadeStmt MadeBody (w.part_if w.is_body (w.part known func result body) true) (λ b. bind (end_loop m) (λ _. pure (b, Some m)))
      (part_if w.is_body body true h)
      (λ b g. leaves_after MadeBody (end_loop m) (λ _. pure (b, Some m)) (λ _. leaves_pure MadeBody (b, Some m) g)))

  -- ---- each kind of statement

  initial : (line : ℕ) (a : CType) (v : Option Expr) → IfAny FineExpr v → Leaves P (w.initial known func result line a v)
  initial line a None f = leaves_pure P (te.Number (pos 0)) c.zero
  initial line a (Some v) (present f) =
      leaves_bind Good P (w.operand_of known func result line v) (λ y. lift line (o.fitting a y)) (operand_of line v f)
      (λ y h. leaves_lift P line (o.fitting a y) (e.fitting_good N known P Q R c y a h))

  set_local : (m : ℕ) (v : TExpr) → P v → MadeIn (tk.SetLocal m v)
  set_local m v h = made_kind (TKind-F.SetLocal m v) (tk.SetLocal m v) (tk.rolls-SetLocal m v) (one v h)

  declare_fine : (a : CType) (name : Name) (v : Option Expr) → IfAny FineExpr v → KindFine (k.Declare a name v)
  declare_fine a name v f line looped =
      by_walk MadeIn (nodes.walks-Declare known func result a name v line looped)
      (leaves_after MadeIn (bind (checks line (λ scope. ensure (not (is_declared name scope)) Twice))
      (λ _. lift line (type_checked (is_struct known.structs) (is_struct known.structs) is_scalar a)))
      (λ _. bind (add_local name a) (λ m. bind (w.initial known func result line a v) (λ y. pure (tk.SetLocal m y))))
      (λ _. leaves_after MadeIn (add_local name a) (λ m. bind (w.initial known func result line a v) (λ y. pure (tk.SetLocal m y)))
      (λ m. leaves_bind P MadeIn (w.initial known func result line a v) (λ y. pure (tk.SetLocal m y)) (initial line a v f)
      (λ y h. leaves_pure MadeIn (tk.SetLocal m y) (set_local m y h)))))

  place_expr : (q : TPlace) (v : TExpr) → Stands Q q → P v → Made (place_and_expr q v)
  place_expr q v h g = record { exprs = n.more g n.none; places = n.more h n.none }

  assigned : (l y : Operand) → Good l → Good y → Gives MadeIn (w.assigned l y)
  assigned (Variable m a) y h g d f =
      gives_then P MadeIn (o.fitting a y) (λ v. Ok (tk.SetLocal m v)) (e.fitting_good N known P Q R c y a g)
      (λ v i. gives_value MadeIn (tk.SetLocal m v) (set_local m v i)) d f
  assigned (Place a q) y h g d f =
      gives_then P MadeIn (o.fitting a y) (λ v. Ok (tk.Store q v)) (e.fitting_good N known P Q R c y a g)
      (λ v i. gives_value MadeIn (tk.Store q v) (made_kind (TKind-F.Store q v) (tk.Store q v) (tk.rolls-Store q v) (place_expr q v (a, h) i))) d f
  assigned (Literal m) y h g d f = absurd cc
  assigned Null y h g d f = absurd cc
  assigned (Value a v) y h g d f = absurd cc

  assign_fine : (a b : Expr) → FineExpr a → FineExpr b → KindFine (k.Assign a b)
  assign_fine a b f d line looped =
      by_walk MadeIn (nodes.walks-Assign known func result a b line looped)
      (leaves_bind Good MadeIn (w.operand_of known func result line a)
      (λ l. bind (lift line (ensure (w.is_place l) NotPlace)) (λ _. bind (w.operand_of known func result line b) (λ r. lift line (w.assigned l r))))
      (operand_of line a f)
      (λ l h. leaves_after MadeIn (lift line (ensure (w.is_place l) NotPlace))
      (λ _. bind (w.operand_of known func result line b) (λ r. lift line (w.assigned l r)))
      (λ _. leaves_bind Good MadeIn (w.operand_of known func result line b) (λ r. lift line (w.assigned l r)) (operand_of line b d)
      (λ r g. leaves_lift MadeIn line (w.assigned l r) (assigned l r h g)))))

  updated : (op : BinOp) (l y : Operand) → Good l → Good y → Gives MadeIn (w.updated op l y)
  updated op (Variable m a) y h g d f =
      gives_after MadeIn (ensure (is_int a) Mismatch) (and_then (o.integer y) (λ v. Ok (tk.UpdateLocal op m v)))
      (gives_then P MadeIn (o.integer y) (λ v. Ok (tk.UpdateLocal op m v)) (e.integer_good N known P Q R c y g)
      (λ v i. gives_value MadeIn (tk.UpdateLocal op m v)
      (made_kind (TKind-F.UpdateLocal op m v) (tk.UpdateLocal op m v) (tk.rolls-UpdateLocal op m v) (one v i)))) d f
  updated op (Place a q) y h g d f =
      gives_after MadeIn (ensure (is_int a) Mismatch) (and_then (o.integer y) (λ v. Ok (tk.UpdateAt op q v)))
      (gives_then P MadeIn (o.integer y) (λ v. Ok (tk.UpdateAt op q v)) (e.integer_good N known P Q R c y g)
      (λ v i. gives_value MadeIn (tk.UpdateAt op q v)
      (made_kind (TKind-F.UpdateAt op q v) (tk.UpdateAt op q v) (tk.rolls-UpdateAt op q v) (place_expr q v (a, h) i)))) d f
  updated op (Literal m) y h g d f = absurd cc
  updated op Null y h g d f = absurd cc
  updated op (Value a v) y h g d f = absurd cc

  update_fine : (op : BinOp) (a b : Expr) → FineExpr a → FineExpr b → KindFine (k.Update op a b)
  update_fine op a b f d line looped =
      by_walk MadeIn (nodes.walks-Update known func result op a b line looped)
      (leaves_after MadeIn (lift line (ensure (w.may_update op) Shape))
      (λ _. bind (w.operand_of known func result line a)
      (λ l. bind (lift line (ensure (w.is_place l) NotPlace)) (λ _. bind (w.operand_of known func result line b) (λ r. lift line (w.updated op l r)))))
      (λ _. leaves_bind Good MadeIn (w.operand_of known func result line a)
      (λ l. bind (lift line (ensure (w.is_place l) NotPlace)) (λ _. bind (w.operand_of known func result line b) (λ r. lift line (w.updated op l r))))
      (operand_of line a f)
      (λ l h. leaves_after MadeIn (lift line (ensure (w.is_place l) NotPlace))
      (λ _. bind (w.operand_of known func result line b) (λ r. lift line (w.updated op l r)))
      (λ _. leaves_bind Good MadeIn (w.operand_of known func result line b) (λ r. lift line (w.updated op l r)) (operand_of line b d)
      (λ r g. leaves_lift MadeIn line (w.updated op l r) (updated op l r h g))))))

  call_fine : (name : Name) (xs : List Expr) → AllOf FineExpr xs → KindFine (k.Call name xs)
  call_fine name xs fs line looped =
      by_walk MadeIn (nodes.walks-Call known func result name xs line looped)
      (leaves_bind P MadeIn (checks line (λ scope. x.call_alone known (in_scope scope) name (x.operands known (in_scope scope) xs))) (λ v. pure (tk.Call v))
      (leaves_checks P line (λ scope. x.call_alone known (in_scope scope) name (x.operands known (in_scope scope) xs))
      (λ scope. e.alone_good N known P Q R c (in_scope scope) name xs (e.all_in N known P Q R c (in_scope scope) fs)))
      (λ v h. leaves_pure MadeIn (tk.Call v) (made_kind (TKind-F.Call v) (tk.Call v) (tk.rolls-Call v) (one v h))))

  print_fine : (format : List Piece) (xs : List Expr) → AllOf FineExpr xs → KindFine (k.Print format xs)
  print_fine format xs fs line looped =
      by_walk MadeIn (nodes.walks-Print known func result format xs line looped)
      (leaves_bind (AllOf Good) MadeIn (w.operands_of known func result line xs)
      (λ ps. bind (lift line (ensure (length ps == w.numbers_in format) Count)) (λ _. bind (lift line (each o.integer ps)) (λ vs. pure (tk.Print format vs))))
      (leaves_checks (AllOf Good) line (λ scope. x.operands known (in_scope scope) xs)
      (λ scope. e.operands_good N known P Q R c (in_scope scope) xs (e.all_in N known P Q R c (in_scope scope) fs)))
      (λ ps hs. leaves_after MadeIn (lift line (ensure (length ps == w.numbers_in format) Count))
      (λ _. bind (lift line (each o.integer ps)) (λ vs. pure (tk.Print format vs)))
      (λ _. leaves_bind (AllOf P) MadeIn (lift line (each o.integer ps)) (λ vs. pure (tk.Print format vs))
      (leaves_lift (AllOf P) line (each o.integer ps) (e.integers_each N known P Q R c ps hs))
      (λ vs gs. leaves_pure MadeIn (tk.Print format vs)
      (made_kind (TKind-F.Print format vs) (tk.Print format vs) (tk.rolls-Print format vs) (record { exprs = gs; places = n.none }))))))

  made_if : (v : TExpr) (a : TStmt) (b : Option TStmt) → P v → MadeStmt a → MadeAny b → MadeIn (tk.If v a b)
  made_if v a (Some b) h g d =
      made_kind (TKind-F.If v a (Some b)) (tk.If v a (Some b)) (tk.rolls-If v a (Some b))
      (two (one_expr v) (both_terms (terms a) (terms b)) (one v h) (two (terms a) (terms b) g d))
  made_if v a None h g d =
      made_kind (TKind-F.If v a None) (tk.If v a None) (tk.rolls-If v a None)
      (two (one_expr v) (both_terms (terms a) no_terms) (one v h) (two (terms a) no_terms g nothing))

  choice_fine : (v : Expr) (a : Stmt) (b : Option Stmt) → FineExpr v → Fine a → IfAny Fine b → KindFine (k.If v a b)
  choice_fine v a b u h i line looped =
      by_walk MadeIn (nodes.walks-If known func result v a b line looped)
      (leaves_bind P MadeIn (w.condition known func result line v)
      (λ t. bind (w.part_if w.is_body (w.part known func result a) looped)
      (λ p. bind (w.any_part w.is_body (nodes.part_of known func result b) looped) (λ r. pure (tk.If t p r))))
      (condition line v u)
      (λ t g. leaves_bind MadeStmt MadeIn (w.part_if w.is_body (w.part known func result a) looped)
      (λ p. bind (w.any_part w.is_body (nodes.part_of known func result b) looped) (λ r. pure (tk.If t p r))) (part_if w.is_body a looped h)
      (λ p d. leaves_bind MadeAny MadeIn (w.any_part w.is_body (nodes.part_of known func result b) looped) (λ r. pure (tk.If t p r))
      (any_part w.is_body b looped i)
      (λ r f. leaves_pure MadeIn (tk.If t p r) (made_if t p r g d f)))))

  while_fine : (v : Expr) (a : Stmt) → FineExpr v → Fine a → KindFine (k.While v a)
  while_fine v a u h line looped =
      by_walk MadeIn (nodes.walks-While known func result v a line looped)
      (leaves_bind P MadeIn (w.condition known func result line v)
      (λ t. bind (w.part_if w.is_body (w.part known func result a) true) (λ p. pure (tk.While t p))) (condition line v u)
      (λ t g. leaves_bind MadeStmt MadeIn (w.part_if w.is_body (w.part known func result a) true) (λ p. pure (tk.While t p)) (part_if w.is_body a true h)
      (λ p d. leaves_pure MadeIn (tk.While t p)
      (made_kind (TKind-F.While t p) (tk.While t p) (tk.rolls-While t p) (two (one_expr t) (terms p) (one t g) d)))))

  if_terms_of : Option TStmt → Terms
  if_terms_of (Some d) = terms d
  if_terms_of None = no_terms

  made_any : (d : Option TStmt) → MadeAny d → Made (if_terms_of d)
  unfolding if_terms_of
  made_any (Some d) h = h
  made_any None h = nothing

  made_test : (v : Option TExpr) → KeptAny v → Made (if_expr v)
  made_test (Some v) h = one v h
  made_test None h = nothing

  made_for : (a : Option TStmt) (v : Option TExpr) (b : Option TStmt) (body : TStmt) (number : Option ℕ) → MadeAny a → KeptAny v → MadeAny b → MadeStmt body
      → MadeIn (tk.For a v b body number)
  made_for (Some a) v (Some b) body number h g d f =
      made_kind (TKind-F.For (Some a) v (Some b) body number) (tk.For (Some a) v (Some b) body number) (tk.rolls-For (Some a) v (Some b) body number)
      (two (terms a) _ h (two (if_expr v) _ (made_test v g) (two (terms b) (terms body) d f)))
  made_for (Some a) v None body number h g d f =
      made_kind (TKind-F.For (Some a) v None body number) (tk.For (Some a) v None body number) (tk.rolls-For (Some a) v None body number)
      (two (terms a) _ h (two (if_expr v) _ (made_test v g) (two no_terms (terms body) nothing f)))
  made_for None v (Some b) body number h g d f =
      made_kind (TKind-F.For None v (Some b) body number) (tk.For None v (Some b) body number) (tk.rolls-For None v (Some b) body number)
      (two no_terms _ nothing (two (if_expr v) _ (made_test v g) (two (terms b) (terms body) d f)))
  made_for None v None body number h g d f =
      made_kind (TKind-F.For None v None body number) (tk.For None v None body number) (tk.rolls-For None v None body number)
      (two no_terms _ nothing (two (if_expr v) _ (made_test v g) (two no_terms (terms body) nothing f)))

  for_fine : (first : Option Stmt) (test : Option Expr) (third : Option Stmt) (body : Stmt) (note : Option LoopNote) → IfAny Fine first
      → IfAny FineExpr test → IfAny Fine third → Fine body → KindFine (k.For first test third body note)
  for_fine first test third body note h q i j line looped =
      let a = nodes.part_of known func result first in
      let b = nodes.part_of known func result third in
      let part = w.part known func result body in
      by_walk MadeIn (nodes.walks-For known func result first test third body note line looped)
      (leaves_after MadeIn (w.choice_of known func result line note) (w.for_loop known func result line looped a test b part)
      (λ own. leaves_within MadeIn
      (bind (w.any_part w.is_first a looped) (λ s. bind (w.any_condition known func result line test) (λ v. bind (w.any_part w.is_third b looped)
      (λ t. bind (w.looped_body known func result line own part) (λ p. pure (tk.For s v t p.0 p.1))))))
      (leaves_bind MadeAny MadeIn (w.any_part w.is_first a looped)
      (λ s. bind (w.any_condition known func result line test) (λ v. bind (w.any_part w.is_third b looped)
      (λ t. bind (w.looped_body known func result line own part) (λ p. pure (tk.For s v t p.0 p.1)))))
      (any_part w.is_first first looped h)
      (λ s g. leaves_bind KeptAny MadeIn (w.any_condition known func result line test)
      (λ v. bind (w.any_part w.is_third b looped) (λ t. bind (w.looped_body known func result line own part) (λ p. pure (tk.For s v t p.0 p.1))))
      (any_condition line test q)
      (λ v d. leaves_bind MadeAny MadeIn (w.any_part w.is_third b looped)
      (λ t. bind (w.looped_body known func result line own part) (λ p. pure (tk.For s v t p.0 p.1)))
      (any_part w.is_third third looped i)
      (λ t f. leaves_bind MadeBody MadeIn (w.looped_body known func result line own part) (λ p. pure (tk.For s v t p.0 p.1)) (looped_body line own body j)
      (λ p u. leaves_pure MadeIn (tk.For s v t p.0 p.1) (made_for s v t p.0 p.1 g d f u))))))))

  -- ---- lists of statements

  abbrev MadeAll : List TStmt → Type 0
  MadeAll ds = Made (terms_of ds)

  statements : (ss : List Stmt) (looped : Bool) → AllOf Fine ss → Leaves MadeAll (w.statements known func result looped ss)
  statements [] looped hs = leaves_pure MadeAll [] nothing
  statements (b ∷ ss) looped (n.more h hs) =
      leaves_bind MadeStmt MadeAll ((w.part known func result b).walk looped)
      (λ t. bind (w.statements known func result looped ss) (λ ts. pure (t ∷ ts))) (h looped)
      (λ t g. leaves_bind MadeAll MadeAll (w.statements known func result looped ss) (λ ts. pure (t ∷ ts)) (statements ss looped hs)
      (λ ts d. leaves_pure MadeAll (t ∷ ts) (two (terms t) (terms_of ts) g d)))

  made_each : (ts : List TStmt) → MadeAll ts → Made (all_terms (map terms ts))
  made_each ts h = subst Made (same ts) h
    where
      same : (ts : List TStmt) → terms_of ts ≡ all_terms (map terms ts)
      same [] = refl
      same (t ∷ ts) = ap (both_terms (terms t)) (same ts)

  block_fine : (ss : List Stmt) → AllOf Fine ss → KindFine (k.Block ss)
  block_fine ss hs line looped =
      by_walk MadeIn (nodes.walks-Block known func result ss line looped)
      (leaves_within MadeIn (bind (w.statements known func result looped ss) (λ ts. pure (tk.Block ts)))
      (leaves_bind MadeAll MadeIn (w.statements known func result looped ss) (λ ts. pure (tk.Block ts)) (statements ss looped hs)
      (λ ts g. leaves_pure MadeIn (tk.Block ts) (made_kind (TKind-F.Block ts) (tk.Block ts) (tk.rolls-Block ts) (made_each ts g)))))

  return_fine : (v : Option Expr) → IfAny FineExpr v → KindFine (k.Return v)
  return_fine None f line looped =
      by_walk MadeIn (nodes.walks-Return known func result None line looped)
      (leaves_after MadeIn (lift line (ensure (w.is_void result) Return)) (λ _. pure (tk.Return None))
      (λ _. leaves_pure MadeIn (tk.Return None) (made_kind (TKind-F.Return None) (tk.Return None) (tk.rolls-Return None) nothing)))
  return_fine (Some v) (present f) line looped =
      by_walk MadeIn (nodes.walks-Return known func result (Some v) line looped)
      (leaves_bind Good MadeIn (w.operand_of known func result line v)
      (λ y. bind (lift line (ensure (not (w.is_void result)) Return)) (λ _. bind (lift line (o.fitting result y)) (λ a. pure (tk.Return (Some a)))))
      (operand_of line v f)
      (λ y h. leaves_after MadeIn (lift line (ensure (not (w.is_void result)) Return))
      (λ _. bind (lift line (o.fitting result y)) (λ a. pure (tk.Return (Some a))))
      (λ _. leaves_bind P MadeIn (lift line (o.fitting result y)) (λ a. pure (tk.Return (Some a)))
      (leaves_lift P line (o.fitting result y) (e.fitting_good N known P Q R c y result h))
      (λ a g. leaves_pure MadeIn (tk.Return (Some a)) (made_kind (TKind-F.Return (Some a)) (tk.Return (Some a)) (tk.rolls-Return (Some a)) (one a g))))))

  leave_fine : (line : ℕ) (looped : Bool) (d : TKind) → MadeIn d → Leaves MadeIn (w.leave known func result line looped d)
  leave_fine line looped d h = leaves_after MadeIn (lift line (ensure looped Outside)) (λ _. pure d) (λ _. leaves_pure MadeIn d h)

  break_fine : KindFine k.Break
  break_fine line looped =
      by_walk MadeIn (nodes.walks-Break known func result line looped)
      (leave_fine line looped tk.Break (made_kind TKind-F.Break tk.Break tk.rolls-Break nothing))

  continue_fine : KindFine k.Continue
  continue_fine line looped =
      by_walk MadeIn (nodes.walks-Continue known func result line looped)
      (leave_fine line looped tk.Continue (made_kind TKind-F.Continue tk.Continue tk.rolls-Continue nothing))

  empty_fine : KindFine k.Empty
  empty_fine line looped =
      by_walk MadeIn (nodes.walks-Empty known func result line looped)
      (leaves_pure MadeIn tk.Empty (made_kind TKind-F.Empty tk.Empty tk.rolls-Empty nothing))

  stmt_fine : (line : ℕ) (d : StmtKind) → KindFine d → Fine (roll-Stmt (record { line = line; kind = d }))
  stmt_fine line d h looped =
      let b = roll-Stmt (record { line = line; kind = d }) in
      let out : Stmt-F StmtKind Stmt → Walk TStmt = λ r. bind ((w.kind_part known func result r.kind).walk r.line looped)
      (λ y. pure (roll-TStmt (record { line = r.line; kind = y }))) in
      by_walk MadeStmt (nodes.walks-stmt known func result b looped ∙ ap out (out-roll-Stmt (record { line = line; kind = d })))
      (leaves_bind MadeIn MadeStmt ((w.kind_part known func result d).walk line looped) (λ y. pure (roll-TStmt (record { line = line; kind = y })))
      (h line looped)
      (λ y g. leaves_pure MadeStmt (roll-TStmt (record { line = line; kind = y })) (made_stmt line y g)))

  pub fine_cases : StmtCases FineExpr Fine KindFine
  fine_cases = record {
    stmt = stmt_fine;
    empty = empty_fine;
    declare = declare_fine;
    assign = assign_fine;
    update = update_fine;
    call = call_fine;
    print = print_fine;
    choice = choice_fine;
    while_loop = while_fine;
    for_loop = for_fine;
    block = block_fine;
    returns = return_fine;
    breaks = break_fine;
    continues = continue_fine;
  }

  pub statements_made : (ss : List Stmt) (looped : Bool) → AllOf Fine ss → Leaves MadeAll (w.statements known func result looped ss)
  statements_made ss looped hs = statements ss looped hs
