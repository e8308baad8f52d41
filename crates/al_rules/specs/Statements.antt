-- The typed statement of a statement, or its first fault.
use Rattle.std.specs.Prelude.{ℕ, ◌==◌, Bool, true, false, not, if◌then◌else◌, List, [], ◌∷◌, length, Option, Some, None, is_none, Ok, Err, pos, count_by}
use Rattle.al_source.specs.Steps.{and_then}
use Rattle.al_source.specs.declared.annotations.LoopNote.{LoopNote}
use Rattle.al_source.specs.declared.annotations.NamedRed.{NamedRed}
use Rattle.al_source.specs.declared.operators.BinOp.{BinOp}
use Rattle.al_source.specs.declared.operators.BinOp.TheVariants.{Lt, Le, Gt, Ge, Eq, Ne}
use Rattle.al_source.specs.declared.texts.Piece.{Piece}
use Rattle.al_source.specs.declared.texts.Piece.TheVariants as piece
use Rattle.al_source.specs.declared.source_tree.CType.{CType, out-CType}
use Rattle.al_source.specs.declared.source_tree.CType.TheOpen.{CType-F}
use Rattle.al_source.specs.declared.source_tree.Expr.{Expr}
use Rattle.al_source.specs.declared.source_tree.Stmt.{Stmt, fold-Stmt}
use Rattle.al_source.specs.declared.source_tree.StmtKind.{StmtKind, fold-StmtKind}
use Rattle.al_source.specs.declared.source_tree.StmtKind.TheOpen.{Stmt-F, StmtKind-F}
use Rattle.al_core.specs.declared.choices.Choice.{Choice}
use Rattle.al_core.specs.declared.choices.Red.{Red}
use Rattle.al_core.specs.declared.values.Obj.TheVariants as obj
use Rattle.al_core.specs.declared.values.Addr.{Addr}
use Rattle.al_core.specs.declared.values.Addr.TheVariants as addr
use Rattle.al_core.specs.Lines.{by_words}
use Rattle.al_core.specs.declared.typed_tree.TExpr.{TExpr}
use Rattle.al_core.specs.declared.typed_tree.TExpr.TheVariants as e
use Rattle.al_core.specs.declared.typed_tree.TStmt.{TStmt, roll-TStmt}
use Rattle.al_core.specs.declared.typed_tree.TKind.{TKind}
use Rattle.al_core.specs.declared.typed_tree.TKind.TheVariants as k
use Rattle.al_rules.specs.declared.faults.TypeKind.TheVariants.{Twice, Unknown, Shape, Mismatch, NotPlace, Count, Return, Outside}
use Rattle.al_rules.specs.declared.operands.Operand.{Operand}
use Rattle.al_rules.specs.declared.operands.Operand.TheVariants as operand
use Rattle.al_rules.specs.Names.{Name}
use Rattle.al_rules.specs.Types.{is_int, is_scalar, type_checked}
use Rattle.al_rules.specs.Checks.{Checked, each, ensure, some_or}
use Rattle.al_rules.specs.Scopes.{Known, Variable, Local, Global, in_scope, is_declared, is_struct, variable_named}
use Rattle.al_rules.specs.Operands.{integer, scalar, fitting}
use Rattle.al_rules.specs.Expressions as x
use Rattle.al_rules.specs.Walks.{Walk, pure, checks, lift, fails, add_local, begin_loop, end_loop, within, all_steps, ◌>>=◌, ◌>>◌}

-- ---- forms

-- No tokens derive these statements, and they are `Shape`: a declaration as the branch of an `if` or the body of a
-- loop; as a `for`'s first part, what is no declaration with a value and not simple, and as its third, what is not
-- simple; an update by a comparison.

-- a declaration without a value, one with a value, what is simple (an assignment, an update, a call, a `printf`), and
-- any other statement
pub data Sort : Type 0 where
  Declares : Sort
  Sets : Sort
  Simple : Sort
  Other : Sort

abbrev pub is_first : Sort → Bool
is_first Sets = true
is_first Simple = true
is_first _ = false

abbrev pub is_third : Sort → Bool
is_third Simple = true
is_third _ = false

-- what may be the branch of an `if` or the body of a loop
abbrev pub is_body : Sort → Bool
is_body Simple = true
is_body Other = true
is_body _ = false

abbrev pub may_update : BinOp → Bool
may_update Lt = false
may_update Le = false
may_update Gt = false
may_update Ge = false
may_update Eq = false
may_update Ne = false
may_update _ = true

-- a statement: its sort, its line, and its walk, which is told whether it stands in a loop
pub record Part : Type 0 where
  pub sort : Sort
  pub line : ℕ
  pub walk : Bool → Walk TStmt

-- the same, where the line is still to be told
pub record KindPart : Type 0 where
  pub sort : Sort
  pub walk : ℕ → Bool → Walk TKind

abbrev pub part_if : (Sort → Bool) → Part → Bool → Walk TStmt
part_if allowed s looped = if allowed s.sort then s.walk looped else fails s.line Shape

abbrev pub any_part : (Sort → Bool) → Option Part → Bool → Walk (Option TStmt)
any_part allowed None looped = pure None
any_part allowed (Some s) looped = part_if allowed s looped >>= (λ t. pure (Some t))

abbrev pub walks_of : Bool → List Part → List (Walk TStmt)
walks_of looped [] = []
walks_of looped (s ∷ ss) = s.walk looped ∷ walks_of looped ss

-- ---- parts of statements

abbrev pub is_number : Piece → Bool
is_number (piece.Plain bytes) = false
is_number piece.Number = true

-- how many arguments a text prints
abbrev pub numbers_in : List Piece → ℕ
numbers_in = count_by is_number

-- an assignment to what an operand is
abbrev pub assigned : Operand → Operand → Checked TKind
assigned (operand.Variable n a) y = and_then (fitting a y) (λ v. Ok (k.SetLocal n v))
assigned (operand.Place a q) y = and_then (fitting a y) (λ v. Ok (k.Store q v))
assigned _ y = Err NotPlace

-- an update of an integer
abbrev pub updated : BinOp → Operand → Operand → Checked TKind
updated op (operand.Variable n a) y =
    and_then (ensure (is_int a) Mismatch) (λ _. and_then (integer y) (λ v. Ok (k.UpdateLocal op n v)))
updated op (operand.Place a q) y =
    and_then (ensure (is_int a) Mismatch) (λ _. and_then (integer y) (λ v. Ok (k.UpdateAt op q v)))
updated op _ y = Err NotPlace

abbrev pub is_place : Operand → Bool
is_place (operand.Variable n a) = true
is_place (operand.Place a q) = true
is_place _ = false

abbrev pub is_void_case : CType-F CType → Bool
is_void_case CType-F.Void = true
is_void_case _ = false

unfoldable pub is_void : CType → Bool
is_void a = is_void_case (out-CType a)

-- a reduction variable is an integer
abbrev pub variable_at : Variable → Checked Addr
variable_at (Local n a) = and_then (ensure (is_int a) Mismatch) (λ _. Ok (addr.Local n))
variable_at (Global n a) = and_then (ensure (is_int a) Mismatch) (λ _. Ok (addr.Word (obj.Global n) 0))

-- in the function of this number, which gives a value of this type
module _ (known : Known) (func : ℕ) (result : CType) where
  abbrev pub operand_of : ℕ → Expr → Walk Operand
  operand_of line a = checks line (λ scope. x.operand known (in_scope scope) a)

  abbrev pub operands_of : ℕ → List Expr → Walk (List Operand)
  operands_of line as' = checks line (λ scope. x.operands known (in_scope scope) as')

  abbrev pub condition : ℕ → Expr → Walk TExpr
  condition line a = operand_of line a >>= (λ c. lift line (scalar c))

  abbrev pub any_condition : ℕ → Option Expr → Walk (Option TExpr)
  any_condition line None = pure None
  any_condition line (Some a) = condition line a >>= (λ c. pure (Some c))

  -- ---- declarations

  -- a declaration without a value is 0, or null
  abbrev pub initial : ℕ → CType → Option Expr → Walk TExpr
  initial line a None = pure (e.Number (pos 0))
  initial line a (Some v) = operand_of line v >>= (λ y. lift line (fitting a y))

  -- The name is new in its scope, and it is in scope in its own initializer (C99 6.2.1p7).
  abbrev pub declare : ℕ → CType → Name → Option Expr → Walk TKind
  declare line a name v =
      checks line (λ scope. ensure (not (is_declared name scope)) Twice)
      >> lift line (type_checked (is_struct known.structs) (is_struct known.structs) is_scalar a)
      >> (add_local name a >>= (λ n. initial line a v >>= (λ y. pure (k.SetLocal n y))))

  -- ---- annotations

  abbrev pub reduction : ℕ → NamedRed → Walk Red
  reduction line r =
      checks line (λ scope. and_then (some_or (variable_named known (in_scope scope) r.name) Unknown) variable_at)
      >>= (λ at. pure (record { op = r.op; at = at }))

  abbrev pub reductions : ℕ → List NamedRed → Walk (List Red)
  reductions line [] = pure []
  reductions line (r ∷ rs) = reduction line r >>= (λ a. reductions line rs >>= (λ as'. pure (a ∷ as')))

  abbrev pub choice_of : ℕ → Option LoopNote → Walk (Option Choice)
  choice_of line None = pure None
  choice_of line (Some n) = reductions line n.reduce >>= (λ reds. pure (Some (by_words n.policy n.order reds)))

  -- the body of a loop, and the loop's number where it is annotated
  abbrev pub looped_body : ℕ → Option Choice → Part → Walk (TStmt × Option ℕ)
  looped_body line None body = part_if is_body body true >>= (λ b. pure (b, None))
  looped_body line (Some own) body =
      begin_loop func line own >>= (λ n. part_if is_body body true >>= (λ b. end_loop n >> pure (b, Some n)))

  -- ---- statements

  abbrev pub returned : ℕ → Option Expr → Walk TKind
  returned line None = lift line (ensure (is_void result) Return) >> pure (k.Return None)
  returned line (Some v) =
      operand_of line v >>= (λ y. lift line (ensure (not (is_void result)) Return)
      >> (lift line (fitting result y) >>= (λ a. pure (k.Return (Some a)))))

  abbrev pub leave : ℕ → Bool → TKind → Walk TKind
  leave line looped kind = lift line (ensure looped Outside) >> pure kind

  abbrev pub for_loop : ℕ → Bool → Option Part → Option Expr → Option Part → Part → Option Choice → Walk TKind
  for_loop line looped first test third body own = within (
      any_part is_first first looped >>= (λ a. any_condition line test >>= (λ c. any_part is_third third looped
      >>= (λ t. looped_body line own body >>= (λ b. pure (k.For a c t b.0 b.1))))))

  abbrev pub walk_case : StmtKind-F KindPart Part → ℕ → Bool → Walk TKind
  walk_case StmtKind-F.Empty line looped = pure k.Empty
  walk_case (StmtKind-F.Declare a name v) line looped = declare line a name v
  walk_case (StmtKind-F.Assign a b) line looped =
      operand_of line a >>= (λ l. lift line (ensure (is_place l) NotPlace)
      >> (operand_of line b >>= (λ r. lift line (assigned l r))))
  walk_case (StmtKind-F.Update op a b) line looped =
      lift line (ensure (may_update op) Shape)
      >> (operand_of line a >>= (λ l. lift line (ensure (is_place l) NotPlace)
      >> (operand_of line b >>= (λ r. lift line (updated op l r)))))
  walk_case (StmtKind-F.Call name args) line looped =
      checks line (λ scope. x.call_alone known (in_scope scope) name (x.operands known (in_scope scope) args))
      >>= (λ c. pure (k.Call c))
  walk_case (StmtKind-F.Print format args) line looped =
      operands_of line args >>= (λ xs. lift line (ensure (length xs == numbers_in format) Count)
      >> (lift line (each integer xs) >>= (λ ns. pure (k.Print format ns))))
  walk_case (StmtKind-F.If c a b) line looped =
      condition line c >>= (λ t. part_if is_body a looped >>= (λ s. any_part is_body b looped
      >>= (λ r. pure (k.If t s r))))
  walk_case (StmtKind-F.While c a) line looped =
      condition line c >>= (λ t. part_if is_body a true >>= (λ s. pure (k.While t s)))
  walk_case (StmtKind-F.For first test third body note) line looped =
      choice_of line note >>= for_loop line looped first test third body
  walk_case (StmtKind-F.Block ss) line looped =
      within (all_steps (walks_of looped ss) >>= (λ ts. pure (k.Block ts)))
  walk_case (StmtKind-F.Return v) line looped = returned line v
  walk_case StmtKind-F.Break line looped = leave line looped k.Break
  walk_case StmtKind-F.Continue line looped = leave line looped k.Continue

  abbrev pub sort_case : StmtKind-F KindPart Part → Sort
  sort_case (StmtKind-F.Declare a name v) = if is_none v then Declares else Sets
  sort_case (StmtKind-F.Assign a b) = Simple
  sort_case (StmtKind-F.Update op a b) = Simple
  sort_case (StmtKind-F.Call name args) = Simple
  sort_case (StmtKind-F.Print format args) = Simple
  sort_case _ = Other

  abbrev pub kind_case : StmtKind-F KindPart Part → KindPart
  kind_case d = record { sort = sort_case d; walk = walk_case d }

  abbrev pub stmt_case : Stmt-F KindPart Part → Part
  stmt_case s = record {
    sort = s.kind.sort;
    line = s.line;
    walk = λ looped. s.kind.walk s.line looped >>= (λ d. pure (roll-TStmt (record { line = s.line; kind = d })));
  }

  unfoldable pub part : Stmt → Part
  part = fold-Stmt KindPart Part kind_case stmt_case

  unfoldable pub kind_part : StmtKind → KindPart
  kind_part = fold-StmtKind KindPart Part kind_case stmt_case

  abbrev pub statements : Bool → List Stmt → Walk (List TStmt)
  statements looped [] = pure []
  statements looped (s ∷ ss) = (part s).walk looped >>= (λ t. statements looped ss >>= (λ ts. pure (t ∷ ts)))
