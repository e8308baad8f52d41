-- The form that an annotated loop must have.
use Rattle.std.specs.Prelude.{ℕ, ◌==◌, Bool, true, false, not, ◌&&◌, if◌then◌else◌, List, Option, Some, None, option_and_then, slice_get, pos}
use Rattle.std.specs.Ordering.{int_eq}
use Rattle.al_source.specs.declared.operators.BinOp.TheVariants.{Add, Lt}
use Rattle.al_core.specs.declared.choices.Bound.{Bound}
use Rattle.al_core.specs.declared.choices.Bound.TheVariants as bound
use Rattle.al_core.specs.declared.values.Kind.{Kind}
use Rattle.al_core.specs.declared.values.Kind.TheVariants as kind
use Rattle.al_core.specs.declared.typed_tree.TExpr.{TExpr, out-TExpr}
use Rattle.al_core.specs.declared.typed_tree.TPlace.{TPlace}
use Rattle.al_core.specs.declared.typed_tree.TExpr.TheOpen.{TExpr-F}
use Rattle.al_core.specs.declared.typed_tree.TStmt.{TStmt, out-TStmt}
use Rattle.al_core.specs.declared.typed_tree.TKind.{TKind, out-TKind}
use Rattle.al_core.specs.declared.typed_tree.TKind.TheOpen.{TKind-F}
use Rattle.al_core.specs.declared.typed_tree.TLocal.{TLocal}
use Rattle.al_core.specs.Loops.{ForLoop}

abbrev pub is_kind : Kind → Bool
is_kind kind.Int = true
is_kind kind.Ptr = false

abbrev pub is_int_local : Option TLocal → Bool
is_int_local (Some v) = is_kind v.kind
is_int_local None = false

-- among these locals that of the number is an integer
abbrev pub is_integer : List TLocal → ℕ → Bool
is_integer locals n = is_int_local (slice_get locals n)

abbrev pub counter_in : List TLocal → TKind-F TKind TStmt → Option ℕ
counter_in locals (TKind-F.SetLocal n e) = if is_integer locals n then Some n else None
counter_in locals _ = None

-- the first part sets an integer local, the counter
abbrev pub counter_of : List TLocal → Option TStmt → Option ℕ
counter_of locals None = None
counter_of locals (Some s) = counter_in locals (out-TKind (out-TStmt s).kind)

abbrev pub bound_in : List TLocal → ℕ → TExpr-F TExpr TPlace → Option Bound
bound_in locals counter (TExpr-F.Number n) = Some (bound.Number n)
bound_in locals counter (TExpr-F.Local n) =
    if is_integer locals n && not (n == counter) then Some (bound.Local n) else None
bound_in locals counter _ = None

abbrev pub is_local : ℕ → TExpr-F TExpr TPlace → Bool
is_local n (TExpr-F.Local m) = m == n
is_local n _ = false

abbrev pub bound_by : List TLocal → ℕ → TExpr-F TExpr TPlace → Option Bound
bound_by locals counter (TExpr-F.Binary Lt a b) =
    if is_local counter (out-TExpr a) then bound_in locals counter (out-TExpr b) else None
bound_by locals counter _ = None

-- the test is that the counter is less than a number or another integer local, the bound
abbrev pub bound_of : List TLocal → ℕ → Option TExpr → Option Bound
bound_of locals counter None = None
bound_of locals counter (Some test) = bound_by locals counter (out-TExpr test)

abbrev pub is_one : TExpr-F TExpr TPlace → Bool
is_one (TExpr-F.Number n) = int_eq n (pos 1)
is_one _ = false

abbrev pub counts_in : ℕ → TKind-F TKind TStmt → Bool
counts_in counter (TKind-F.UpdateLocal Add n e) = (n == counter) && is_one (out-TExpr e)
counts_in counter _ = false

-- the third part adds 1 to the counter
abbrev pub counts : ℕ → Option TStmt → Bool
counts counter None = false
counts counter (Some s) = counts_in counter (out-TKind (out-TStmt s).kind)

abbrev pub form_by : List TLocal → ForLoop → ℕ → Option (ℕ × Bound)
form_by locals l counter =
    option_and_then (λ bound. if counts counter l.third then Some (counter, bound) else None)
    (bound_of locals counter l.test)

-- a loop of the form that is wanted, among these locals: its counter and its bound
abbrev pub form_of : List TLocal → ForLoop → Option (ℕ × Bound)
form_of locals l = option_and_then (form_by locals l) (counter_of locals l.first)
