-- The counter and the bound of an annotated loop are locals of its function.
use Rattle.std.proofs.Common.{◌≡◌, ℕ, ◌<◌, Bool, true, false, not, ◌&&◌, ◌==◌, if◌then◌else◌, List, length, Option, Some, None, refl, subst}
use Rattle.std.specs.Prelude.{slice_get}
use Rattle.std.proofs.lemmas.Option.{slice_get_within}
use Rattle.al_core.specs.declared.choices.Bound.{Bound}
use Rattle.al_core.specs.declared.choices.Bound.TheVariants as bound
use Rattle.al_core.specs.declared.typed_tree.TExpr.{TExpr, out-TExpr}
use Rattle.al_core.specs.declared.typed_tree.TPlace.{TPlace}
use Rattle.al_core.specs.declared.typed_tree.TExpr.TheOpen.{TExpr-F}
use Rattle.al_core.specs.declared.typed_tree.TStmt.{TStmt, out-TStmt}
use Rattle.al_core.specs.declared.typed_tree.TKind.{TKind, out-TKind}
use Rattle.al_core.specs.declared.typed_tree.TKind.TheOpen.{TKind-F}
use Rattle.al_core.specs.declared.typed_tree.TLocal.{TLocal}
use Rattle.al_rules.specs.ForLoops.{is_integer, is_int_local, counter_in, counter_of, bound_in, bound_by, bound_of}
use Rattle.al_rules_laws.proofs.Logic.{and_parts, some_is}
use Rattle.al_rules_laws.proofs.LoopEntries.{bound_less}
use Rattle.al_code.specs.Valid.{BoundInRange}

integer_there : (locals : List TLocal) (n : ℕ) (m : Option TLocal) → slice_get locals n ≡ m → is_int_local m ≡ true → n < length locals
integer_there locals n (Some v) at e = slice_get_within locals n v at
integer_there locals n None at e = absurd cc

counter_inside : (locals : List TLocal) (y : TKind-F TKind TStmt) (c : ℕ) → counter_in locals y ≡ Some c → c < length locals
counter_inside locals (TKind-F.SetLocal n x) c e = by (is_integer locals n) refl e
  where
    by : (b : Bool) → is_integer locals n ≡ b → (if b then Some n else None) ≡ Some c → c < length locals
    by true is e = subst (λ n. n < length locals) (some_is e) (integer_there locals n (slice_get locals n) refl is)
    by false is e = absurd cc
counter_inside locals TKind-F.Empty c e = absurd cc
counter_inside locals (TKind-F.Store p x) c e = absurd cc
counter_inside locals (TKind-F.UpdateLocal op n x) c e = absurd cc
counter_inside locals (TKind-F.UpdateAt op p x) c e = absurd cc
counter_inside locals (TKind-F.Call x) c e = absurd cc
counter_inside locals (TKind-F.Print format xs) c e = absurd cc
counter_inside locals (TKind-F.If x a b) c e = absurd cc
counter_inside locals (TKind-F.While x a) c e = absurd cc
counter_inside locals (TKind-F.For first test third body number) c e = absurd cc
counter_inside locals (TKind-F.Block ss) c e = absurd cc
counter_inside locals (TKind-F.Return x) c e = absurd cc
counter_inside locals TKind-F.Break c e = absurd cc
counter_inside locals TKind-F.Continue c e = absurd cc

pub counter_ranged : (locals : List TLocal) (first : Option TStmt) (c : ℕ) → counter_of locals first ≡ Some c → c < length locals
counter_ranged locals None c e = absurd cc
counter_ranged locals (Some s) c e = counter_inside locals (out-TKind (out-TStmt s).kind) c e

bound_inside : (locals : List TLocal) (counter : ℕ) (y : TExpr-F TExpr TPlace) (b : Bound) → bound_in locals counter y ≡ Some b
    → BoundInRange (length locals) b
bound_inside locals counter (TExpr-F.Number n) b e = subst (BoundInRange (length locals)) (some_is e) tt
bound_inside locals counter (TExpr-F.Local n) b e = by (is_integer locals n && not (n == counter)) refl e
  where
    by : (t : Bool) → (is_integer locals n && not (n == counter)) ≡ t → (if t then Some (bound.Local n) else None) ≡ Some b → BoundInRange (length locals) b
    by true is e =
        subst (BoundInRange (length locals)) (some_is e)
        (integer_there locals n (slice_get locals n) refl (and_parts (is_integer locals n) (not (n == counter)) is).0)
    by false is e = absurd cc
bound_inside locals counter (TExpr-F.Load want p) b e = absurd cc
bound_inside locals counter (TExpr-F.Addr p) b e = absurd cc
bound_inside locals counter (TExpr-F.Unary op x) b e = absurd cc
bound_inside locals counter (TExpr-F.Binary op x y) b e = absurd cc
bound_inside locals counter (TExpr-F.Same equal x y) b e = absurd cc
bound_inside locals counter (TExpr-F.And x y) b e = absurd cc
bound_inside locals counter (TExpr-F.Or x y) b e = absurd cc
bound_inside locals counter (TExpr-F.Call f xs) b e = absurd cc
bound_inside locals counter (TExpr-F.Input x) b e = absurd cc
bound_inside locals counter TExpr-F.Inputs b e = absurd cc
bound_inside locals counter (TExpr-F.Choose op x y) b e = absurd cc
bound_inside locals counter (TExpr-F.Calloc x size) b e = absurd cc
bound_inside locals counter (TExpr-F.Free x) b e = absurd cc

bound_beside : (locals : List TLocal) (counter : ℕ) (y : TExpr-F TExpr TPlace) (b : Bound) → bound_by locals counter y ≡ Some b
    → BoundInRange (length locals) b
bound_beside locals counter (TExpr-F.Binary op x y) b e = bound_inside locals counter (out-TExpr y) b (bound_less locals counter op x y b e)
bound_beside locals counter (TExpr-F.Number n) b e = absurd cc
bound_beside locals counter (TExpr-F.Local n) b e = absurd cc
bound_beside locals counter (TExpr-F.Load want p) b e = absurd cc
bound_beside locals counter (TExpr-F.Addr p) b e = absurd cc
bound_beside locals counter (TExpr-F.Unary op x) b e = absurd cc
bound_beside locals counter (TExpr-F.Same equal x y) b e = absurd cc
bound_beside locals counter (TExpr-F.And x y) b e = absurd cc
bound_beside locals counter (TExpr-F.Or x y) b e = absurd cc
bound_beside locals counter (TExpr-F.Call f xs) b e = absurd cc
bound_beside locals counter (TExpr-F.Input x) b e = absurd cc
bound_beside locals counter TExpr-F.Inputs b e = absurd cc
bound_beside locals counter (TExpr-F.Choose op x y) b e = absurd cc
bound_beside locals counter (TExpr-F.Calloc x size) b e = absurd cc
bound_beside locals counter (TExpr-F.Free x) b e = absurd cc

pub bound_ranged : (locals : List TLocal) (counter : ℕ) (test : Option TExpr) (b : Bound) → bound_of locals counter test ≡ Some b
    → BoundInRange (length locals) b
bound_ranged locals counter None b e = absurd cc
bound_ranged locals counter (Some x) b e = bound_beside locals counter (out-TExpr x) b e
