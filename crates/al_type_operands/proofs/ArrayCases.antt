-- Elements of arrays, and of what pointers lead to.
use Rattle.std.proofs.Common.{◌≡◌, true, false, Option, Some, None, Ok, Err, refl, sym, true≢false}
use Rattle.std.specs.Prelude.{is_some}
use Rattle.al_source.specs.declared.source_tree.CType.{CType}
use Rattle.al_core.specs.declared.typed_tree.TExpr.{TExpr}
use Rattle.al_core.specs.declared.typed_tree.TPlace.{TPlace}
use Rattle.al_core.specs.declared.typed_tree.TPlace.TheVariants as p
use Rattle.al_rules.specs.declared.faults.TypeKind.TheVariants.{Mismatch}
use Rattle.al_rules.specs.declared.operands.Operand.{Operand}
use Rattle.al_source.specs.Steps.{and_then}
use Rattle.al_rules.specs.Checks.{Checked, some_or}
use Rattle.al_rules.specs.Scopes.{Known}
use Rattle.al_rules.specs.Operands.{array_in, target, indexed, indexed_by, element_place}
use Rattle.al_type_operands.specs.Arrays.{base_by, base_of}

some_base : (a : Option (CType × TPlace)) (x : Operand) → is_some a ≡ true → base_by a x ≡ some_or a Mismatch
some_base (Some a) x is = refl
some_base None x is = absurd (true≢false (sym is))

pub base_array : (x : Operand) → is_some (array_in x) ≡ true → base_of x ≡ some_or (array_in x) Mismatch
base_array x is = some_base (array_in x) x is

no_base : (a : Option (CType × TPlace)) (x : Operand) → is_some a ≡ false → base_by a x ≡ and_then (target x) (λ a. Ok (a.0, p.At a.1))
no_base (Some a) x is = absurd (true≢false is)
no_base None x is = refl

pub base_behind : (x : Operand) → is_some (array_in x) ≡ false → base_of x ≡ and_then (target x) (λ a. Ok (a.0, p.At a.1))
base_behind x is = no_base (array_in x) x is

pub ruleset bases = (base_array, base_behind)

through : (known : Known) (t : Checked (CType × TExpr)) (i : Operand)
    → and_then t (λ a. element_place known a.0 (p.At a.1) i)
    ≡ and_then {A = CType × TPlace} (and_then {B = CType × TPlace} t (λ a. Ok (a.0, p.At a.1))) (λ a. element_place known a.0 a.1 i)
through known (Ok a) i = refl
through known (Err f) i = refl

by_base : (known : Known) (a : Option (CType × TPlace)) (x i : Operand) → indexed_by known a x i ≡ and_then (base_by a x) (λ a. element_place known a.0 a.1 i)
by_base known (Some a) x i = refl
by_base known None x i = through known (target x) i

pub indexed_is : (known : Known) (x i : Operand) → indexed known x i ≡ and_then (base_of x) (λ a. element_place known a.0 a.1 i)
unfolding indexed
indexed_is known x i = by_base known (array_in x) x i
