-- What an answer that is there says of the checks that it came through.
use Rattle.std.proofs.Common.{◌≡◌, Bool, true, false, not, ◌&&◌, ◌||◌, Option, Some, None, Result, Ok, Err, refl, ◌⊎◌, inl, inr}
use Rattle.al_source.specs.Steps.{and_then}
use Rattle.al_rules.specs.declared.faults.TypeKind.{TypeKind}
use Rattle.al_rules.specs.Checks.{Checked, ensure, some_or, or_else}

pub and_parts : (a b : Bool) → (a && b) ≡ true → (a ≡ true) × (b ≡ true)
and_parts true true e = (refl, refl)
and_parts true false e = absurd cc
and_parts false b e = absurd cc

pub and_false : (a : Bool) → (a && false) ≡ false
and_false true = refl
and_false false = refl

pub and_both : {a b : Bool} → a ≡ true → b ≡ true → (a && b) ≡ true
and_both p q = rw (p, q) refl

pub or_parts : (a b : Bool) → (a || b) ≡ true → (a ≡ true) ⊎ (b ≡ true)
or_parts true b e = inl refl
or_parts false b e = inr e

pub or_none : (a b : Bool) → (a || b) ≡ false → (a ≡ false) × (b ≡ false)
or_none true b e = absurd cc
or_none false b e = (refl, e)

pub not_true : (a : Bool) → not a ≡ true → a ≡ false
not_true true e = absurd cc
not_true false e = refl

pub bool_cases : (a : Bool) → (a ≡ true) ⊎ (a ≡ false)
bool_cases true = inl refl
bool_cases false = inr refl

pub ensure_ok : (b : Bool) (k : TypeKind) (u : Unit {0}) → ensure b k ≡ Ok u → b ≡ true
ensure_ok true k u e = refl
ensure_ok false k u e = absurd cc

pub ensured : {b : Bool} (k : TypeKind) → b ≡ true → ensure b k ≡ Ok tt
ensured k e = rw e refl

pub then_ok : {A B F : Type 0} (r : Result A F) (f : A → Result B F) (b : B) → and_then r f ≡ Ok b → (a : A) × (r ≡ Ok a) × (f a ≡ Ok b)
then_ok (Ok a) f b e = (a, refl, e)
then_ok (Err x) f b e = absurd cc

pub some_ok : {A : Type 0} (o : Option A) (k : TypeKind) (a : A) → some_or o k ≡ Ok a → o ≡ Some a
some_ok (Some x) k a e = cc
some_ok None k a e = absurd cc

pub or_ok : {A : Type 0} (r s : Checked A) (a : A) → or_else r s ≡ Ok a → (r ≡ Ok a) ⊎ (s ≡ Ok a)
or_ok (Ok x) s a e = inl e
or_ok (Err k) s a e = inr e

pub ok_is : {A : Type 0} {a b : A} → ◌≡◌ {A = Checked A} (Ok a) (Ok b) → a ≡ b
ok_is e = cc

pub some_is : {A : Type 0} {a b : A} → Some a ≡ Some b → a ≡ b
some_is e = cc
