-- Lists of so many arguments.
use Rattle.std.specs.Prelude.{List, [], ◌∷◌, Ok, Err}
use Rattle.al_rules.specs.declared.faults.TypeKind.TheVariants.{Count}
use Rattle.al_rules.specs.Checks.{Checked}

abbrev pub none_of : {A : Type 0} → List A → Checked (Unit {0})
none_of [] = Ok tt
none_of (x ∷ xs) = Err Count

abbrev pub only_of : {A : Type 0} → List A → Checked A
only_of (x ∷ []) = Ok x
only_of _ = Err Count

abbrev pub pair_of : {A : Type 0} → List A → Checked (A × A)
pair_of (x ∷ y ∷ []) = Ok (x, y)
pair_of _ = Err Count
