-- Where code stands.
use Rattle.std.specs.Prelude.{Bool, true, false}
use Rattle.al_core.specs.Meaning.{Where, Outside, Inside}

abbrev pub is_outside : Where → Bool
is_outside Outside = true
is_outside Inside = false
