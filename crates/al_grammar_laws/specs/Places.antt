-- Where the parser stops.
use Rattle.std.specs.Prelude.{ℕ, ◌-◌, length, Option, Some, None, Ok, Err}
use Rattle.al_grammar.specs.Phrases.{Tokens}
use Rattle.al_grammar.specs.Steps.{Read}

-- the place in the tokens where a reading of them stopped, or none where it read them
abbrev pub place_of : {A : Type 0} → Tokens → Read A → Option ℕ
place_of ts (Ok p) = None
place_of ts (Err rest) = Some (length ts - length rest)
