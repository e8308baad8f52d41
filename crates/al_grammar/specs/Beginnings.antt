-- What a program may begin with, and the first token that is bad.
use Rattle.std.specs.Prelude.{◌≤◌, ◌<◌, ℕ, suc, ◌++◌, length, take, Option, Some, None}
use Rattle.al_source.specs.declared.source_tree.Program.{Program}
use Rattle.al_grammar.specs.Phrases.{Tokens}
use Rattle.al_grammar.specs.Programs.{Derives}

-- Some tokens may follow so that the whole is a program.
abbrev pub Begins : Tokens → Type 0
Begins ts = (more : Tokens) × (p : Program) × Derives (ts ++ more) p

-- The place of the first token with which the tokens so far begin no program; the place past the last where all of
-- them begin one and are none; no place exactly for a program.
abbrev pub IsFirstBad : Tokens → Option ℕ → Type 0
IsFirstBad ts None = (p : Program) × Derives ts p
IsFirstBad ts (Some place) =
    (place ≤ length ts) × ((p : Program) → Derives ts p → ⊥)
    × Begins (take place ts) × (place < length ts → Begins (take (suc place) ts) → ⊥)
