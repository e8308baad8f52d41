-- The tokens that a source spells, or its first fault, as one function.
use Rattle.std.specs.Prelude.{ℕ, zero, suc, ◌-◌, List, [], ◌∷◌, ◌++◌, option_to_list, Result, Ok, Err}
use Rattle.al_source.specs.declared.tokens.Token.{Token}
use Rattle.al_source.specs.declared.faults.LexFault.{LexFault}
use Rattle.al_grammar.specs.declared.place.Spot.{Spot}
use Rattle.al_grammar.specs.Characters.{Bytes}
use Rattle.al_grammar.specs.Spelling.{end_at, next, spot_after, first_spot}

-- tokens before what is read
abbrev pub with_front : List Token → Result (List Token) LexFault → Result (List Token) LexFault
with_front front (Ok ts) = Ok (front ++ ts)
with_front front (Err fault) = Err fault

-- What is read from a spot on. The number counts the bytes that are left of what stood there.
abbrev pub reading_from : ℕ → Spot → Bytes → Result (List Token) LexFault
reading_from left s [] = end_at s.place s
reading_from (suc left) s (b ∷ z) = reading_from left s z
reading_from zero s (b ∷ z) =
    elim (next s (b ∷ z)) [
      | Err fault ↦ Err fault
      | Ok n ↦ with_front (option_to_list n.token) (reading_from (n.len - 1) (spot_after s (b ∷ z) n) z)
    ]

unfoldable pub reading : Bytes → Result (List Token) LexFault
reading = reading_from 0 first_spot
