-- What the lexer's answers say of a source.
use Rattle.std.specs.Prelude.{◌≡◌, ◌<◌, ◌≤◌, ◌+◌, ⊤, List, Some, length}
use Rattle.al_source.specs.declared.limits.TheConstants.{SOURCE_BYTES}
use Rattle.al_source.specs.declared.tokens.Token.{Token}
use Rattle.al_source.specs.declared.faults.LexFault.{LexFault}
use Rattle.al_source.specs.declared.faults.LexFault.TheVariants.{TooLong, Memory}
use Rattle.al_grammar.specs.Characters.{Bytes}
use Rattle.al_grammar.specs.declared.place.Spot.{Spot}
use Rattle.al_grammar.specs.Reading.{with_front, reading_from}
use Rattle.al_grammar.specs.Spelling.{first_lexical_fault}

-- a spot with the bytes that follow it lies in a source that is not too long
pub record InBounds (s : Spot) (rest : Bytes) : Type 0 where
  pub at : s.at + length rest ≤ SOURCE_BYTES
  pub line : s.line + length rest ≤ SOURCE_BYTES + 1

-- the tokens so far and those that are read from one spot on are those of another
abbrev pub ReadsOn : List Token → Spot → Bytes → List Token → Spot → Bytes → Type 0
ReadsOn tokens s rest tokens' s' rest' =
    with_front tokens' (reading_from 0 s' rest') ≡ with_front tokens (reading_from 0 s rest)

-- why a source is refused: a lack of memory has no cause in it
abbrev pub Explains : Bytes → LexFault → Type 0
Explains source Memory = ⊤
Explains source TooLong = SOURCE_BYTES < length source
Explains source fault = (length source ≤ SOURCE_BYTES) × (first_lexical_fault source ≡ Some fault)
