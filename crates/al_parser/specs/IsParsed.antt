-- What tokens are said to be.
use Rattle.std.specs.Prelude.{Some}
use Rattle.al_grammar.specs.Phrases.{Tokens}
use Rattle.al_grammar.specs.Programs.{Derives}
use Rattle.al_grammar.specs.Beginnings.{IsFirstBad}
use Rattle.al_parser.specs.declared.program.Parsed.{Parsed}
use Rattle.al_parser.specs.declared.program.Parsed.TheVariants.{Program, FirstBad}

-- the program that they derive, or the place at which they are bad
abbrev pub IsParsed : Tokens → Parsed → Type 0
IsParsed ts (Program p) = Derives ts p
IsParsed ts (FirstBad place) = IsFirstBad ts (Some place)
