-- What a fault of the front is to the definitions: a refusal, but for want of memory. A refusal by the grammar tells
-- where the source goes wrong.
use Rattle.std.specs.Prelude.{◌≡◌, ◌≢◌, ⊤, Option, Some, None}
use Rattle.al_grammar.specs.Characters.{Bytes}
use Rattle.al_grammar.specs.Phrases.{Tokens}
use Rattle.al_grammar.specs.Beginnings.{IsFirstBad}
use Rattle.al_rules.specs.declared.faults.Refusal.{Refusal}
use Rattle.al_rules.specs.declared.faults.Refusal.TheVariants.{Grammar}
use Rattle.al_front.specs.Places.{IsBadIn}
use Rattle.al_front.specs.declared.fault.FrontFault.{FrontFault}
use Rattle.al_front.specs.declared.fault.FrontFault.TheVariants.{Refused, NoProgram, Memory}

abbrev pub refused : FrontFault → Option Refusal
refused (Refused cause) = Some cause
refused (NoProgram bad) = Some Grammar
refused Memory = None

-- The tokens of a source that is no program are those of the source, with the place of the first that is bad. No other
-- refusal is by the grammar.
abbrev pub TellsPlace : Bytes → FrontFault → Type 0
TellsPlace source (Refused cause) = cause ≢ Grammar
TellsPlace source (NoProgram bad) = IsBadIn source bad
TellsPlace source Memory = ⊤

-- the same, of these tokens, which nothing else is the matter with
abbrev pub TellsPlaceIn : Tokens → FrontFault → Type 0
TellsPlaceIn tokens (Refused cause) = ⊥
TellsPlaceIn tokens (NoProgram bad) = (bad.tokens ≡ tokens) × IsFirstBad tokens (Some bad.place)
TellsPlaceIn tokens Memory = ⊤
