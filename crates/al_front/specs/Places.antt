-- Where a source goes wrong whose tokens derive no program.
use Rattle.std.specs.Prelude.{ℕ, ◌≤◌, length, Option, Some, None, Result, Ok, Err}
use Rattle.al_source.specs.declared.limits.TheConstants.{SOURCE_BYTES}
use Rattle.al_grammar.specs.Characters.{Bytes}
use Rattle.al_grammar.specs.Phrases.{Tokens}
use Rattle.al_grammar.specs.Spelling.{Spells}
use Rattle.al_grammar.specs.Beginnings.{IsFirstBad}
use Rattle.al_grammar.specs.ProgramParser.{all_items}
use Rattle.al_grammar_laws.specs.Places.{place_of}
use Rattle.al_rules.specs.declared.faults.Refusal.{Refusal}
use Rattle.al_rules.specs.Refusals.{tokens_of}
use Rattle.al_front.specs.declared.fault.BadTokens.{BadTokens}

-- The source is not too long and spells these tokens, and the place is that of the first bad one.
pub record IsBadIn (source : Bytes) (bad : BadTokens) : Type 0 where
  pub short : length source ≤ SOURCE_BYTES
  pub spelled : Spells source bad.tokens
  pub first : IsFirstBad bad.tokens (Some bad.place)

abbrev pub placed : Tokens → Option ℕ → Option BadTokens
placed tokens (Some place) = Some (record { tokens = tokens; place = place })
placed tokens None = None

abbrev pub placed_in : Result Tokens Refusal → Option BadTokens
placed_in (Ok tokens) = placed tokens (place_of tokens (all_items tokens))
placed_in (Err cause) = None

-- The bad tokens of a source, where it has some. The place is that at which the function stops that reads them: that
-- it is the one above, and that there is one exactly where the grammar refuses the source, is proved
-- (`bad_tokens_are_told`).
abbrev pub bad_tokens : Bytes → Option BadTokens
bad_tokens source = placed_in (tokens_of source)
