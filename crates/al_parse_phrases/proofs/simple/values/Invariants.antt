use Rattle.std.proofs.Common.{◌≡◌, length, []}
use Rattle.al_grammar.specs.Steps.{repeat}
use Rattle.al_grammar.specs.StatementParser.{value}
use Rattle.al_parse_phrases.proofs.simple.values.Given as goal

-- what is left to read gives what all gives
abbrev pub invariant-loop-found : goal.invariant-loop-found
invariant-loop-found l = repeat value l.found l.cursor.rest.now ≡ repeat value [] l.initial.cursor.rest.now

abbrev pub decreases-loop-found : goal.decreases-loop-found
decreases-loop-found l = length l.cursor.rest.now
