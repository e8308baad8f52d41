use Rattle.std.proofs.Common.{◌≡◌, length, []}
use Rattle.al_grammar.specs.Steps.{repeat}
use Rattle.al_grammar.specs.ProgramParser.{field_turn}
use Rattle.al_parser.proofs.items.fields.Given as goal

-- what is left to read gives what all gives
abbrev pub invariant-loop-found : goal.invariant-loop-found
invariant-loop-found l = repeat field_turn l.found l.cursor.rest.now ≡ repeat field_turn [] l.initial.cursor.rest.now

abbrev pub decreases-loop-found : goal.decreases-loop-found
decreases-loop-found l = length l.cursor.rest.now
