use Rattle.std.proofs.Common.{◌≡◌, length, []}
use Rattle.al_grammar.specs.Steps.{repeat}
use Rattle.al_grammar.specs.ProgramParser.{param_turn}
use Rattle.al_parser.proofs.items.param_list.Given as goal

-- what is left to read gives what all gives
abbrev pub invariant-loop-found : goal.invariant-loop-found
invariant-loop-found l = repeat param_turn l.found l.cursor.rest.now ≡ repeat param_turn [] l.initial.cursor.rest.now

abbrev pub decreases-loop-found : goal.decreases-loop-found
decreases-loop-found l = length l.cursor.rest.now
