use Rattle.std.proofs.Common.{◌≡◌, length, []}
use Rattle.al_grammar.specs.Steps.{repeat}
use Rattle.al_grammar.specs.ProgramParser.{item_turn}
use Rattle.al_parser.proofs.program.all_items.Given as goal

-- what is left to read gives what all gives
abbrev pub invariant-loop-cursor : goal.invariant-loop-cursor
invariant-loop-cursor l = repeat item_turn l.found l.cursor.rest.now ≡ repeat item_turn [] l.initial.cursor.rest.now

abbrev pub decreases-loop-cursor : goal.decreases-loop-cursor
decreases-loop-cursor l = length l.cursor.rest.now
