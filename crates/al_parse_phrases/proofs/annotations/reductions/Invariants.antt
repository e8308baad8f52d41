use Rattle.std.proofs.Common.{◌≡◌, length, []}
use Rattle.al_grammar.specs.Steps.{repeat}
use Rattle.al_grammar.specs.StatementParser.{reduce_turn}
use Rattle.al_parse_phrases.proofs.annotations.reductions.Given as goal

-- what is left to read gives what all gives
abbrev pub invariant-loop-cursor : goal.invariant-loop-cursor
invariant-loop-cursor l = repeat reduce_turn l.found l.cursor.rest.now ≡ repeat reduce_turn [] l.initial.cursor.rest.now

abbrev pub decreases-loop-cursor : goal.decreases-loop-cursor
decreases-loop-cursor l = length l.cursor.rest.now
