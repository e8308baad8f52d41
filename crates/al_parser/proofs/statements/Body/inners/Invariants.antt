use Rattle.std.proofs.Common.{◌≡◌, length, []}
use Rattle.al_grammar.specs.Steps.{repeat}
use Rattle.al_grammar.specs.StatementParser.{inner_turn, statement}
use Rattle.al_parser.proofs.statements.Body.inners.Given as goal

-- what is left to read gives what all gives
abbrev pub invariant-loop-cursor : goal.invariant-loop-cursor
invariant-loop-cursor g l =
    repeat (inner_turn l.self.depth (statement l.self.depth)) l.found l.cursor.rest.now
    ≡ repeat (inner_turn l.self.depth (statement l.self.depth)) [] l.initial.cursor.rest.now

abbrev pub decreases-loop-cursor : goal.decreases-loop-cursor
decreases-loop-cursor g l = length l.cursor.rest.now
