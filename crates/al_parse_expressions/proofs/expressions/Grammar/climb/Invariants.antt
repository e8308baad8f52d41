use Rattle.std.proofs.Common.{◌≡◌, ◌≤◌, length}
use Rattle.al_grammar.specs.ExpressionParser.{parse, climb}
use Rattle.al_parse_expressions.specs.Cursors.{state}
use Rattle.al_parse_expressions.proofs.expressions.Grammar.climb.Given as goal

-- what is left to read gives what all gives
abbrev pub invariant-loop-at : goal.invariant-loop-at
invariant-loop-at g l = record {
  same : parse (climb l.level l.left) (state l.cursor) ≡ parse (climb l.level l.initial.left) (state l.initial.cursor);
  shorter : length l.cursor.rest.now ≤ length l.initial.cursor.rest.now;
}

abbrev pub decreases-loop-at : goal.decreases-loop-at
decreases-loop-at g l = length l.cursor.rest.now
