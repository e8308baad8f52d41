use Rattle.std.proofs.Common.{◌≡◌, ◌≤◌, length}
use Rattle.al_grammar.specs.ExpressionParser.{parse, suffix}
use Rattle.al_parse_expressions.specs.Cursors.{state}
use Rattle.al_parse_expressions.proofs.expressions.Grammar.suffix.Given as goal

-- what is left to read gives what all gives
abbrev pub invariant-loop-mark : goal.invariant-loop-mark
invariant-loop-mark g l = record {
  same : parse (suffix l.left) (state l.cursor) ≡ parse (suffix l.initial.left) (state l.initial.cursor);
  shorter : length l.cursor.rest.now ≤ length l.initial.cursor.rest.now;
}

abbrev pub decreases-loop-mark : goal.decreases-loop-mark
decreases-loop-mark g l = length l.cursor.rest.now
