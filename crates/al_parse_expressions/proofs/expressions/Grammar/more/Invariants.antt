use Rattle.std.proofs.Common.{◌≡◌, ◌≤◌, length}
use Rattle.al_grammar.specs.ExpressionParser.{parse, more}
use Rattle.al_parse_expressions.specs.Cursors.{state}
use Rattle.al_parse_expressions.proofs.expressions.Grammar.more.Given as goal

-- what is left to read gives what all gives
abbrev pub invariant-loop-found : goal.invariant-loop-found
invariant-loop-found g l = record {
  same : parse (more l.name l.found) (state l.cursor) ≡ parse (more l.initial.name l.initial.found) (state l.initial.cursor);
  shorter : length l.cursor.rest.now ≤ length l.initial.cursor.rest.now;
}

abbrev pub decreases-loop-found : goal.decreases-loop-found
decreases-loop-found g l = length l.cursor.rest.now
