use Rattle.std.proofs.Common.{◌≡◌, ◌≤◌, length}
use Rattle.al_grammar.specs.Steps.{repeat}
use Rattle.al_grammar.specs.StatementParser.{variable}
use Rattle.al_parse_phrases.proofs.annotations.variables.Given as goal

-- what is left to read gives what all gives
abbrev pub invariant-loop-found : goal.invariant-loop-found
invariant-loop-found l = record {
  same : repeat (variable l.op) l.found l.cursor.rest.now ≡ repeat (variable l.op) l.initial.found l.initial.cursor.rest.now;
  shorter : length l.cursor.rest.now ≤ length l.initial.cursor.rest.now;
}

abbrev pub decreases-loop-found : goal.decreases-loop-found
decreases-loop-found l = length l.cursor.rest.now
