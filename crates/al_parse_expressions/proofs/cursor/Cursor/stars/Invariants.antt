use Rattle.std.proofs.Common.{◌≡◌, ◌≤◌, length}
use Rattle.al_source.specs.declared.limits.TheConstants.{DECLARATOR_STARS}
use Rattle.al_grammar.specs.TypeParser.{stars}
use Rattle.al_parse_expressions.proofs.cursor.Cursor.stars.Given as goal

-- what is left to read gives what all gives
abbrev pub invariant-loop-left : goal.invariant-loop-left
invariant-loop-left l = record {
  same : stars l.left l.ty l.self.rest.now ≡ stars DECLARATOR_STARS l.initial.ty l.initial.self.rest.now;
  shorter : length l.self.rest.now ≤ length l.initial.self.rest.now;
  room : l.self.room ≡ l.initial.self.room;
}

abbrev pub decreases-loop-left : goal.decreases-loop-left
decreases-loop-left l = l.left
