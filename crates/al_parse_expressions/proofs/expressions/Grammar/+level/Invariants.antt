use Rattle.std.proofs.Common.{◌-◌}
use Rattle.al_grammar.specs.declared.operators.TheConstants.{LEVELS}
use Rattle.al_parse_expressions.proofs.expressions.Grammar.+level.Given as goal

abbrev pub decreases-level : goal.decreases-level
decreases-level g l = LEVELS - l.level
