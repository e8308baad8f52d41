use Rattle.std.proofs.Common.{◌≡◌, drop}
use Rattle.al_print.specs.Tokens.{listed, values}
use Rattle.al_print.specs.Writing.{all_written}
use Rattle.al_print.proofs.expressions.+expressions.Given as goal

-- what is written and what is left give the whole
abbrev pub invariant-values-loop-x : goal.invariant-values-loop-x
invariant-values-loop-x l = all_written l.w (listed l.goes_on (values (drop l.x-index l.xs))) ≡ all_written l.initial.w (listed l.initial.goes_on (values l.xs))
