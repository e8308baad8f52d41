use Rattle.std.proofs.Common.{◌≡◌, length}
use Rattle.al_print.specs.Tokens.{fields}
use Rattle.al_print.specs.Writing.{all_written}
use Rattle.al_print.proofs.program.fields.Given as goal

-- what is written and what is left give the whole
abbrev pub invariant-loop-left : goal.invariant-loop-left
invariant-loop-left l = all_written l.w (fields l.left) ≡ all_written l.initial.w (fields l.initial.left)

abbrev pub decreases-loop-left : goal.decreases-loop-left
decreases-loop-left l = length l.left
