use Rattle.std.proofs.Common.{◌≡◌, length}
use Rattle.al_print.specs.Writing.{appended}
use Rattle.al_print.proofs.writer.Writer.bytes.Given as goal

-- what is written and what is left give the whole
abbrev pub invariant-loop-left : goal.invariant-loop-left
invariant-loop-left l = appended l.self l.left ≡ appended l.initial.self l.initial.left

abbrev pub decreases-loop-left : goal.decreases-loop-left
decreases-loop-left l = length l.left
