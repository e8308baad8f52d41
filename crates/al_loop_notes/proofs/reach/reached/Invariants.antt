use Rattle.std.proofs.Common.{◌+◌, length}
use Rattle.al_loop_notes.proofs.Reaching.{Reaching, calls_left}
use Rattle.al_loop_notes.proofs.reach.reached.Given as goal

abbrev pub invariant-loop-n : goal.invariant-loop-n
invariant-loop-n l = Reaching l.program.typed.now l.s l.marks l.todo

abbrev pub decreases-loop-n : goal.decreases-loop-n
decreases-loop-n l = calls_left l.program.typed.now.funcs l.marks + length l.todo
