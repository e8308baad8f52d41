use Rattle.std.proofs.Common.{◌≡◌, ◌++◌, take, drop}
use Rattle.al_plan.proofs.plan.Plan.next.Given as goal

abbrev pub invariant-loop-i : goal.invariant-loop-i
invariant-loop-i l = l.out ≡ take l.i l.self ++ drop l.i l.fn.out
