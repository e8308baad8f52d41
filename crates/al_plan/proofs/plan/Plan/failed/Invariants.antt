use Rattle.std.proofs.Common.{◌≡◌, ◌≤◌, ◌++◌, length, drop}
use Rattle.al_core.specs.Lockstep.{not_committed}
use Rattle.al_core.specs.Round.{with_chunks}
use Rattle.al_plan.proofs.plan.Plan.failed.Given as goal

abbrev pub invariant-loop-i : goal.invariant-loop-i
invariant-loop-i l =
    (l.failed.items ++ not_committed (with_chunks (drop l.i l.self) (drop l.i l.verdicts))
    ≡ not_committed (with_chunks l.self l.verdicts))
    × (length l.failed.items ≤ l.i)
