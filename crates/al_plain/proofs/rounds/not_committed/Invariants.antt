use Rattle.std.proofs.Common.{◌≡◌, ◌++◌, drop}
use Rattle.al_core.specs.Lockstep.{not_committed}
use Rattle.al_plain.proofs.rounds.not_committed.Given as goal

abbrev pub invariant-loop-j : goal.invariant-loop-j
invariant-loop-j l = l.left ++ not_committed (drop l.j-index l.verdicts) ≡ not_committed l.verdicts
