use Rattle.std.proofs.Common.{◌≡◌, ◌+◌, ◌≤◌, length, drop}
use Rattle.al_core.specs.Lockstep.{not_committed}
use Rattle.al_engine.proofs.rounds.failed.Given as goal

abbrev pub invariant-loop-j : goal.invariant-loop-j
invariant-loop-j l = record {
  counts : l.count + length (not_committed (drop l.j-index l.round)) ≡ length (not_committed l.round);
  few : l.count ≤ l.j-index;
}
