use Rattle.std.proofs.Common.{◌≡◌, ◌-◌, ◌≤◌, length}
use Rattle.al_core.specs.Lockstep.{rounds_from, lockstep}
use Rattle.al_plain.specs.Executions.{execution_of}
use Rattle.al_plain.proofs.rounds.lockstep.Given as goal

abbrev pub invariant-loop-round : goal.invariant-loop-round
invariant-loop-round l = record {
  runs : rounds_from (l.count - l._round) (execution_of l.x) l.choice l.x.on.knobs.lanes l.pending l.so_far
      ≡ lockstep (execution_of l.x) l.choice l.x.on.knobs.lanes l.fn.memory;
  few : length l.so_far.rounds ≤ l._round;
}
