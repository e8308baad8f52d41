use Rattle.std.proofs.Common.{◌≡◌, ◌-◌, ◌≤◌}
use Rattle.std.specs.Int.{div_ceil}
use Rattle.al_source.specs.declared.limits.TheConstants.{MOST_THREADS}
use Rattle.al_core.specs.Lockstep.{rounds_from, lockstep}
use Rattle.al_engine.specs.Executions.{InTrees, rounds_of}
use Rattle.al_engine.specs.Pending.{ArePending}
use Rattle.al_engine.proofs.rounds.lockstep.Given as goal

abbrev pub invariant-loop-round : goal.invariant-loop-round
invariant-loop-round g l = record {
  runs : InTrees l.x (λ e.
      rounds_from (l.count - l._round) e l.choice l.x.job.knobs.lanes l.plan (rounds_of (g.S.Store.memory l.store) l.so_far)
      ≡ lockstep e l.choice l.x.job.knobs.lanes (g.S.Store.memory l.fn.store));
  pending : ArePending (div_ceil l.x.env.trips l.x.env.chunk) l.plan;
  threads : (1 ≤ l.threads) × (l.threads ≤ MOST_THREADS);
}
