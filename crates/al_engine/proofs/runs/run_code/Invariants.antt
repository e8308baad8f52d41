use Rattle.std.proofs.Common.{None}
use Rattle.al_engine.specs.Rests.{IsAt}
use Rattle.al_engine.specs.Worlds.{whole_of}
use Rattle.al_engine.proofs.runs.run_code.Given as goal

abbrev pub invariant-loop-stop : goal.invariant-loop-stop
invariant-loop-stop g l =
    let s = l.world.seen in
    IsAt l.job l.m l.budget
    (whole_of (record { memory = g.S.Store.memory s.store; allocations = s.names; printed = s.printed; accesses = None }) l.world.executions l.world.counts)
