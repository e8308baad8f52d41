use Rattle.std.proofs.Common.{◌≡◌}
use Rattle.std.specs.FinMap as map
use Rattle.al_core.specs.Applied.{with_writes}
use Rattle.al_heap.specs.Stores.{KeepsReady}
use Rattle.al_commit.proofs.commits.lay.Given as goal

abbrev pub decreases-writes : goal.decreases-writes
decreases-writes g l = map.len l.writes

abbrev pub invariant-writes : goal.invariant-writes
invariant-writes g l =
    let memory = g.S.Store.memory in
    record {
      laid : with_writes (map.entries l.writes) (memory l.store) ≡ with_writes (map.entries l.fn.writes) (memory l.fn.store);
      kept : KeepsReady (g.S.Store.is_ready l.fn.store) (g.S.Store.is_ready l.store);
    }
