use Rattle.std.proofs.Common.{◌≡◌}
use Rattle.std.specs.FinMap as map
use Rattle.al_core.specs.Applied.{with_made}
use Rattle.al_heap.specs.Stores.{AreReady, objects_in}
use Rattle.al_commit.proofs.commits.add_made.Given as goal

abbrev pub decreases-made : goal.decreases-made
decreases-made g l = map.len (objects_in l.made)

abbrev pub invariant-made : goal.invariant-made
invariant-made g l =
    let memory = g.S.Store.memory in
    record {
      added : with_made (map.entries (objects_in l.made)) (memory l.store)
          ≡ with_made (map.entries (objects_in l.fn.made)) (memory l.fn.store);
      ready : AreReady (g.S.Store.is_ready l.store) l.made;
    }
