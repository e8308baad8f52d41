use Rattle.std.proofs.Common.{◌≡◌}
use Rattle.std.specs.FinMap as map
use Rattle.al_heap.specs.Stores.{objects_in}
use Rattle.al_heap.proofs.slots.Slots.pop.Given as goal

abbrev pub decreases-slots : goal.decreases-slots
decreases-slots l = map.len l.self

abbrev pub invariant-slots : goal.invariant-slots
invariant-slots l = objects_in l.self ≡ objects_in l.fn.self
