use Rattle.std.proofs.Common.{◌≡◌, Bool}
use Rattle.al_core.specs.declared.values.Obj.{Obj}
use Rattle.al_heap.specs.Stores.{KeepsReady, IsReadyForEach}
use Rattle.al_heap.proofs.slots.prepare_each.Given as goal

-- what is ready for the rest of the slots, and for all names that the store is ready for, is ready for all slots
abbrev pub invariant-loop-obj : goal.invariant-loop-obj
invariant-loop-obj g l =
    let ready = g.S.Store.is_ready in
    record {
      memory : g.S.Store.memory l.store ≡ g.S.Store.memory l.fn.store;
      kept : KeepsReady (ready l.fn.store) (ready l.store);
      rest : (r : Obj → Bool) → KeepsReady (ready l.store) r → IsReadyForEach r l.obj-iterator
          → IsReadyForEach r l.initial.obj-iterator;
    }
