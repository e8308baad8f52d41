use Rattle.al_heap.specs.Stores.{AreReady, IsReadyForEach}
use Rattle.al_heap.proofs.SlotLemmas.{all_ready, on_ok}
use Rattle.al_heap.proofs.slots.Slots.prepare_in.Goals as goal

pub returns-clause-ready : goal.returns-clause-ready
returns-clause-ready g c =
    let ready = g.S.Store.is_ready c.prepare_each.new.store in
    let slots = c.self.inside.slots.entries in
    on_ok c.prepare_each.result (IsReadyForEach ready slots) (AreReady ready c.args.self.now)
    (all_ready ready slots c.args.self.now c.self.view_is) c.prepare_each.ensures.ready
