use Rattle.al_heap.proofs.SlotLemmas.{slot_out}
use Rattle.al_heap.proofs.slots.Slots.pop_slot.Goals as goal

pub returns-clause-some : goal.returns-clause-some
returns-clause-some c =
    slot_out c.self.inside.slots c.pop_first.new.self c.args.self.now c.pop_first.result c.self.view_is c.pop_first.ensures.value
    c.pop_first.ensures.updates
