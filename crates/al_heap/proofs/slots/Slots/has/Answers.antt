use Rattle.std.proofs.Common.{◌∙◌}
use Rattle.al_heap.proofs.SlotLemmas.{has_slot}
use Rattle.al_heap.proofs.slots.Slots.has.Goals as goal

pub returns : goal.returns
returns c = c.contains_key.ensures ∙ has_slot c.self.inside.slots c.args.self.now c.args.obj c.self.view_is
