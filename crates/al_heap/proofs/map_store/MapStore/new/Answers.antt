use Rattle.std.proofs.Common.{ap, ◌∙◌}
use Rattle.al_heap.specs.Stores.{objects_in}
use Rattle.al_heap.proofs.SlotLemmas.{objects_empty}
use Rattle.al_heap.proofs.map_store.MapStore.new.Goals as goal

pub returns : goal.returns
returns c = λ t. record { objects = (ap objects_in c.new.ensures ∙ objects_empty) t; locals = c.new-2.ensures t }
