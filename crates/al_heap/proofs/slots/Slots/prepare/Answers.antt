use Rattle.std.proofs.Common.{ap, ◌∙◌}
use Rattle.std.specs.FinMap as map
use Rattle.al_heap.specs.Stores.{objects_in}
use Rattle.al_heap.proofs.SlotLemmas.{objects_named, name_there, names_stay}
use Rattle.al_heap.proofs.slots.Slots.prepare.Goals as goal

pub returns-clause-objects : goal.returns-clause-objects
returns-clause-objects c = ap objects_in c.in_ok-make.ensures.ok ∙ objects_named c.args.self.now c.args.obj

pub returns-clause-ready : goal.returns-clause-ready
returns-clause-ready c =
    ap (λ s. map.contains_key s c.args.obj) c.in_ok-make.ensures.ok ∙ name_there c.args.self.now c.args.obj

pub returns-clause-kept : goal.returns-clause-kept
returns-clause-kept c q h =
    ap (λ s. map.contains_key s q) c.in_ok-make.ensures.ok ∙ names_stay c.args.self.now c.args.obj q h
