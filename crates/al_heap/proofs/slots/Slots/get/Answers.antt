use Rattle.std.proofs.Common.{Some, sym, ap, ◌∙◌}
use Rattle.std.specs.Option.{option_and_then}
use Rattle.al_heap.specs.Stores.{slot_in}
use Rattle.al_heap.proofs.SlotLemmas.{slot_of_tree, get_objects}
use Rattle.al_heap.proofs.slots.Slots.get.Goals as goal

pub returns-in-Some-Some : goal.returns-in-Some-Some
returns-in-Some-Some c =
    ap (option_and_then (λ s. s)) ((λ t. Some (sym c.in-Some-Some.field-0-is t)) ∙ c.in-Some-Some.ensures.value)
    ∙ slot_of_tree c.self.inside.slots c.args.obj
    ∙ ap (λ m. slot_in m c.args.obj) c.self.view_is
    ∙ sym (get_objects c.args.self.now c.args.obj)

pub returns-in-Some-None : goal.returns-in-Some-None
returns-in-Some-None c =
    ap (option_and_then (λ s. s)) ((λ t. Some (sym c.in-Some-None.field-0-is t)) ∙ c.in-Some-None.ensures.value)
    ∙ slot_of_tree c.self.inside.slots c.args.obj
    ∙ ap (λ m. slot_in m c.args.obj) c.self.view_is
    ∙ sym (get_objects c.args.self.now c.args.obj)

pub returns-in-None : goal.returns-in-None
returns-in-None c =
    ap (option_and_then (λ s. s)) c.in-None.ensures.value
    ∙ slot_of_tree c.self.inside.slots c.args.obj
    ∙ ap (λ m. slot_in m c.args.obj) c.self.view_is
    ∙ sym (get_objects c.args.self.now c.args.obj)
