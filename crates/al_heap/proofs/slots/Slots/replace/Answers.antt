use Rattle.std.proofs.Common.{sym, ap, ◌∙◌}
use Rattle.std.specs.Option.{option_and_then}
use Rattle.std.specs.FinMap as map
use Rattle.al_core.specs.Orders.{obj_cmp}
use Rattle.al_laws.proofs.Orders.{obj_total, obj_apart}
use Rattle.al_heap.specs.Stores.{slot_in}
use Rattle.al_heap.proofs.DerivedOrders.{obj_derived, obj_order}
use Rattle.al_heap.proofs.Kept.{map_insert}
use Rattle.al_heap.proofs.SlotLemmas.{slot_of_tree, none_is_no_slot}
use Rattle.al_heap.proofs.slots.Slots.replace.Goals as goal

pub unreachable-requires : goal.unreachable-requires
unreachable-requires c =
    none_is_no_slot c.self.inside.slots c.args.self.now c.args.obj c.self.view_is c.requires
    (sym (sym c.in-Ok-None.field-0-is ∙ c.in-Ok-None.ensures.old))

pub unreachable-requires-in-Err : goal.unreachable-requires-in-Err
unreachable-requires-in-Err c =
    none_is_no_slot c.self.inside.slots c.args.self.now c.args.obj c.self.view_is c.requires c.in-Err.ensures.absent

pub returns-clause-before : goal.returns-clause-before
returns-clause-before c =
    ap (option_and_then (λ s. s)) ((λ t. sym c.in-Ok-Some.field-0-is t) ∙ c.in-Ok-Some.ensures.old)
    ∙ slot_of_tree c.self.inside.slots c.args.obj
    ∙ ap (λ m. slot_in m c.args.obj) c.self.view_is

pub returns-clause-after : goal.returns-clause-after
returns-clause-after c =
    map_insert obj_derived obj_cmp obj_order obj_total obj_apart c.self.inside.slots c.insert.new.self c.args.obj c.args.slot
    c.in-Ok-Some.ensures.updates.0
    ∙ ap (λ m. map.insert m c.args.obj c.args.slot) c.self.view_is
