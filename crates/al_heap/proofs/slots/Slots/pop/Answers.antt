use Rattle.std.proofs.Common.{◌≡◌, ◌<◌, Some, sym, ap, subst, ◌∙◌}
use Rattle.std.specs.FinMap as map
use Rattle.al_laws.proofs.Orders.{obj_total}
use Rattle.al_heap.specs.Stores.{objects_in}
use Rattle.al_heap.proofs.Kept.{fewer}
use Rattle.al_heap.proofs.SlotLemmas.{objects_popped, objects_passed, object_there, objects_empty}
use Rattle.al_heap.proofs.slots.Slots.pop.Goals as goal

pub returns-in-Some-slot-clause-some : goal.returns-in-Some-slot-clause-some
returns-in-Some-slot-clause-some c =
    let o = c.in-Some.obj in
    let same : objects_in c.slots.self ≡ objects_in c.args.self.now = c.slots.invariant in (
      ap (λ m. map.get m o) (sym same)
          ∙ object_there c.slots.self o c.in-Some-slot.words (c.in-Some.ensures.some.0 ∙ ap (λ s. Some s) c.in-Some-slot.is),
      ap objects_in c.in-Some.ensures.some.1 ∙ objects_popped c.slots.self o ∙ ap (λ m. map.remove m o) same,
    )

pub slots-smaller : goal.slots-smaller
slots-smaller c =
    let less = fewer obj_total c.slots.self c.in-Some.obj c.in-Some.slot c.in-Some.ensures.some.0 in
    subst (λ m. map.len m < map.len c.slots.self) (sym c.in-Some.ensures.some.1) less

pub slots-preserved : goal.slots-preserved
slots-preserved c =
    let same : objects_in c.slots.self ≡ objects_in c.args.self.now = c.slots.invariant in
    ap objects_in c.in-Some.ensures.some.1
    ∙ objects_passed c.slots.self c.in-Some.obj (c.in-Some.ensures.some.0 ∙ ap (λ s. Some s) c.in_default-slot.is)
    ∙ same

pub returns-clause-none : goal.returns-clause-none
returns-clause-none c =
    let same : objects_in c.slots.self ≡ objects_in c.args.self.now = c.slots.invariant in
    (sym same ∙ ap objects_in c.in_default.ensures.none.0 ∙ objects_empty, ap objects_in c.in_default.ensures.none.1 ∙ objects_empty)
