use Rattle.std.proofs.Common.{◌≡◌, true, None, ap, sym, ◌∙◌}
use Rattle.std.specs.FinMap as map
use Rattle.al_heap.specs.Stores.{objects_in}
use Rattle.al_heap.proofs.SlotLemmas.{get_objects, objects_remove, names_kept, has_name, objects_without, taken_none}
use Rattle.al_heap.proofs.Replaced.{on_some}
use Rattle.al_heap.proofs.slots.Slots.take.Goals as goal

pub returns-then-has-clause-taken : goal.returns-then-has-clause-taken
returns-then-has-clause-taken c = c.replace.ensures.before ∙ sym (get_objects c.args.self.now c.args.obj)

pub returns-then-has-clause-objects : goal.returns-then-has-clause-objects
returns-then-has-clause-objects c =
    ap objects_in c.replace.ensures.after ∙ objects_remove c.args.self.now c.args.obj

pub returns-then-has-clause-ready : goal.returns-then-has-clause-ready
returns-then-has-clause-ready c =
    on_some c.replace.result (map.contains_key c.replace.new.self c.args.obj ≡ true)
    (ap (λ s. map.contains_key s c.args.obj) c.replace.ensures.after ∙ has_name c.args.self.now c.args.obj None)

pub returns-then-has-clause-kept : goal.returns-then-has-clause-kept
returns-then-has-clause-kept c q h =
    ap (λ s. map.contains_key s q) c.replace.ensures.after ∙ names_kept c.args.self.now c.args.obj None q h

pub returns-else-has-clause-taken : goal.returns-else-has-clause-taken
returns-else-has-clause-taken c = taken_none c.args.self.now c.args.obj (sym c.has.ensures ∙ c.if-has.false)

pub returns-else-has-clause-objects : goal.returns-else-has-clause-objects
returns-else-has-clause-objects c = objects_without c.args.self.now c.args.obj (sym c.has.ensures ∙ c.if-has.false)
