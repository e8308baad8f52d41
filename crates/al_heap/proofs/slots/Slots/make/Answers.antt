use Rattle.std.proofs.Common.{◌≡◌, arith}
use Rattle.std.specs.FinMap as map
use Rattle.al_heap.specs.Stores.{with_name}
use Rattle.al_heap.proofs.SlotLemmas.{slot_there, slot_made}
use Rattle.al_heap.proofs.slots.Slots.make.Goals as goal

pub returns-in_ok-insert-clause-ok : goal.returns-in_ok-insert-clause-ok
returns-in_ok-insert-clause-ok c =
    let made : map.from_entries c.insert.new.self.entries ≡ with_name c.args.self.now c.args.obj =
    slot_made c.self.inside.slots c.insert.new.self c.args.self.now c.args.obj c.self.view_is c.if-not-contains_key.ensures
    c.in_ok-insert.ensures.updates.0 in
    grind (arith, made)

pub returns-else-not-contains_key-clause-ok : goal.returns-else-not-contains_key-clause-ok
returns-else-not-contains_key-clause-ok c =
    slot_there c.self.inside.slots c.args.self.now c.args.obj c.self.view_is c.if-not-contains_key.ensures
