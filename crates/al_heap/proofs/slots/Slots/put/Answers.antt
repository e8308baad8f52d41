use Rattle.std.proofs.Common.{Some, ap, ◌∙◌}
use Rattle.std.specs.FinMap as map
use Rattle.al_heap.specs.Stores.{objects_in}
use Rattle.al_heap.proofs.SlotLemmas.{objects_insert, names_kept}
use Rattle.al_heap.proofs.slots.Slots.put.Goals as goal

pub returns-clause-objects : goal.returns-clause-objects
returns-clause-objects c =
    ap objects_in c.replace.ensures.after ∙ objects_insert c.args.self.now c.args.obj c.args.words

pub returns-clause-kept : goal.returns-clause-kept
returns-clause-kept c q h =
    ap (λ s. map.contains_key s q) c.replace.ensures.after ∙ names_kept c.args.self.now c.args.obj (Some c.args.words) q h
