use Rattle.std.proofs.Common.{◌≡◌, length}
use Rattle.al_type_names.specs.Definitions.{items_by}
use Rattle.al_type_names.specs.NameLists.{named_in}
use Rattle.al_types.proofs.items.with_items.Given as goal

abbrev pub invariant-loop-items : goal.invariant-loop-items
invariant-loop-items l = items_by l.fn.known (named_in l.anywhere) l.fn.items ≡ items_by l.known (named_in l.anywhere) l.items

abbrev pub decreases-loop-items : goal.decreases-loop-items
decreases-loop-items l = length l.items
