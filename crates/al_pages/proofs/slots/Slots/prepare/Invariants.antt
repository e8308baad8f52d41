use Rattle.std.proofs.Common.{◌+◌, ◌-◌, length}
use Rattle.al_pages.specs.Tables.{SameSlots}
use Rattle.al_pages.proofs.slots.Slots.prepare.Given as goal

abbrev pub invariant-loop-self : goal.invariant-loop-self
invariant-loop-self l = SameSlots l.initial.self-inside.items.items l.self-inside.items.items

abbrev pub decreases-loop-self : goal.decreases-loop-self
decreases-loop-self l = l.k + 1 - length l.self-inside.items.items
