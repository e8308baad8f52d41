use Rattle.std.proofs.Common.{◌≡◌, replicate}
use Rattle.al_board.specs.declared.view.Slot.TheVariants.{Empty}
use Rattle.al_board.proofs.opening.slots_of.Given as goal

abbrev pub invariant-loop : goal.invariant-loop
invariant-loop g l = record { items : l.slots.items ≡ replicate l.counter Empty; last : l.last ≡ l.initial.last }
