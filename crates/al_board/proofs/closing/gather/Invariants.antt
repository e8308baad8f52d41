use Rattle.std.proofs.Common.{◌≡◌, ◌+◌, ℕ, ◌<◌, ◌≤◌, false, get_or, length}
use Rattle.std.specs.Slots.{slots_items, slots_filled, slots_len}
use Rattle.std.specs.Mem.Slots.Ownership.{Filled}
use mathlib.Core.Option.{some}
use lib.ListN.{get_elem?}
use Rattle.al_board.specs.declared.view.Slot.TheVariants.{Piece}
use Rattle.al_board.specs.Piles.{on_pile, room_of}
use Rattle.al_board.proofs.closing.gather.Given as goal

abbrev pub invariant-loop-lane : goal.invariant-loop-lane
invariant-loop-lane g l = record {
  same : slots_items l.closed.slots ≡ slots_items l.initial.closed.slots;
  len : slots_len l.closed.slots ≡ l.lanes + 1;
  filled : Filled (slots_filled l.closed.slots) l.lane l.lanes;
  emptied : (k : ℕ) → k < l.lane → get_or (slots_filled l.closed.slots) k false ≡ false;
  last : get_or (slots_filled l.closed.slots) l.lanes false ≡ false;
  many : length (on_pile l.room) ≡ l.lane;
  room : l.lanes ≤ room_of l.room;
  each : (k : ℕ) (piece : g.row.T.Denot) → get_elem? (on_pile l.room) k ≡ some piece → get_elem? (slots_items l.initial.closed.slots) k ≡ some (Piece piece);
}
