use Rattle.std.proofs.Common.{◌≡◌, ◌+◌, ℕ, ◌<◌, false, get_or}
use Rattle.std.specs.Slots.{slots_filled, slots_len}
use Rattle.std.specs.Mem.Slots.Ownership.{Filled}
use Rattle.al_board.proofs.closing.discard.Given as goal

abbrev pub invariant-loop-lane : goal.invariant-loop-lane
invariant-loop-lane g l = record {
  len : slots_len l.closed.slots ≡ l.lanes + 1;
  filled : Filled (slots_filled l.closed.slots) l.lane l.lanes;
  emptied : (k : ℕ) → k < l.lane → get_or (slots_filled l.closed.slots) k false ≡ false;
  last : get_or (slots_filled l.closed.slots) l.lanes false ≡ false;
}
