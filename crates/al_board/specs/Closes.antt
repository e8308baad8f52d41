-- The slots of a closed board.
use Rattle.std.specs.Prelude.{◌≡◌, ℕ, ◌+◌, ◌<◌, Bool, false, List, slice_index_or}
use Rattle.std.specs.Mem.Slots.Ownership.{Filled}
use mathlib.Core.Option.{some}
use lib.ListN.{get_elem?}
use Rattle.al_board.specs.declared.view.Slot.{Slot}
use Rattle.al_board.specs.declared.view.Slot.TheVariants.{Piece}

-- of so many slots all are filled but for the last
abbrev pub AreLeft : (len : ℕ) → (filled : List Bool) → (lanes : ℕ) → Type 0
AreLeft len filled lanes =
    (len ≡ lanes + 1) × Filled filled 0 lanes × (slice_index_or filled lanes false ≡ false)

module _ {T H : Type 0} where
  -- each of the first n slots has a piece
  abbrev pub HavePieces : List (Slot T H) → ℕ → Type 0
  HavePieces slots n = (k : ℕ) → k < n → (piece : T) × (get_elem? slots k ≡ some (Piece piece))

  -- each piece of the list is that of its slot
  abbrev pub AreFrom : List T → List (Slot T H) → Type 0
  AreFrom pieces slots = (k : ℕ) (piece : T) → get_elem? pieces k ≡ some piece → get_elem? slots k ≡ some (Piece piece)
