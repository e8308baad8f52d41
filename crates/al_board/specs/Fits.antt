-- Pieces in the order of their lanes.
use Rattle.std.specs.Prelude.{◌≡◌, ℕ, List}
use mathlib.Core.Option.{some}
use lib.ListN.{get_elem?}

-- each piece fits the lane whose number is its place
abbrev pub AreFit : {T : Type 0} → (ℕ → T → Type 0) → List T → Type 0
AreFit fits pieces = (lane : ℕ) (piece : _) → get_elem? pieces lane ≡ some piece → fits lane piece
