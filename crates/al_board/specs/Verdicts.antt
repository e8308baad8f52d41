-- Verdicts over a history, for any judge: a function from the pieces judged before and the next piece to a verdict.
use Rattle.std.specs.Prelude.{◌≡◌, ℕ, ◌<◌, Option, Some, None, List, [], ◌∷◌, ◌++◌}
use Rattle.al_board.specs.Core.{Event, draws, puts, splits, joins, judges, played, piece_of, first_pieces}

module _ {T W : Type 0} (judge : List T → T → W) where
  -- the verdict on a piece that is there, after those before
  abbrev pub said : List T → Option T → List W
  said before None = []
  said before (Some piece) = judge before piece ∷ []

  -- each piece of the list judged after those before it
  abbrev pub in_order : List T → List T → List W
  in_order before [] = []
  in_order before (piece ∷ rest) = judge before piece ∷ in_order (before ++ piece ∷ []) rest

  -- the verdicts of a history: where a lane is judged, its piece is judged after those of the lanes below it
  abbrev pub verdicts : ℕ → List (Event T) → List W
  verdicts lanes [] = []
  verdicts lanes (draws p ∷ es) = verdicts lanes es
  verdicts lanes (puts p lane piece ∷ es) = verdicts lanes es
  verdicts lanes (splits p ∷ es) = verdicts lanes es
  verdicts lanes (joins p q ∷ es) = verdicts lanes es
  verdicts lanes (judges lane ∷ es) = verdicts lanes es
      ++ said (first_pieces lane (played lanes es).pieces) (piece_of lane (played lanes es).pieces)

-- so many lanes are judged in both histories, and each of them has one piece in both
abbrev pub AgreeOn : {T : Type 0} → (lanes n : ℕ) → List (Event T) → List (Event T) → Type 0
AgreeOn lanes n h h' = ((played lanes h).judged ≡ n) × ((played lanes h').judged ≡ n)
    × ((lane : ℕ) → lane < n → piece_of lane (played lanes h).pieces ≡ piece_of lane (played lanes h').pieces)
