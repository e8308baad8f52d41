-- What a clause says of a plain shelf.
use Rattle.std.specs.Prelude.{ℕ, ◌≤◌, List, vec_capacity}
use Rattle.al_board.specs.Fits.{AreFit}
use Rattle.al_board.specs.declared.pile.Pile.{Pile}

module _ {T : Type 0} where
  -- the pieces that lie on it
  abbrev pub on_pile : Pile T → List T
  on_pile p = p.items.items

  -- how many pieces it has room for, with those that lie on it
  abbrev pub room_of : Pile T → ℕ
  room_of p = vec_capacity p.items

  -- it has room for as many pieces as there are lanes, and its pieces fit their lanes
  pub record IsPileFor (fits : ℕ → T → Type 0) (lanes : ℕ) (p : Pile T) : Type 0 where
    pub room : lanes ≤ room_of p
    pub fit : AreFit fits (on_pile p)
