-- What a clause says of a bookshelf.
use Rattle.std.specs.Prelude.{◌≡◌, ℕ, ◌≤◌, Bool, List, length, map, vec_capacity}
use Rattle.al_core.specs.declared.choices.Choice.{Choice}
use Rattle.al_core.specs.declared.reports.Verdict.{Verdict}
use Rattle.al_core.specs.Chunk.{Outcome}
use Rattle.al_core.specs.Lines.{IsLineSize}
use Rattle.al_core.specs.Verdicts.{nothing_judged}
use Rattle.al_board.specs.Fits.{AreFit}
use Rattle.al_book.specs.Judging.{unreduced, judging_after, verdicts_on}
use Rattle.al_book.specs.declared.shelf.Bookshelf.{Bookshelf}

module _ {T : Type 0} where
  -- the pieces on it, the first one first
  abbrev pub pieces_on : Bookshelf T → List T
  pieces_on s = s.pieces.items

  -- their verdicts
  abbrev pub verdicts_told : Bookshelf T → List Verdict
  verdicts_told s = s.verdicts.items

  -- how many pieces it has room for
  abbrev pub lanes_of : Bookshelf T → ℕ
  lanes_of s = s.lanes

  -- it was made for the choice and for so many lanes
  pub record IsMadeFor (choice : Choice) (lanes : ℕ) (s : Bookshelf T) : Type 0 where
    pub choice_is : s.choice ≡ unreduced choice
    pub lanes_are : s.lanes ≡ lanes

  -- it was made as the other
  pub record IsMadeAs (old new : Bookshelf T) : Type 0 where
    pub choice_is : new.choice ≡ old.choice
    pub lanes_are : new.lanes ≡ old.lanes

  -- its verdicts are those on its pieces, and there is room
  pub record IsSound (outcome : T → Outcome) (s : Bookshelf T) : Type 0 where
    pub line : IsLineSize s.choice.line
    pub room : (s.lanes ≤ vec_capacity s.pieces) × (s.lanes ≤ vec_capacity s.verdicts)
    pub each : length s.verdicts.items ≡ length s.pieces.items
    pub verdicts : s.verdicts.items ≡ verdicts_on outcome s.choice s.pieces.items
    pub failed : s.failed ≡ (judging_after s.choice nothing_judged (map outcome s.pieces.items)).failed
    pub trapped : s.trapped ≡ (judging_after s.choice nothing_judged (map outcome s.pieces.items)).trapped

  -- it was made for the choice and for so many lanes, its pieces fit their lanes, and its verdicts are those on its
  -- pieces
  pub record IsShelfFor (fits : ℕ → T → Type 0) (outcome : T → Outcome) (choice : Choice) (lanes : ℕ)
      (s : Bookshelf T) : Type 0 where
    pub sound : IsSound outcome s
    pub made : IsMadeFor choice lanes s
    pub fit : AreFit fits s.pieces.items
