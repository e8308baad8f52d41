-- What a closed board shows.
use Rattle.std.specs.Prelude.{◌≡◌, ℕ, List}
use Rattle.al_board.specs.declared.view.Entry.{Entry}
use Rattle.al_board.specs.declared.view.View.{View}
use Rattle.al_board.specs.Core.{of, played, first_pieces, IsHistory}
use Rattle.al_board.specs.Journal.{events, IsJournal}
use Rattle.al_board.specs.Logs.{AreEnds}

-- There is a journal, of which all that this pass has logged are ends. Its events are a legal history in which these
-- pieces, and no other, were put into the lanes, in their order, and so many were judged. The pass drew and put what
-- its view says.
pub record IsRound {T K : Type 0} (fits : ℕ → T → Type 0) (lanes judged pass : ℕ) (v : View T K)
    (logs : List (List (Entry T))) (pieces : List T) : Type 0 where
  pub journal : List (Entry T)
  pub kept : IsJournal fits lanes journal
  pub ends : AreEnds logs journal
  pub legal : IsHistory fits lanes (events lanes journal)
  pub each : first_pieces lanes (played lanes (events lanes journal)).pieces ≡ pieces
  pub are_judged : (played lanes (events lanes journal)).judged ≡ judged
  pub drawn : of (played lanes (events lanes journal)).own pass ≡ v.drawn
  pub put : of (played lanes (events lanes journal)).put pass ≡ v.put
