-- What holds of every board.
use Rattle.std.specs.Prelude.{◌≡◌, ℕ, List, [], length}
use Rattle.atomic_table.specs.Table.{State}
use Rattle.al_board.specs.declared.view.Entry.{Entry}
use Rattle.al_board.specs.declared.view.Setting.{Setting}
use Rattle.al_board.specs.declared.view.Slot.{Slot}
use Rattle.al_board.specs.declared.view.View.{View}
use Rattle.al_board.specs.Core.{Event, played, first_pieces, IsHistory}
use Rattle.al_board.specs.Journal.{account, core_of, events, IsJournal}
use Rattle.al_board.specs.Rounds.{IsRound}
use Rattle.al_board.specs.Rule.{IsKept, terms_of}
use Rattle.al_board.specs.Ruled.{IsRuled}
use Rattle.al_board.specs.Verdicts.{in_order, verdicts, AgreeOn}

module _ {T H K : Type 0} (fits : K → ℕ → T → Type 0) (laid : H → List T) (stands : K → H → Type 0)
    (lanes : K → ℕ) where
  -- where the rule of the table holds, the rule in plain words holds
  abbrev pub KeptIsRuled : Type 0
  KeptIsRuled = (key : Setting K) (s : State (Slot T H) (View T K))
      → IsKept (terms_of fits laid stands lanes key) s
      → IsRuled (terms_of fits laid stands lanes key) s

  -- and the other way
  abbrev pub RuledIsKept : Type 0
  RuledIsKept = (key : Setting K) (s : State (Slot T H) (View T K))
      → IsRuled (terms_of fits laid stands lanes key) s
      → IsKept (terms_of fits laid stands lanes key) s

module _ {T K : Type 0} (fits : K → ℕ → T → Type 0) where
  -- the events of a journal are a legal history
  abbrev pub EventsAreLegal : Type 0
  EventsAreLegal = (task : K) (lanes : ℕ) (journal : List (Entry T))
      → IsJournal (fits task) lanes journal
      → IsHistory (fits task) lanes (events lanes journal)

  -- and lead to what the journal amounts to
  abbrev pub EventsLeadThere : Type 0
  EventsLeadThere = (task : K) (lanes : ℕ) (journal : List (Entry T))
      → IsJournal (fits task) lanes journal
      → played lanes (events lanes journal) ≡ core_of (account lanes journal)

module _ {T K : Type 0} (W : Type 0) (fits : K → ℕ → T → Type 0) where
  -- the verdicts of a legal history are those of its judged pieces in the order of their lanes
  abbrev pub VerdictsInOrder : Type 0
  VerdictsInOrder = (judge : List T → T → W) (task : K) (lanes : ℕ) (history : List (Event T))
      → IsHistory (fits task) lanes history
      → verdicts judge lanes history
      ≡ in_order judge [] (first_pieces (played lanes history).judged (played lanes history).pieces)

  -- there are as many as judged lanes
  abbrev pub OneVerdictEach : Type 0
  OneVerdictEach = (judge : List T → T → W) (task : K) (lanes : ℕ) (history : List (Event T))
      → IsHistory (fits task) lanes history
      → length (verdicts judge lanes history) ≡ (played lanes history).judged

  -- two histories with the same judged pieces have the same verdicts
  abbrev pub AnyOrder : Type 0
  AnyOrder = (judge : List T → T → W) (task : K) (lanes n : ℕ) (one other : List (Event T))
      → IsHistory (fits task) lanes one
      → IsHistory (fits task) lanes other
      → AgreeOn lanes n one other
      → verdicts judge lanes one ≡ verdicts judge lanes other

  -- where all lanes were judged, the pieces that a closed board gives have the verdicts of the history that put them
  abbrev pub RoundsAreJudged : Type 0
  RoundsAreJudged = (judge : List T → T → W) (task : K) (lanes pass : ℕ) (view : View T K)
      (logs : List (List (Entry T))) (pieces : List T)
      → (round : IsRound (fits task) lanes lanes pass view logs pieces)
      → verdicts judge lanes (events lanes round.journal) ≡ in_order judge [] pieces
