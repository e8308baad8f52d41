-- What passes have logged of a board's journal.
use Rattle.std.specs.Prelude.{◌≡◌, ◌≢◌, ℕ, ◌<◌, ◌≤◌, Option, Some, None, MatchOption, List, [], ◌∷◌, ◌++◌}
use mathlib.Core.Option.{some}
use lib.ListN.{get_elem?}
use Rattle.al_count.specs.Counts.{times}
use Rattle.al_board.specs.declared.view.Entry.{Entry}
use Rattle.al_board.specs.declared.view.Entry.TheVariants.{Drew, Put, Seized, Met, Skipped, Handed}
use Rattle.al_board.specs.declared.view.Helped.{Helped}
use Rattle.al_board.specs.declared.view.Helped.TheVariants.{Busy, Advanced}
use Rattle.al_board.specs.Core.{of, piece_of}
use Rattle.al_board.specs.Journal.{account}

-- the first list is the end of the second
pub record IsEnd {A : Type 0} (xs ys : List A) : Type 0 where
  pub since : List A
  pub whole : ys ≡ since ++ xs

-- each log is an end of the journal
abbrev pub AreEnds : {A : Type 0} → List (List A) → List A → Type 0
AreEnds logs journal = (k : ℕ) (log : List _) → get_elem? logs k ≡ some log → IsEnd log journal

-- the log is the end of one of these
pub record IsIn {A : Type 0} (log : List A) (logs : List (List A)) : Type 0 where
  pub place : ℕ
  pub longer : List A
  pub at : get_elem? logs place ≡ some longer
  pub end : IsEnd log longer

-- each of the first logs is the end of one of the second
abbrev pub AreKept : {A : Type 0} → List (List A) → List (List A) → Type 0
AreKept logs later = (k : ℕ) (log : List _) → get_elem? logs k ≡ some log → IsIn log later

module _ {T : Type 0} where
  -- A pass made the entry when the journal was `since`, of which all that it had logged are ends. It has logged the
  -- journal with the entry.
  pub record HasLogged (entry : ℕ → Entry T) (logs later : List (List (Entry T))) : Type 0 where
    pub pass : ℕ
    pub since : List (Entry T)
    pub before : AreEnds logs since
    pub last : later ≡ (entry pass ∷ since) ∷ []

  -- the piece was put into the lane, and this was logged
  pub record HasPut (lane : ℕ) (piece : T) (logs : List (List (Entry T))) : Type 0 where
    pub pass : ℕ
    pub before : List (Entry T)
    pub is_in : IsIn (Put pass lane piece ∷ before) logs

  -- each piece of which it was logged that it was put into a lane is that of its place in the list
  abbrev pub AreGiven : List (List (Entry T)) → List T → Type 0
  AreGiven logs pieces = (lane : ℕ) (piece : T) → HasPut lane piece logs → get_elem? pieces lane ≡ some piece

  -- a piece was put into the lane, where one is given, and fits it
  abbrev pub HasLoggedFill : (ℕ → T → Type 0) → List (List (Entry T)) → Option ℕ → Type 0
  HasLoggedFill fits logs r = MatchOption r (Unit {0}) (λ lane. (piece : T) × fits lane piece × HasPut lane piece logs)

module _ {T : Type 0} (lanes : ℕ) where
  -- it drew this number: there were as many draws before, and no pass had drawn it
  pub record DrewNumber (number : ℕ) (logs later : List (List (Entry T))) : Type 0 where
    pub logged : HasLogged Drew logs later
    pub number_is : (account lanes logged.since).drawn ≡ number
    pub nobody : (pass : ℕ) → times number (of (account lanes logged.since).own pass) ≡ 0

  -- it drew the number of a lane, or a number that is no lane's
  abbrev pub HasLoggedDraw : List (List (Entry T)) → List (List (Entry T)) → Option ℕ → Type 0
  HasLoggedDraw logs later r = MatchOption r
      ((number : ℕ) × (lanes ≤ number) × DrewNumber number logs later)
      (λ lane. DrewNumber lane logs later)

  -- it met the baton of another pass
  pub record MetBaton (logs later : List (List (Entry T))) : Type 0 where
    pub logged : HasLogged Met logs later
    pub holder : ℕ
    pub holds : (account lanes logged.since).holder ≡ Some holder
    pub other : holder ≢ logged.pass

  -- it came to this lane, which had no piece
  pub record SkippedLane (lane : ℕ) (logs later : List (List (Entry T))) : Type 0 where
    pub logged : HasLogged Skipped logs later
    pub next : (account lanes logged.since).taken ≡ lane
    pub none : piece_of lane (account lanes logged.since).pieces ≡ None

  -- it gave the baton back when so many lanes were taken
  pub record HandedBaton (taken : ℕ) (logs later : List (List (Entry T))) : Type 0 where
    pub logged : HasLogged Handed logs later
    pub taken_are : (account lanes logged.since).taken ≡ taken

  -- it laid pieces until all lanes were taken, or the next one had no piece
  pub record HasLaidOn (next : ℕ) (logs later : List (List (Entry T))) : Type 0 where
    pub kept : AreKept logs later
    pub halt : next < lanes → (before : List (List (Entry T))) × AreKept logs before × SkippedLane next before later

  -- it took the baton, laid pieces, and gave the baton back when so many lanes were taken
  pub record HasAdvanced (taken : ℕ) (logs later : List (List (Entry T))) : Type 0 where
    pub seized : List (List (Entry T))
    pub laid : List (List (Entry T))
    pub seizes : HasLogged Seized logs seized
    pub lays : HasLaidOn taken seized laid
    pub hands : HandedBaton taken laid later

  -- what a call that lays pieces has logged, by its answer
  abbrev pub HasLoggedHelp : List (List (Entry T)) → List (List (Entry T)) → Helped → Type 0
  HasLoggedHelp logs later Busy = MetBaton logs later
  HasLoggedHelp logs later (Advanced taken) = HasAdvanced taken logs later
