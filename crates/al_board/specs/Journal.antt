-- All that the passes of one board do, as a list of entries; the events of the board are a part of it.
use Rattle.std.specs.Prelude.{◌≡◌, ◌≢◌, ℕ, zero, suc, ◌+◌, ◌-◌, ◌<◌, ◌≤◌, nat_lt, cond, Option, Some, None, List, [], ◌∷◌, ◌++◌, length, slice_set}
use Rattle.al_board.specs.declared.view.Entry.{Entry}
use Rattle.al_board.specs.declared.view.Entry.TheVariants.{Drew, Put, Split, Joined, Seized, Met, Took, Skipped, Handed}
use Rattle.al_board.specs.declared.view.Miss.{Miss}
use Rattle.al_board.specs.declared.view.Miss.TheVariants.{Baton, Lane}
use Rattle.al_board.specs.Core.{MayPut, Event, draws, puts, splits, joins, judges, Core, of, piece_of}

-- What a journal amounts to: the number of draws; the lanes that each pass drew and put, what it missed and where it
-- gave the baton back;
-- the pieces with their lanes, the last one first; how many lanes were taken and judged; and who has the baton.
pub record Account (T : Type 0) : Type 0 where
  pub drawn : ℕ
  pub own : List (List ℕ)
  pub put : List (List ℕ)
  pub misses : List (List Miss)
  pub given : List (List ℕ)
  pub pieces : List (ℕ × T)
  pub taken : ℕ
  pub judged : ℕ
  pub holder : Option ℕ

-- a pass has one thing more in its list
abbrev pub adding : {A : Type 0} → List (List A) → ℕ → A → List (List A)
adding xs pass x = slice_set xs pass (of xs pass ++ x ∷ [])

-- a pass has the lists of two, and the other has nothing
abbrev pub merging : {A : Type 0} → List (List A) → ℕ → ℕ → List (List A)
merging xs pass other = slice_set (slice_set xs pass (of xs pass ++ of xs other)) other []

-- the lanes from j on are judged, m of them
abbrev pub judging : {T : Type 0} → ℕ → ℕ → List (Event T) → List (Event T)
judging j zero es = es
judging j (suc m) es = judges (j + m) ∷ judging j m es

module _ {T : Type 0} (lanes : ℕ) where
  -- Draws, puts, splits and joins are as in the events; a join leaves the receiver's misses and numbers.
  -- With the baton go the lanes that are taken, one after another; they count as judged once it is given back.
  abbrev pub entered : Entry T → Account T → Account T
  entered (Drew p) a = record a
      { drawn = a.drawn + 1; own = cond (nat_lt a.drawn lanes) (adding a.own p a.drawn) a.own }
  entered (Put p lane piece) a = record a { put = adding a.put p lane; pieces = (lane, piece) ∷ a.pieces }
  entered (Split p) a = record a {
    own = a.own ++ [] ∷ [];
    put = a.put ++ [] ∷ [];
    misses = a.misses ++ [] ∷ [];
    given = a.given ++ [] ∷ [];
  }
  entered (Joined p q) a = record a {
    own = merging a.own p q;
    put = merging a.put p q;
    misses = slice_set a.misses q [];
    given = slice_set a.given q [];
  }
  entered (Seized p) a = record a { holder = Some p }
  entered (Met p) a = record a { misses = adding a.misses p Baton }
  entered (Took p) a = record a { taken = a.taken + 1 }
  entered (Skipped p) a = record a { misses = adding a.misses p (Lane a.taken) }
  entered (Handed p) a = record a { given = adding a.given p a.taken; judged = a.taken; holder = None }

  -- what a journal amounts to, whose last entry stands first
  abbrev pub account : List (Entry T) → Account T
  account [] = record {
    drawn = 0;
    own = [] ∷ [];
    put = [] ∷ [];
    misses = [] ∷ [];
    given = [] ∷ [];
    pieces = [];
    taken = 0;
    judged = 0;
    holder = None;
  }
  account (e ∷ es) = entered e (account es)

  -- the events among the entries; where the baton is given back, the lanes that were taken with it are judged
  abbrev pub events : List (Entry T) → List (Event T)
  events [] = []
  events (Drew p ∷ es) = draws p ∷ events es
  events (Put p lane piece ∷ es) = puts p lane piece ∷ events es
  events (Split p ∷ es) = splits p ∷ events es
  events (Joined p q ∷ es) = joins p q ∷ events es
  events (Seized p ∷ es) = events es
  events (Met p ∷ es) = events es
  events (Took p ∷ es) = events es
  events (Skipped p ∷ es) = events es
  events (Handed p ∷ es) = judging (account es).judged ((account es).taken - (account es).judged) (events es)

-- the part of it that the events tell
abbrev pub core_of : {T : Type 0} → Account T → Core T
core_of a = record { drawn = a.drawn; own = a.own; put = a.put; pieces = a.pieces; judged = a.judged }

module _ {T : Type 0} (fits : ℕ → T → Type 0) (lanes : ℕ) where
  -- The entry may come next. A pass puts a piece where none was put. A pass that has put a lane seizes the baton where
  -- nobody has it, and meets it where another pass has it.
  -- Who has it takes the next lane where its piece was put, skips it where none was, and may give the baton back.
  abbrev pub MayEnter : Entry T → Account T → Type 0
  MayEnter (Drew p) a = p < length a.own
  MayEnter (Put p lane piece) a = MayPut fits p lane piece a.own a.put × (piece_of lane a.pieces ≡ None)
  MayEnter (Split p) a = p < length a.own
  MayEnter (Joined p q) a = (p < length a.own) × (q < length a.own) × (q ≢ p)
  MayEnter (Seized p) a = (p < length a.own) × (1 ≤ length (of a.put p)) × (a.holder ≡ None)
  MayEnter (Met p) a = (p < length a.own) × ((q : ℕ) × (a.holder ≡ Some q) × (q ≢ p))
  MayEnter (Took p) a = (a.holder ≡ Some p) × ((piece : T) × (piece_of a.taken a.pieces ≡ Some piece))
  MayEnter (Skipped p) a = (a.holder ≡ Some p) × (a.taken < lanes) × (piece_of a.taken a.pieces ≡ None)
  MayEnter (Handed p) a = a.holder ≡ Some p

  -- each entry might come when it came
  abbrev pub IsJournal : List (Entry T) → Type 0
  IsJournal [] = Unit {0}
  IsJournal (e ∷ es) = MayEnter e (account lanes es) × IsJournal es
