-- One board as a list of events, without threads.
use Rattle.std.specs.Prelude.{◌≡◌, ◌≢◌, ℕ, zero, suc, ◌+◌, ◌<◌, ◌≤◌, ◌==◌, nat_lt, cond, Option, Some, None, List, [], ◌∷◌, ◌++◌, length, slice_index_or, slice_set}
use Rattle.al_count.specs.Counts.{times}

-- A pass draws, puts a piece into a lane, is split in two, takes in another; the piece of a lane is judged.
-- Passes are numbered from 0, in the order in which splits make them.
pub data Event (T : Type 0) : Type 0 where
  draws : ℕ → Event T
  puts : ℕ → ℕ → T → Event T
  splits : ℕ → Event T
  joins : ℕ → ℕ → Event T
  judges : ℕ → Event T

-- the number of draws, the lanes that each pass drew and put, the pieces with their lanes, the last one first,
-- and how many are judged
pub record Core (T : Type 0) : Type 0 where
  pub drawn : ℕ
  pub own : List (List ℕ)
  pub put : List (List ℕ)
  pub pieces : List (ℕ × T)
  pub judged : ℕ

-- the list of a pass
abbrev pub of : {A : Type 0} → List (List A) → ℕ → List A
of xs pass = slice_index_or xs pass []

-- the piece that was put for the lane
abbrev pub piece_of : {T : Type 0} → ℕ → List (ℕ × T) → Option T
piece_of x [] = None
piece_of x (p ∷ ps) = cond (x == p.0) (Some p.1) (piece_of x ps)

module _ {T : Type 0} (lanes : ℕ) where
  -- the state after an event
  abbrev pub after : Event T → Core T → Core T
  after (draws p) c = record c {
    drawn = c.drawn + 1;
    own = cond (nat_lt c.drawn lanes) (slice_set c.own p (of c.own p ++ c.drawn ∷ [])) c.own;
  }
  after (puts p lane piece) c =
      record c { put = slice_set c.put p (of c.put p ++ lane ∷ []); pieces = (lane, piece) ∷ c.pieces }
  after (splits p) c = record c { own = c.own ++ [] ∷ []; put = c.put ++ [] ∷ [] }
  after (joins p q) c = record c {
    own = slice_set (slice_set c.own p (of c.own p ++ of c.own q)) q [];
    put = slice_set (slice_set c.put p (of c.put p ++ of c.put q)) q [];
  }
  after (judges lane) c = record c { judged = lane + 1 }

  -- the state after a history, whose last event stands first
  abbrev pub played : List (Event T) → Core T
  played [] = record { drawn = 0; own = [] ∷ []; put = [] ∷ []; pieces = []; judged = 0 }
  played (e ∷ es) = after e (played es)

-- a pass puts a piece that fits into a lane that it drew and has not put
pub record MayPut {T : Type 0} (fits : ℕ → T → Type 0) (pass lane : ℕ) (piece : T) (own put : List (List ℕ)) : Type 0
  where
    pub is_pass : pass < length own
    pub drawn : 1 ≤ times lane (of own pass)
    pub not_put : times lane (of put pass) ≡ 0
    pub fit : fits lane piece

module _ {T : Type 0} (fits : ℕ → T → Type 0) (lanes : ℕ) where
  -- the event may come next; a lane is judged as the next one, and once it is put
  abbrev pub IsLegal : Event T → Core T → Type 0
  IsLegal (draws p) c = p < length c.own
  IsLegal (puts p lane piece) c = MayPut fits p lane piece c.own c.put
  IsLegal (splits p) c = p < length c.own
  IsLegal (joins p q) c = (p < length c.own) × (q < length c.own) × (q ≢ p)
  IsLegal (judges lane) c = (lane ≡ c.judged) × ((piece : T) × (piece_of lane c.pieces ≡ Some piece))

  -- each event of the history was legal when it came
  abbrev pub IsHistory : List (Event T) → Type 0
  IsHistory [] = Unit {0}
  IsHistory (e ∷ es) = IsLegal e (played lanes es) × IsHistory es

-- what is there, as a list
abbrev pub listed : {T : Type 0} → Option T → List T
listed None = []
listed (Some x) = x ∷ []

-- the pieces of the first n lanes, where each has one
abbrev pub first_pieces : {T : Type 0} → ℕ → List (ℕ × T) → List T
first_pieces zero ps = []
first_pieces (suc n) ps = first_pieces n ps ++ listed (piece_of n ps)
