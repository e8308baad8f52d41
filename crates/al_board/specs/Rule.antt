-- The rule of a board, in the counting form that the proofs use: of its words, its slots and the views of all passes,
-- also of those that were dropped.
use Rattle.std.specs.Prelude.{replicate, ◌∷◌, ◌++◌, ◌≡◌, ℕ, ◌+◌, ◌*◌, ◌^◌, ◌<◌, ◌≤◌, ◌⊎◌, min, max, Bool, true, false, Option, Some, None, List, [], map, length, slice_index}
use mathlib.Core.Option.{some}
use mathlib.Core.Option as maybe
use lib.ListN.{get_elem?}
use Rattle.atomic_table.specs.Table.{State}
use Rattle.al_board.specs.declared.pile.Pile.{Pile}
use Rattle.al_board.specs.declared.view.Entry.{Entry}
use Rattle.al_board.specs.declared.view.Entry.TheVariants.{Split, Joined}
use Rattle.al_board.specs.declared.view.Setting.{Setting}
use Rattle.al_board.specs.declared.view.Turn.{Turn}
use Rattle.al_board.specs.declared.view.View.{View}
use Rattle.al_board.specs.declared.view.Slot.{Slot}
use Rattle.al_board.specs.declared.view.Slot.TheVariants.{Empty, Piece, Shelf, Room}
use Rattle.al_count.specs.Counts.{times, below, total}
use Rattle.al_board.specs.Piles.{on_pile, room_of}
use Rattle.al_board.specs.Core.{piece_of}
use Rattle.al_board.specs.Counted.{drawn_times, put_times, held_count, share_of, allowance_of, turn_count}
use Rattle.al_board.specs.Journal.{Account, account, IsJournal}
use Rattle.al_board.specs.Logs.{AreEnds, IsIn}
use Rattle.al_board.specs.Words.{filled_word, away_word}

-- what a board is told: its setting, which pieces fit which lanes, and, of a shelf, its pieces and whether it is one
-- for the task
pub record Terms (T H K : Type 0) : Type 1 where
  pub key : Setting K
  pub fits : ℕ → T → Type 0
  pub laid : H → List T
  pub stands : H → Type 0

-- the terms of a task, of which a shelf may stand for any number of lanes
abbrev pub terms : {T H K : Type 0} → (K → ℕ → T → Type 0) → (H → List T) → (K → ℕ → H → Type 0) → Setting K
    → Terms T H K
terms fits laid stands key = record {
  key = key;
  fits = fits key.task;
  laid = laid;
  stands = stands key.task key.lanes;
}

-- the terms of a task, of which a shelf may stand where the task has as many lanes as the board
abbrev pub terms_of : {T H K : Type 0} → (K → ℕ → T → Type 0) → (H → List T) → (K → H → Type 0) → (K → ℕ)
    → Setting K → Terms T H K
terms_of fits laid stands lanes = terms fits laid (λ k n h. stands k h × (lanes k ≡ n))

-- how far a board is: the number of draws, the lanes taken and the lanes judged, and the pieces with their lanes
pub record Stage (T : Type 0) : Type 0 where
  pub draws : ℕ
  pub taken : ℕ
  pub judged : ℕ
  pub pieces : List (ℕ × T)

-- the list has the pieces of the first n lanes, in their order
pub record AreFirst {T : Type 0} (n : ℕ) (xs : List T) (pieces : List (ℕ × T)) : Type 0 where
  pub many : length xs ≡ n
  pub each : (k : ℕ) (piece : T) → get_elem? xs k ≡ some piece → piece_of k pieces ≡ Some piece

-- what the holder of the baton knows: it has put a lane, its numbers are those of the lanes taken and judged, and it
-- has the pieces taken
pub record IsTurn {T K : Type 0} (g : Stage T) (v : View T K) (t : Turn T) : Type 0 where
  pub next : t.next ≡ g.taken
  pub found : t.found ≡ g.judged
  pub put : 1 ≤ length v.put
  pub first : AreFirst g.taken t.laid g.pieces

-- what holds of one view
pub record IsSound {T K : Type 0} (key : Setting K) (g : Stage T) (v : View T K) : Type 0 where
  pub about : 0 < v.share → (v.task ≡ Some key.task) × (v.lanes ≡ key.lanes) × (v.shelved ≡ key.shelved)
  -- a view that has ended drew a number of at least the lanes
  pub late : v.ended ≡ true → key.lanes < g.draws
  -- a view with no share is spent
  pub spent : v.share ≡ 0 → (v.drawn ≡ []) × (v.ended ≡ false)
  pub paid : v.allowance ≤ v.share
  -- any other that has not ended may draw
  pub able : 0 < v.share → v.ended ≡ false → 1 ≤ v.allowance
  -- what it has put, and the lane that it holds, it has drawn
  pub own : (x : ℕ) → put_times x v + held_count x v ≤ drawn_times x v
  pub turn : (t : Turn T) → v.turn ≡ Some t → IsTurn g v t
  pub given : (k : ℕ) → 1 ≤ times k v.given → k ≤ g.judged

abbrev pub AllSound : {T K : Type 0} → Setting K → Stage T → List (View T K) → Type 0
AllSound key g views = (id : ℕ) (v : View _ _) → get_elem? views id ≡ some v → IsSound key g v

-- what the slot of a lane has, by the lane's word
pub record IsSlot {T H : Type 0} (fits : ℕ → T → Type 0) (pieces : List (ℕ × T)) (lane word : ℕ)
    (home : maybe.Option (maybe.Option (Slot T H))) : Type 0 where
  pub empty : word ≡ 0 → home ≡ some (some Empty)
  pub full : word ≡ filled_word → (piece : T) × (home ≡ some (some (Piece piece))) × fits lane piece
      × (piece_of lane pieces ≡ Some piece)

-- the baton's word, the number of views that hold it, which one the journal names, and the slot of the shelf
pub record Baton (T H : Type 0) : Type 0 where
  pub word : ℕ
  pub holders : ℕ
  pub holder : Option ℕ
  pub home : maybe.Option (maybe.Option (Slot T H))

module _ {T H K : Type 0} (b : Terms T H K) (g : Stage T) where
  -- no view has the baton: its word is the number of lanes taken, all are judged, and the shelf with their pieces is at
  -- home
  pub record IsHome (x : Baton T H) : Type 0 where
    pub word : x.word ≡ g.taken
    pub judged : g.judged ≡ g.taken
    pub nobody : (x.holders ≡ 0) × (x.holder ≡ None)
    pub shelf : H
    pub there : x.home ≡ some (some (Shelf shelf))
    pub standing : b.stands shelf
    pub first : AreFirst g.taken (b.laid shelf) g.pieces

  -- without a shelf nothing is taken, and the room for the pieces is at home
  pub record IsPlain (x : Baton T H) : Type 0 where
    pub word : x.word ≡ 0
    pub taken : g.taken ≡ 0
    pub nobody : (x.holders ≡ 0) × (x.holder ≡ None)
    pub pile : Pile T
    pub there : x.home ≡ some (some (Room pile))
    pub empty : on_pile pile ≡ []
    pub room : b.key.lanes ≤ room_of pile

  -- with a shelf, one view holds the baton, or it is at home
  abbrev pub IsBaton : Bool → Baton T H → Type 0
  IsBaton true x = ((x.word ≡ away_word) × (x.holders ≡ 1)) ⊎ IsHome x
  IsBaton false x = IsPlain x

-- the stage of a board that was just made
abbrev pub first_stage : {T : Type 0} → Stage T
first_stage = record { draws = 0; taken = 0; judged = 0; pieces = [] }

-- what a board may be made with in its last slot: the shelf, or the room for the pieces
abbrev pub IsOpening : {T H K : Type 0} → Terms T H K → Slot T H → Type 0
IsOpening b last =
    IsBaton b first_stage b.key.shelved record { word = 0; holders = 0; holder = None; home = some (some last) }

-- the account that the stage, the holder of the baton and the views show
abbrev pub shown : {T K : Type 0} → Stage T → Option ℕ → List (View T K) → Account T
shown g holder views = record {
  drawn = g.draws;
  own = map (λ (v : View _ _). v.drawn) views;
  put = map (λ (v : View _ _). v.put) views;
  misses = map (λ (v : View _ _). v.misses) views;
  given = map (λ (v : View _ _). v.given) views;
  pieces = g.pieces;
  taken = g.taken;
  judged = g.judged;
  holder = holder;
}

-- splits and joins
abbrev pub AreMoves : {T : Type 0} → List (Entry T) → Type 0
AreMoves [] = Unit {0}
AreMoves (Split p ∷ es) = AreMoves es
AreMoves (Joined p q ∷ es) = AreMoves es
AreMoves (e ∷ es) = ⊥

-- Each log is the journal as it was at an entry, and some view has logged the last entry of all, but for splits and
-- joins: so the views fix the journal, and a step can only add to it.
pub record AreLogs {T K : Type 0} (views : List (View T K)) (journal : List (Entry T)) : Type 0 where
  pub moves : List (Entry T)
  pub last : List (Entry T)
  pub are_moves : AreMoves moves
  pub whole : journal ≡ moves ++ last
  pub ends : (id : ℕ) (v : View T K) → get_elem? views id ≡ some v → AreEnds v.logs last
  pub someone : (last ≡ []) ⊎ ((id : ℕ) × (v : View T K) × (get_elem? views id ≡ some v) × IsIn last v.logs)

module _ {T H K : Type 0} (b : Terms T H K) where
  abbrev pub baton_of : State (Slot T H) (View T K) → Option ℕ → Baton T H
  baton_of s holder = record {
    word = slice_index s.words (b.key.lanes + 1);
    holders = total turn_count s.views;
    holder = holder;
    home = get_elem? s.homes b.key.lanes;
  }

  pub record IsKept (s : State (Slot T H) (View T K)) : Type 0 where
    pub stage : Stage T
    pub holder : Option ℕ
    pub journal : List (Entry T)
    pub count : length s.homes ≡ b.key.lanes + 1
    pub few : (0 < b.key.lanes) × (b.key.lanes ≤ 1024)
    pub wide : length s.words ≡ b.key.lanes + 2
    pub first : slice_index s.words 0 ≡ stage.draws
    pub sound : AllSound b.key stage s.views
    -- each lane below the number of draws stands in one drawn list, once, and nothing else stands in one
    pub drawn : (x : ℕ) → total (drawn_times x) s.views ≡ below x (min stage.draws b.key.lanes)
    pub shares : total share_of s.views ≡ 2 ^ 63
    pub room : max stage.draws b.key.lanes + total allowance_of s.views ≡ b.key.lanes + 2 ^ 63
    -- the lanes taken are the first ones, and each was put; a lane that was not put has no piece
    pub reached : (stage.judged ≤ stage.taken) × (stage.taken ≤ b.key.lanes)
    pub behind : (x : ℕ) → x < stage.taken → 1 ≤ total (put_times x) s.views
    pub unput : (x : ℕ) → total (put_times x) s.views ≡ 0 → piece_of x stage.pieces ≡ None
    -- the word of a lane is 1 while a view holds it, 2 once a view has put it, and 3 once it was taken
    pub word : (x : ℕ) → x < b.key.lanes
        → slice_index s.words (x + 1) ≡ total (held_count x) s.views + 2 * total (put_times x) s.views + below x
        stage.taken
    pub slot : (x : ℕ) → x < b.key.lanes
        → IsSlot b.fits stage.pieces x (slice_index s.words (x + 1)) (get_elem? s.homes x)
    pub baton : IsBaton b stage b.key.shelved (baton_of s holder)
    pub holds : (id : ℕ) (v : View T K) (t : Turn T) → get_elem? s.views id ≡ some v → v.turn ≡ Some t
        → holder ≡ Some id
    -- the journal leads to what is shown, and the views have logged it
    pub legal : IsJournal b.fits b.key.lanes journal
    pub told : account b.key.lanes journal ≡ shown stage holder s.views
    pub logs : AreLogs s.views journal

-- n empty slots, and the last one
abbrev pub IsRow : {T H : Type 0} → ℕ → Slot T H → List (Slot T H) → Type 0
IsRow n last xs = xs ≡ replicate n Empty ++ last ∷ []
