-- The rule of a board in plain words.
use Rattle.std.specs.Prelude.{◌≡◌, ◌≢◌, ℕ, ◌+◌, ◌^◌, ◌<◌, ◌≤◌, max, true, false, Option, List, [], length, Some, None, slice_index}
use mathlib.Core.Option.{some}
use lib.ListN.{get_elem?}
use Rattle.atomic_table.specs.Table.{State}
use Rattle.al_board.specs.declared.pile.Pile.{Pile}
use Rattle.al_board.specs.declared.view.Entry.{Entry}
use Rattle.al_board.specs.declared.view.Turn.{Turn}
use Rattle.al_board.specs.declared.view.View.{View}
use Rattle.al_board.specs.declared.view.Slot.{Slot}
use Rattle.al_board.specs.declared.view.Slot.TheVariants.{Empty, Piece, Shelf, Room}
use Rattle.al_count.specs.Counts.{times, total}
use Rattle.al_board.specs.Core.{piece_of}
use Rattle.al_board.specs.Counted.{share_of, allowance_of}
use Rattle.al_board.specs.Fits.{AreFit}
use Rattle.al_board.specs.Journal.{account, IsJournal}
use Rattle.al_board.specs.Piles.{on_pile, room_of}
use Rattle.al_board.specs.Rule.{Terms, AreLogs, shown}
use Rattle.al_board.specs.Words.{held_word, filled_word, taken_word, away_word}

-- the list has the pieces of the first n lanes, in their order; each was put, and fits
pub record HasFirst {T : Type 0} (fits : ℕ → T → Type 0) (n : ℕ) (list : List T) (pieces : List (ℕ × T)) : Type 0 where
  pub many : length list ≡ n
  pub were_put : (lane : ℕ) (piece : T) → get_elem? list lane ≡ some piece → piece_of lane pieces ≡ Some piece
  pub fit : AreFit fits list

module _ {T H K : Type 0} (b : Terms T H K) (s : State (Slot T H) (View T K)) where
  -- the pass of this number knows this, also once it is dropped
  abbrev pub IsView : ℕ → View T K → Type 0
  IsView id v = get_elem? s.views id ≡ some v

  -- no view has put the lane
  abbrev pub IsUnput : ℕ → Type 0
  IsUnput lane = (id : ℕ) (v : View T K) → IsView id v → times lane v.put ≡ 0

  -- no view holds the lane
  abbrev pub IsUnheld : ℕ → Type 0
  IsUnheld lane = (id : ℕ) (v : View T K) → IsView id v → v.holds ≢ Some lane

  -- the number of draws, the word of a lane, and the baton's word
  abbrev pub draws_made : ℕ
  draws_made = slice_index s.words 0

  abbrev pub lane_word : ℕ → ℕ
  lane_word lane = slice_index s.words (lane + 1)

  abbrev pub baton_word : ℕ
  baton_word = slice_index s.words (b.key.lanes + 1)

  -- a word for the draws, one for each lane and one for the baton; a slot for each lane and one for the shelf
  pub record HasShape : Type 0 where
    pub lanes : (0 < b.key.lanes) × (b.key.lanes ≤ 1024)
    pub words : length s.words ≡ b.key.lanes + 2
    pub slots : length s.homes ≡ b.key.lanes + 1

  -- the lane stands in the drawn list of just one view, once
  pub record IsDrawnOnce (lane : ℕ) : Type 0 where
    pub id : ℕ
    pub view : View T K
    pub at : IsView id view
    pub once : times lane view.drawn ≡ 1
    pub nowhere_else : (other : ℕ) (u : View T K) → other ≢ id → IsView other u → times lane u.drawn ≡ 0

  pub record DrawnOnce : Type 0 where
    -- each lane below the number of draws stands in one drawn list, once, and no other number stands in one
    pub lanes_once : (lane : ℕ) → lane < draws_made → lane < b.key.lanes → IsDrawnOnce lane
    pub only_lanes : (lane id : ℕ) (v : View T K) → IsView id v → 1 ≤ times lane v.drawn
        → (lane < draws_made) × (lane < b.key.lanes)
    -- where a view has ended, more numbers were drawn than there are lanes
    pub ended_late : (id : ℕ) (v : View T K) → IsView id v → v.ended ≡ true → b.key.lanes < draws_made
    -- a view with no share is spent: it has no lane and no allowance, and has not ended
    pub spent : (id : ℕ) (v : View T K) → IsView id v → v.share ≡ 0
        → (v.drawn ≡ []) × (v.put ≡ []) × (v.holds ≡ None) × (v.allowance ≡ 0) × (v.ended ≡ false)
    -- every other has a share of at least its allowance, and is of this board; all shares add up to 2^63
    pub shares : (id : ℕ) (v : View T K) → IsView id v → v.allowance ≤ v.share
    pub of_board : (id : ℕ) (v : View T K) → IsView id v → 0 < v.share
        → (v.task ≡ Some b.key.task) × (v.lanes ≡ b.key.lanes) × (v.shelved ≡ b.key.shelved)
    pub all_shares : total share_of s.views ≡ 2 ^ 63
    -- so a view that has ended and has the share 2^63 has drawn every lane
    pub whole : (lane id : ℕ) (v : View T K) → IsView id v → v.ended ≡ true → v.share ≡ 2 ^ 63 → lane < b.key.lanes
        → times lane v.drawn ≡ 1

  -- what a view has put, and the lane that it holds, it has drawn; it puts a lane once, and a held lane is not put
  pub record PutIfDrawn : Type 0 where
    pub put : (lane id : ℕ) (v : View T K) → IsView id v → 1 ≤ times lane v.put
        → (times lane v.drawn ≡ 1) × (times lane v.put ≡ 1)
    pub held : (lane id : ℕ) (v : View T K) → IsView id v → v.holds ≡ Some lane
        → (times lane v.drawn ≡ 1) × (times lane v.put ≡ 0)

  -- with so many lanes taken, the word of a lane is 0 where no view holds or has put it, 1 where one holds it,
  -- 2 where one has put it, and 3 where it was put and taken
  pub record LaneWords (taken : ℕ) : Type 0 where
    pub free : (lane : ℕ) → lane < b.key.lanes → IsUnheld lane → IsUnput lane → lane_word lane ≡ 0
    pub held : (lane id : ℕ) (v : View T K) → IsView id v → v.holds ≡ Some lane → lane_word lane ≡ held_word
    pub filled : (lane id : ℕ) (v : View T K) → IsView id v → 1 ≤ times lane v.put → taken ≤ lane
        → lane_word lane ≡ filled_word
    pub gone : (lane : ℕ) → lane < taken
        → (lane_word lane ≡ taken_word) × ((id : ℕ) × (v : View T K) × IsView id v × (1 ≤ times lane v.put))
    pub only_gone : (lane : ℕ) → lane < b.key.lanes → lane_word lane ≡ taken_word → lane < taken
    pub only_lanes : taken ≤ b.key.lanes

  -- the slot of a lane with word 0 is empty, and that of a lane with word 2 holds a piece that fits, the one that was
  -- put;
  -- a lane that no view has put has no piece
  pub record SlotsFit (pieces : List (ℕ × T)) : Type 0 where
    pub empty : (lane : ℕ) → lane < b.key.lanes → lane_word lane ≡ 0 → get_elem? s.homes lane ≡ some (some Empty)
    pub full : (lane : ℕ) → lane < b.key.lanes → lane_word lane ≡ filled_word
        → (piece : T)
        × (get_elem? s.homes lane ≡ some (some (Piece piece)))
        × b.fits lane piece
        × (piece_of lane pieces ≡ Some piece)
    pub none : (lane : ℕ) → IsUnput lane → piece_of lane pieces ≡ None

  -- The greater of the draws and the lanes, with all allowances, is the lanes and 2^63, and who has not ended may draw;
  -- so the number of draws never wraps.
  pub record Allowances : Type 0 where
    pub room : max draws_made b.key.lanes + total allowance_of s.views ≡ b.key.lanes + 2 ^ 63
    pub able : (id : ℕ) (v : View T K) → IsView id v → 0 < v.share → v.ended ≡ false → 1 ≤ v.allowance
    pub never_wraps : draws_made + 1 < 2 ^ 64

  -- a pass that has the baton: it has put a lane, its number is that of the lanes taken, and the shelf that it holds
  -- has their pieces
  pub record HasBaton (taken judged : ℕ) (pieces : List (ℕ × T)) (v : View T K) (t : Turn T) : Type 0 where
    pub away : baton_word ≡ away_word
    pub next : t.next ≡ taken
    pub found : t.found ≡ judged
    pub from : t.found ≤ t.next
    pub put : 1 ≤ length v.put
    pub shelf : HasFirst b.fits t.next t.laid pieces

  -- the baton's word is 1,025 exactly while one view holds it, the one that the journal names, and else the number of
  -- lanes taken
  pub record OneBaton (taken judged : ℕ) (pieces : List (ℕ × T)) (holder : Option ℕ) : Type 0 where
    pub away : baton_word ≡ away_word
        → (id : ℕ)
        × (v : View T K)
        × (t : Turn T)
        × IsView id v
        × (v.turn ≡ Some t)
        × ((other : ℕ) (u : View T K) → other ≢ id → IsView other u → u.turn ≡ None)
    pub has : (id : ℕ) (v : View T K) (t : Turn T) → IsView id v → v.turn ≡ Some t → HasBaton taken judged pieces v t
    pub named : (id : ℕ) (v : View T K) (t : Turn T) → IsView id v → v.turn ≡ Some t → holder ≡ Some id
    pub home : baton_word ≢ away_word → (baton_word ≤ b.key.lanes) × (baton_word ≡ taken) × (judged ≡ taken)
        × (holder ≡ None)
    pub given : (id : ℕ) (v : View T K) → IsView id v → (j : ℕ) → 1 ≤ times j v.given → j ≤ judged
    pub order : judged ≤ taken

  -- where the baton's word is j, the shelf is at home with the pieces of the first j lanes
  pub record JudgedInOrder (pieces : List (ℕ × T)) : Type 0 where
    pub home : baton_word ≢ away_word
        → (shelf : H)
        × (get_elem? s.homes b.key.lanes ≡ some (some (Shelf shelf)))
        × b.stands shelf
        × HasFirst b.fits baton_word (b.laid shelf) pieces

  -- without a shelf no lane is taken or judged, no view has a turn, and the room for the pieces is at home
  pub record HasNoShelf (taken judged : ℕ) (holder : Option ℕ) : Type 0 where
    pub none : (taken ≡ 0) × (judged ≡ 0) × (baton_word ≡ 0) × (holder ≡ None)
    pub turns : (id : ℕ) (v : View T K) → IsView id v → (v.turn ≡ None) × ((j : ℕ) → 1 ≤ times j v.given → j ≤ 0)
    pub room : (pile : Pile T)
        × (get_elem? s.homes b.key.lanes ≡ some (some (Room pile)))
        × (on_pile pile ≡ [])
        × (b.key.lanes ≤ room_of pile)

  -- The journal leads to the draws, the lists of all views, the pieces, the lanes taken and judged, and the holder of
  -- the baton.
  -- The views have logged it, so no step can tell it otherwise.
  pub record HasJournal (taken judged : ℕ) (pieces : List (ℕ × T)) (holder : Option ℕ) : Type 0 where
    pub journal : List (Entry T)
    pub legal : IsJournal b.fits b.key.lanes journal
    pub told : account b.key.lanes journal
        ≡ shown record { draws = draws_made; taken = taken; judged = judged; pieces = pieces } holder s.views
    pub logged : AreLogs s.views journal

  pub record IsRuled : Type 0 where
    pub taken : ℕ
    pub judged : ℕ
    pub pieces : List (ℕ × T)
    pub holder : Option ℕ
    pub shape : HasShape
    pub drawn_once : DrawnOnce
    pub put_if_drawn : PutIfDrawn
    pub lane_words : LaneWords taken
    pub slots_fit : SlotsFit pieces
    pub allowances : Allowances
    pub one_baton : b.key.shelved ≡ true → OneBaton taken judged pieces holder
    pub judged_in_order : b.key.shelved ≡ true → JudgedInOrder pieces
    pub no_shelf : b.key.shelved ≡ false → HasNoShelf taken judged holder
    pub journal : HasJournal taken judged pieces holder
