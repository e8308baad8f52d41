-- What a call that lays pieces on the shelf gives.
use Rattle.std.specs.Prelude.{◌≡◌, ℕ, ◌<◌, ◌≤◌, ◌⊎◌, true, Some, List, [], ◌∷◌, length}
use Rattle.al_board.specs.declared.view.View.{View}
use Rattle.al_board.specs.declared.view.Slot.{Slot}
use Rattle.al_board.specs.declared.view.Slot.TheVariants.{Empty}
use Rattle.al_board.specs.declared.view.Helped.{Helped}
use Rattle.al_board.specs.declared.view.Helped.TheVariants.{Busy, Advanced}
use Rattle.al_board.specs.declared.view.Miss.TheVariants.{Baton, Lane}
use Rattle.al_count.specs.Counts.{times}
use Rattle.al_board.specs.Views.{got, over, gave, missed, at_turn, handed, ran, IsFull, IsSameWork}

module _ {T K : Type 0} where
  -- a view of this task, with a shelf, that is not spent
  pub record IsAbout (key : K) (many : ℕ) (v : View T K) : Type 0 where
    pub task : v.task ≡ Some key
    pub lanes : v.lanes ≡ many
    pub shelved : v.shelved ≡ true
    pub live : 0 < v.share

  -- no lane is left
  abbrev pub IsThrough : (v w : View T K) (j : ℕ) → Type 0
  IsThrough v w j = (j ≡ v.lanes) × (w ≡ handed j v)

  -- lane j alone was missed; the pass has not put it, and it is not full
  abbrev pub IsStopped : (v w : View T K) (j : ℕ) → Type 0
  IsStopped v w j = (j < v.lanes) × (w ≡ handed j (missed (Lane j) v)) × (times j v.put ≡ 0) × ¬ (IsFull v)

  -- `Busy` comes exactly where the baton alone was missed, and never to a full pass.
  -- `Advanced(j)` comes exactly where the baton was given back at j alone; no lane is left then, or lane j alone was
  -- missed.
  abbrev pub IsHelped : View T K → View T K → Helped → Type 0
  IsHelped v w Busy = (w ≡ missed Baton v) × ¬ (IsFull v)
  IsHelped v w (Advanced j) = (j ≤ v.lanes) × (IsThrough v w j ⊎ IsStopped v w j)

  -- it drew and put the lane, and tried once to lay pieces
  abbrev pub HasLaidOne : ℕ → View T K → View T K → Type 0
  HasLaidOne lane v w = (answer : Helped) × IsHelped (gave lane (got lane v)) w answer

  -- and so with each of these lanes, one after another
  abbrev pub HasLaidEach : List ℕ → View T K → View T K → Type 0
  HasLaidEach [] v w = w ≡ v
  HasLaidEach (lane ∷ lanes) v w = (u : View T K) × HasLaidOne lane v u × HasLaidEach lanes u w

  -- a run that lays pieces: it drew some lanes and put these, and after each of them it tried once to lay
  pub record HasLaid (v w : View T K) : Type 0 where
    pub ran_lanes : List ℕ
    pub same : IsSameWork (ran ran_lanes v) w
    pub each : HasLaidEach ran_lanes v w

  -- such a run that has ended: then no lane was left
  abbrev pub HasWorked : View T K → View T K → Type 0
  HasWorked v w = (u : View T K) × HasLaid v u × (w ≡ over u)

  -- such a run that was stopped: then it drew one lane more
  abbrev pub HasHalted : View T K → View T K → Type 0
  HasHalted v w = (u : View T K) × HasLaid v u × ((lane : ℕ) × (w ≡ got lane u))

  -- the view v, which had the baton at `found`, after a run that stopped at `next` with this on the shelf
  pub record IsLaid (lanes found next : ℕ) (laid : List T) (v w : View T K) : Type 0 where
    pub from : found ≤ next
    pub to : next ≤ lanes
    pub many : length laid ≡ next
    -- no lane is left, or lane `next` was not filled
    pub view : ((next ≡ lanes) × (w ≡ at_turn found next laid v))
        ⊎ ((next < lanes) × (w ≡ missed (Lane next) (at_turn found next laid v)) × (times next v.put ≡ 0)
        × ¬ (IsFull v))

module _ {T H : Type 0} where
  -- the slots that the pass with the baton holds: the shelf's, and before it maybe that of a lane that was taken
  abbrev pub IsCarried : ℕ → ℕ → List (ℕ × Slot T H) → Type 0
  IsCarried lanes next c =
      (c ≡ (lanes, Empty) ∷ []) ⊎ ((lane : ℕ) × (lane < next) × (c ≡ (lane, Empty) ∷ (lanes, Empty) ∷ []))

  -- the same with the shelf's slot, which has x, before the other
  abbrev pub HasShelfFirst : ℕ → ℕ → Slot T H → List (ℕ × Slot T H) → Type 0
  HasShelfFirst lanes next x c =
      (c ≡ (lanes, x) ∷ []) ⊎ ((lane : ℕ) × (lane < next) × (c ≡ (lanes, x) ∷ (lane, Empty) ∷ []))
