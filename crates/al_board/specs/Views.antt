-- What a pass knows, and how its steps change that.
use Rattle.std.specs.Prelude.{◌≡◌, ℕ, ◌+◌, ◌-◌, ◌/◌, ◌^◌, ◌<◌, ◌≤◌, ◌⊎◌, true, false, Option, List, [], ◌∷◌, ◌++◌, length, Some, None, MatchOption}
use Rattle.al_board.specs.declared.view.Setting.{Setting}
use Rattle.al_board.specs.declared.view.Miss.{Miss}
use Rattle.al_board.specs.declared.view.View.{View}
use Rattle.al_count.specs.Counts.{times, below}

module _ {T K : Type 0} where
  -- the first pass of a board
  abbrev pub opener : Setting K → View T K
  opener key = record {
    task = Some key.task;
    lanes = key.lanes;
    shelved = key.shelved;
    drawn = [];
    put = [];
    holds = None;
    ended = false;
    allowance = 2 ^ 63;
    share = 2 ^ 63;
    misses = [];
    given = [];
    turn = None;
    logs = [];
  }

  -- what is left of a pass that a join took in
  abbrev pub spent_view : View T K
  spent_view = record {
    task = None;
    lanes = 0;
    shelved = false;
    drawn = [];
    put = [];
    holds = None;
    ended = false;
    allowance = 0;
    share = 0;
    misses = [];
    given = [];
    turn = None;
    logs = [];
  }

  -- the view without its logs
  abbrev pub unlogged : View T K → View T K
  unlogged v = record v { logs = [] }

  -- it drew the lane
  abbrev pub got : ℕ → View T K → View T K
  got lane v = record v { drawn = v.drawn ++ lane ∷ [] }

  -- its draw found no lane
  abbrev pub over : View T K → View T K
  over v = record v { ended = true; allowance = v.allowance - 1 }

  -- it holds the lane
  abbrev pub taking : ℕ → View T K → View T K
  taking lane v = record v { holds = Some lane }

  -- it put the lane
  abbrev pub gave : ℕ → View T K → View T K
  gave lane v = record v { holds = None; put = v.put ++ lane ∷ [] }

  -- it gave half of its allowance and of its share away, rounded down
  abbrev pub keeping : View T K → View T K
  keeping v = record v { allowance = v.allowance - v.allowance / 2; share = v.share - v.share / 2 }

  -- the new pass that has them
  abbrev pub parted : View T K → View T K
  parted v = record {
    task = v.task;
    lanes = v.lanes;
    shelved = v.shelved;
    drawn = [];
    put = [];
    holds = None;
    ended = false;
    allowance = v.allowance / 2;
    share = v.share / 2;
    misses = [];
    given = [];
    turn = None;
    logs = [];
  }

  -- it took in the lanes, the allowance, the share and the logs of another
  abbrev pub joined : View T K → View T K → View T K
  joined v w = record v {
    drawn = v.drawn ++ w.drawn;
    put = v.put ++ w.put;
    allowance = v.allowance + w.allowance;
    share = v.share + w.share;
    logs = v.logs ++ w.logs;
  }

  -- an attempt failed
  abbrev pub missed : Miss → View T K → View T K
  missed what v = record v { misses = v.misses ++ what ∷ [] }

  -- it has the baton, with these numbers and the pieces on the shelf
  abbrev pub at_turn : ℕ → ℕ → List T → View T K → View T K
  at_turn found next laid v = record v { turn = Some record { found = found; next = next; laid = laid } }

  -- it gave the baton back at this number
  abbrev pub handed : ℕ → View T K → View T K
  handed next v = record v { turn = None; given = v.given ++ next ∷ [] }

  -- it drew some lanes more, and put these
  abbrev pub ran : List ℕ → View T K → View T K
  ran lanes v = record v { drawn = v.drawn ++ lanes; put = v.put ++ lanes }

  -- each lane that it drew is put
  abbrev pub HasPutAll : View T K → Type 0
  HasPutAll v = (x : ℕ) → times x v.put ≡ times x v.drawn

  -- it has put every lane, or it has ended, has put all that it drew and has the whole share
  abbrev pub IsFull : View T K → Type 0
  IsFull v = (length v.put ≡ v.lanes) ⊎ ((v.ended ≡ true) × (v.share ≡ 2 ^ 63) × HasPutAll v)

  -- it drew each lane at most once, and no number that is not a lane, and put each at most once
  pub record IsBounded (v : View T K) : Type 0 where
    pub drawn : (x : ℕ) → times x v.drawn ≤ below x v.lanes
    pub put : (x : ℕ) → times x v.put ≤ times x v.drawn
    pub allowance : v.allowance ≤ 2 ^ 63
    pub draws : length v.drawn ≤ v.lanes
    pub puts : length v.put ≤ v.lanes

module _ {T K : Type 0} where
  -- a run that has ended: it drew some lanes and put these, and then no lane was left
  abbrev pub HasRun : View T K → View T K → Type 0
  HasRun v w = (lanes : List ℕ) × (w ≡ over (ran lanes v))

  -- a run that was stopped: it drew some lanes and put these, and drew one more
  abbrev pub HasStopped : View T K → View T K → Type 0
  HasStopped v w = (lanes : List ℕ) × (lane : ℕ) × (w ≡ got lane (ran lanes v))

  -- its work, its rights and its board are the same
  pub record IsSameWork (v w : View T K) : Type 0 where
    pub task : w.task ≡ v.task
    pub lanes : w.lanes ≡ v.lanes
    pub shelved : w.shelved ≡ v.shelved
    pub drawn : w.drawn ≡ v.drawn
    pub put : w.put ≡ v.put
    pub holds : w.holds ≡ v.holds
    pub ended : w.ended ≡ v.ended
    pub allowance : w.allowance ≡ v.allowance
    pub share : w.share ≡ v.share

  -- a draw: `Some` is a lane that the pass had not drawn and is now its own, and `None` ends the pass
  abbrev pub HasDrawn : ℕ → View T K → View T K → Option ℕ → Type 0
  HasDrawn lanes v w r = MatchOption r (w ≡ over v)
      (λ lane. (lane < lanes) × (times lane v.drawn ≡ 0) × (w ≡ got lane v))

  -- a lane was drawn, made and put, or the draw ended the pass
  abbrev pub HasFilled : View T K → View T K → Option ℕ → Type 0
  HasFilled v w r = MatchOption r (w ≡ over v) (λ lane. w ≡ gave lane (got lane v))
