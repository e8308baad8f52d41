-- What workers are given, and what they give back.
use Rattle.std.specs.Prelude.{◌≡◌, ℕ, ◌^◌, ◌≤◌, ◌++◌, true, false, Result, Ok}
use Rattle.al_board.specs.declared.piece.Piece.{Ghosts}
use Rattle.al_board.specs.declared.table.Board.{Board}
use Rattle.al_board.specs.declared.table.Pass.{Pass}
use Rattle.al_board.specs.declared.view.View.{View}
use Rattle.al_board.specs.Logs.{AreKept}
use Rattle.al_board.specs.Seen.{logs_of, view, IsPassOf, IsSame, lane_count, task_of}
use Rattle.al_board.specs.Views.{HasPutAll, joined}

module _ {T K : Type 0} where
  -- it has not ended, has put all that it drew, and has the whole share
  abbrev pub IsFresh : View T K → Type 0
  IsFresh v = (v.ended ≡ false) × HasPutAll v × (v.share ≡ 2 ^ 63)

module _ {T H K : Type 0} {g : Ghosts T K H} where
  -- the pass may be split among so many workers, and a maker of this task and of so many lanes is one for the board
  pub record MayWork (n : ℕ) (b : Board T K H) (k : K) (m : ℕ) (p : Pass T K H g) : Type 0 where
    pub own : IsPassOf b p
    pub task : k ≡ task_of b
    pub lanes : m ≡ lane_count b
    pub going : (view p).ended ≡ false
    pub put : HasPutAll (view p)
    pub threads : (1 ≤ n) × (n ≤ (view p).allowance)

  -- the same pass, which has ended, has put all that it drew, has its share, and keeps what it had logged
  pub record HasEnded (b : Board T K H) (old new : Pass T K H g) : Type 0 where
    pub own : IsSame b old new
    pub ended : (view new).ended ≡ true
    pub put : HasPutAll (view new)
    pub share : (view new).share ≡ (view old).share
    pub kept : AreKept (logs_of old) (logs_of new)

module _ {T H K E : Type 0} {g : Ghosts T K H} where
  -- the joined pass of two workers that both came back with one
  pub record IsJoined (b : Board T K H) (mine theirs : Result (Pass T K H g) E) (p : Pass T K H g) : Type 0 where
    pub first : Pass T K H g
    pub last : Pass T K H g
    pub is_first : mine ≡ Ok first
    pub is_last : theirs ≡ Ok last
    pub own : IsSame b first p
    pub both : view p ≡ joined (view first) (view last)
    pub logs : logs_of p ≡ logs_of first ++ logs_of last
