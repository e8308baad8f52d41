-- What a clause says of a board and of its passes.
use Rattle.std.specs.Prelude.{◌≡◌, ℕ, Bool, List, Some}
use Rattle.atomic_table.specs.declared.shared.Seat.{Seat}
use Rattle.al_board.specs.declared.view.Entry.{Entry}
use Rattle.al_board.specs.declared.view.Slot.{Slot}
use Rattle.al_board.specs.declared.view.View.{View}
use Rattle.al_board.specs.declared.piece.Piece.{Ghosts}
use Rattle.al_board.specs.declared.table.Board.{Board}
use Rattle.al_board.specs.declared.table.Pass.{Pass}
use Rattle.al_board.specs.Rounds.{IsRound}
use Rattle.al_board.specs.Views.{unlogged}

module _ {T H K : Type 0} where
  abbrev pub lane_count : Board T K H → ℕ
  lane_count b = b.setting.lanes

  abbrev pub task_of : Board T K H → K
  task_of b = b.setting.task

  abbrev pub has_shelf : Board T K H → Bool
  has_shelf b = b.setting.shelved

-- what a seat knows, but for its logs
abbrev pub seen : {T H K : Type 0} → Seat (Slot T H) (View T K) → View T K
seen x = unlogged x.me.0

-- what a seat has logged
abbrev pub seat_logs : {T H K : Type 0} → Seat (Slot T H) (View T K) → List (List (Entry T))
seat_logs x = x.me.0.logs

module _ {T H K : Type 0} {g : Ghosts T K H} where
  -- what a pass knows, but for its logs
  abbrev pub view : Pass T K H g → View T K
  view p = unlogged p.seat.me.0

  -- what it has logged of the board's journal
  abbrev pub logs_of : Pass T K H g → List (List (Entry T))
  logs_of p = p.seat.me.0.logs

  -- its number among the passes of its board
  abbrev pub pass_number : Pass T K H g → ℕ
  pass_number p = p.seat.id

  -- it is a pass of this board
  abbrev pub IsPassOf : Board T K H → Pass T K H g → Type 0
  IsPassOf b p =
      (p.seat.table_id ≡ b.table.shared.table_id)
      × ((view p).task ≡ Some (task_of b))
      × ((view p).lanes ≡ lane_count b)
      × ((view p).shelved ≡ has_shelf b)

  -- it is the same pass of this board afterwards
  abbrev pub IsSame : Board T K H → Pass T K H g → Pass T K H g → Type 0
  IsSame b old new = IsPassOf b new × (pass_number new ≡ pass_number old)

  -- a closed board gives these pieces to this pass, and so many were judged
  abbrev pub IsRoundOf : (K → ℕ → T → Type 0) → Board T K H → ℕ → Pass T K H g → List T → Type 0
  IsRoundOf fits b judged p pieces =
      IsRound (fits (task_of b)) (lane_count b) judged (pass_number p) (view p) (logs_of p) pieces
