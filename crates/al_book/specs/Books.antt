-- What a closed book gives.
use Rattle.std.specs.Prelude.{◌≡◌, ℕ, List, length}
use Rattle.al_core.specs.declared.choices.Choice.{Choice}
use Rattle.al_core.specs.declared.reports.Verdict.{Verdict}
use Rattle.al_core.specs.Chunk.{Outcome}
use Rattle.al_board.specs.declared.piece.Piece.{Ghosts}
use Rattle.al_board.specs.declared.table.Board.{Board}
use Rattle.al_board.specs.declared.table.Pass.{Pass}
use Rattle.al_board.specs.Fits.{AreFit}
use Rattle.al_board.specs.Journal.{events}
use Rattle.al_board.specs.Logs.{AreGiven}
use Rattle.al_board.specs.Seen.{logs_of, lane_count, task_of, IsRoundOf}
use Rattle.al_board.specs.Verdicts as board
use Rattle.al_book.specs.Judging.{verdict_after, verdicts_on}

-- The pieces that the history of the board put into its lanes, in their order, with the verdicts on them. They are the
-- verdicts of that history, whatever the order of its events.
pub record IsJudgedRound {T H K : Type 0} {g : Ghosts T K H} (fits : K → ℕ → T → Type 0) (outcome : T → Outcome)
    (choice : K → Choice) (b : Board T K H) (pass : Pass T K H g) (pieces : List T) (verdicts : List Verdict) : Type 0
  where
    pub each : length pieces ≡ lane_count b
    pub fit : AreFit (fits (task_of b)) pieces
    pub given : AreGiven (logs_of pass) pieces
    pub verdicts_are : verdicts ≡ verdicts_on outcome (choice (task_of b)) pieces
    pub round : IsRoundOf fits b (lane_count b) pass pieces
    pub of_history :
        board.verdicts (verdict_after outcome (choice (task_of b))) (lane_count b)
        (events (lane_count b) round.journal)
        ≡ verdicts
