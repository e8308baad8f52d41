-- What a closed shelf gives.
use Rattle.std.proofs.Common.{◌≡◌, ℕ, List, length, sym, ap, ◌∙◌, subst}
use Rattle.std.specs.Prelude.{map}
use Rattle.al_core.specs.declared.choices.Choice.{Choice}
use Rattle.al_core.specs.Chunk.{Outcome}
use Rattle.al_core.specs.Verdicts.{verdicts}
use Rattle.al_board.specs.declared.piece.Piece.{Ghosts}
use Rattle.al_board.specs.declared.table.Board.{Board}
use Rattle.al_board.specs.declared.table.Pass.{Pass}
use Rattle.al_board.specs.Fits.{AreFit}
use Rattle.al_board.specs.Logs.{AreGiven}
use Rattle.al_board.specs.Seen.{logs_of, view, pass_number, lane_count, task_of, IsRoundOf}
use Rattle.al_board.proofs.Verdicts.{round_verdicts}
use Rattle.al_book.specs.declared.shelf.Bookshelf.{Bookshelf}
use Rattle.al_book.specs.Books.{IsJudgedRound}
use Rattle.al_book.specs.Judging.{verdict_after}
use Rattle.al_book.specs.Shelves.{IsShelfFor}
use Rattle.al_book.proofs.Verdicts.{verdicts_same, in_order_on}

module _ {T H K : Type 0} {g : Ghosts T K H} (fits : K → ℕ → T → Type 0) (outcome : T → Outcome) (choice : K → Choice)
    (b : Board T K H) (pass : Pass T K H g) where
  pub judged_round : (n : ℕ) (s : Bookshelf T) (laid : List T) → laid ≡ s.pieces.items
      → IsShelfFor (fits (task_of b)) outcome (choice (task_of b)) n s
      → length laid ≡ lane_count b → AreFit (fits (task_of b)) laid → IsRoundOf fits b (lane_count b) pass laid
      → AreGiven (logs_of pass) laid → IsJudgedRound fits outcome choice b pass s.pieces.items s.verdicts.items
  judged_round n s laid e shelf each fit history given =
      let by = choice (task_of b) in
      let round = subst (IsRoundOf fits b (lane_count b) pass) e history in
      let are = shelf.sound.verdicts ∙ ap (λ (c : Choice). verdicts c (map outcome s.pieces.items)) shelf.made.choice_is
      ∙ verdicts_same by (map outcome s.pieces.items) in
      record {
        each = sym (ap length e) ∙ each;
        fit = subst (AreFit (fits (task_of b))) e fit;
        given = subst (AreGiven (logs_of pass)) e given;
        verdicts_are = are;
        round = round;
        of_history =
            round_verdicts (verdict_after outcome by) (fits (task_of b)) (lane_count b) (pass_number pass) (view pass) (logs_of pass)
            s.pieces.items round ∙ in_order_on outcome by s.pieces.items ∙ sym are;
      }
