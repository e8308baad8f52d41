use Rattle.al_board.specs.Seen.{lane_count, task_of}
use Rattle.al_book.proofs.Verdicts.{histories_are_judged}
use Rattle.al_book.proofs.book.Book.finish_vec.Goals as goal

pub returns-clause-law : goal.returns-clause-law
returns-clause-law g c =
    let b = c.args.self.board in
    histories_are_judged g.T.Weigh.outcome (g.T.BookPiece.choice (task_of b)) (g.T.Piece.fits (task_of b)) (lane_count b)
