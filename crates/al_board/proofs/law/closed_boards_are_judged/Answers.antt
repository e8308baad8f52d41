use Rattle.al_board.proofs.Verdicts.{round_verdicts}
use Rattle.al_board.proofs.law.closed_boards_are_judged.Goals as goal

pub returns : goal.returns
returns g c = λ judge task lanes pass v logs pieces round.
    round_verdicts judge (g.T.Piece.fits task) lanes pass v logs pieces round
