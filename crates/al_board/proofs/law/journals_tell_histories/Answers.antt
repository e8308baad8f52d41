use Rattle.al_board.proofs.Events.{are_played}
use Rattle.al_board.proofs.law.journals_tell_histories.Goals as goal

pub returns-clause-legal : goal.returns-clause-legal
returns-clause-legal g c = λ task lanes journal l. (are_played (g.T.Piece.fits task) lanes journal l).legal

pub returns-clause-same : goal.returns-clause-same
returns-clause-same g c = λ task lanes journal l. (are_played (g.T.Piece.fits task) lanes journal l).core
