use Rattle.al_board.proofs.Verdicts.{verdicts_are, verdicts_many, any_order}
use Rattle.al_board.proofs.law.verdicts_in_order.Goals as goal

pub returns-clause-law : goal.returns-clause-law
returns-clause-law g c = λ judge task lanes h l. verdicts_are judge (g.T.Piece.fits task) lanes h l

pub returns-clause-each : goal.returns-clause-each
returns-clause-each g c = λ judge task lanes h l. verdicts_many judge (g.T.Piece.fits task) lanes h l

pub returns-clause-any_order : goal.returns-clause-any_order
returns-clause-any_order g c = λ judge task lanes n h h' l l' a. any_order judge (g.T.Piece.fits task) lanes n h h' l l' a
