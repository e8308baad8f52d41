use Rattle.al_board.specs.Rule.{terms_of}
use Rattle.al_board.proofs.Rules.{is_ruled, is_kept}
use Rattle.al_board.proofs.law.rule_says.Goals as goal

pub returns-clause-says : goal.returns-clause-says
returns-clause-says g c = λ key s k. is_ruled (terms_of g.T.Piece.fits g.T.Piece.laid g.T.Piece.stands g.T.Piece.lanes key) s k

pub returns-clause-is_said : goal.returns-clause-is_said
returns-clause-is_said g c = λ key s r. is_kept (terms_of g.T.Piece.fits g.T.Piece.laid g.T.Piece.stands g.T.Piece.lanes key) s r
