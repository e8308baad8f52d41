use Rattle.al_board.specs.Seen.{view}
use Rattle.al_board.proofs.Lays.{helped_same}
use Rattle.al_board.proofs.table.Board.advance.Goals as goal

pub returns-clause-same : goal.returns-clause-same
returns-clause-same g c = helped_same (view c.args.pass.now) _ _ c.take_turn.ensures.helped
