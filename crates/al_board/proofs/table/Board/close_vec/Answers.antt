use Rattle.std.proofs.Common.{sym, subst}
use Rattle.al_board.specs.Logs.{AreGiven}
use Rattle.al_board.specs.Seen.{logs_of}
use Rattle.al_board.proofs.table.Board.close_vec.Goals as goal

pub returns-clause-given : goal.returns-clause-given
returns-clause-given g c = subst (AreGiven (logs_of c.args.pass)) (sym c.into_vec.ensures) c.close_pile.ensures.given
