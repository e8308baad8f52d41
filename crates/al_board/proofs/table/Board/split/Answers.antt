use Rattle.std.proofs.Common.{arith}
use Rattle.al_board.proofs.Draws.{splits_pass}
use Rattle.al_board.proofs.table.Board.split.Goals as goal

pub split_seat-seat-requires : goal.split_seat-seat-requires
split_seat-seat-requires g c = (c.requires.own.0, (let q = c.args.self.now.sized.0 in omega arith), splits_pass _ _ _ c.requires.enough)
