use Rattle.std.proofs.Common.{rules, arith}
use Rattle.al_board.proofs.Draws.{joins_pass, looks}
use Rattle.al_board.proofs.table.Board.join.Goals as goal

pub join_seat-requires : goal.join_seat-requires
join_seat-requires g c = (
  c.requires.own.0.0,
  c.requires.own.1.0,
  c.args.other.idle.0,
  (let q = c.args.self.now.sized.0 in omega arith),
  joins_pass _ _ _ _ _ c.args.pass.now.live.0 c.args.other.idle.1 c.args.other.idle.2,
)

pub load-requires : goal.load-requires
load-requires g c = (search rules, (let q = c.args.self.now.sized.0 in omega arith), looks _ _ _ _ _ (search rules))
