use Rattle.std.proofs.Common.{arith}
use Rattle.al_board.specs.Seen.{view}
use Rattle.al_board.proofs.Passes.{new_lane}
use Rattle.al_board.proofs.Draws.{draws_one}
use Rattle.al_board.proofs.table.Board.draw.Goals as goal

pub fetch_add-number-requires : goal.fetch_add-number-requires
fetch_add-number-requires g c = (
  c.requires.own.0,
  (let q = c.args.self.now.sized.0 in omega arith),
  draws_one _ _ _ _ _ c.args.pass.now.live.0 c.requires.going,
)

pub returns-then-number-self-clause-drawn : goal.returns-then-number-self-clause-drawn
returns-then-number-self-clause-drawn g c =
    let told = c.fetch_add-number.ensures.2 in
    let lt = c.if-number-self.true in
    let n = c.requires.own.2 in
    let is = told.lane (omega arith) in
    (lt, new_lane (view c.args.pass.now) _ c.fetch_add-number.result is told.bounded, is)
