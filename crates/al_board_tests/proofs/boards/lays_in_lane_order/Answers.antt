use Rattle.std.proofs.Common.{rules}
use Rattle.al_board.specs.Seen.{view}
use Rattle.al_board.proofs.Works.{has_drawn_some}
use Rattle.al_board_tests.proofs.boards.lays_in_lane_order.Goals as goal

pub put-requires-clause-drawn : goal.put-requires-clause-drawn
put-requires-clause-drawn g c κs = has_drawn_some c.draw-3.result c.expect-c.result _ _ (view c.draw-3.new.pass) (search rules) c.draw-3.ensures.drawn

pub put-requires-2-clause-drawn : goal.put-requires-2-clause-drawn
put-requires-2-clause-drawn g c κs = has_drawn_some c.draw.result c.expect-a.result _ _ (view c.draw.new.pass) (search rules) c.draw.ensures.drawn

pub put-requires-3-clause-drawn : goal.put-requires-3-clause-drawn
put-requires-3-clause-drawn g c κs = has_drawn_some c.draw-2.result c.expect-b.result _ _ (view c.draw-2.new.pass) (search rules) c.draw-2.ensures.drawn
