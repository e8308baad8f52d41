use Rattle.std.proofs.Common.{rules}
use Rattle.al_board.specs.Seen.{view}
use Rattle.al_board.proofs.Works.{has_drawn_some}
use Rattle.al_round_tests.proofs.lanes.lanes_are_judged_in_order.Goals as goal

pub put-requires-clause-drawn : goal.put-requires-clause-drawn
put-requires-clause-drawn g c κs =
    has_drawn_some c.draw-in-loop-order-2.result c.expect-c.result _ _ (view c.draw-in-loop-order-2.new.pass) (search rules)
    c.draw-in-loop-order-2.ensures.drawn

pub put-requires-in-loop-order-clause-drawn : goal.put-requires-in-loop-order-clause-drawn
put-requires-in-loop-order-clause-drawn g c κs =
    has_drawn_some c.draw.result c.expect-a.result _ _ (view c.draw.new.pass) (search rules) c.draw.ensures.drawn

pub put-requires-in-loop-order-2-clause-drawn : goal.put-requires-in-loop-order-2-clause-drawn
put-requires-in-loop-order-2-clause-drawn g c κs =
    has_drawn_some c.draw-in-loop-order.result c.expect-b.result _ _ (view c.draw-in-loop-order.new.pass) (search rules)
    c.draw-in-loop-order.ensures.drawn
