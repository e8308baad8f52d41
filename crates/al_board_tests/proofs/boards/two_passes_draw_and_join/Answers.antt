use Rattle.std.proofs.Common.{rules}
use Rattle.al_board.specs.Seen.{view}
use Rattle.al_board.proofs.Works.{has_drawn_some}
use Rattle.al_board_tests.proofs.boards.two_passes_draw_and_join.Goals as goal

pub put-requires-clause-drawn : goal.put-requires-clause-drawn
put-requires-clause-drawn g c κs = has_drawn_some c.draw-2.result c.expect-first.result _ _ (view c.draw-2.new.pass) (search rules) c.draw-2.ensures.drawn

pub put-requires-2-clause-drawn : goal.put-requires-2-clause-drawn
put-requires-2-clause-drawn g c κs = has_drawn_some c.draw.result c.expect-second.result _ _ (view c.draw.new.pass) (search rules) c.draw.ensures.drawn
