use Rattle.std.proofs.Common.{refl, inr}
use Rattle.al_board.proofs.Opens.{none_first}
use Rattle.al_board.proofs.table.Board.with_shelf.Goals as goal

pub open-requires-clause-last : goal.open-requires-clause-last
open-requires-clause-last g c κs within = inr record {
  word = refl;
  judged = refl;
  nobody = (refl, refl);
  shelf = c.args.shelf;
  there = refl;
  standing = (c.requires.shelf.0, c.requires.lanes.2);
  first = none_first _ c.requires.shelf.1;
}
