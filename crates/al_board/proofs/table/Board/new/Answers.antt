use Rattle.std.proofs.Common.{refl}
use Rattle.al_board.proofs.table.Board.new.Goals as goal

pub open-requires-clause-last : goal.open-requires-clause-last
open-requires-clause-last g c κs within = record {
  word = refl;
  taken = refl;
  nobody = (refl, refl);
  pile = c.in_ok-room.room;
  there = refl;
  empty = c.in_ok-room.ensures.empty;
  room = c.in_ok-room.ensures.room;
}
