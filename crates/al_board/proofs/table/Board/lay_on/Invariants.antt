use Rattle.std.proofs.Common.{◌≡◌, ◌-◌, ◌≤◌, length}
use Rattle.al_board.specs.Logs.{AreKept}
use Rattle.al_board.specs.Seen.{seen, seat_logs}
use Rattle.al_board.specs.Views.{at_turn}
use Rattle.al_board.specs.Helps.{IsCarried}
use Rattle.al_board.proofs.table.Board.lay_on.Given as goal

abbrev pub invariant-loop-next : goal.invariant-loop-next
invariant-loop-next g l = record {
  table : l.seat.table_id ≡ l.initial.seat.table_id;
  id : l.seat.id ≡ l.initial.seat.id;
  view : seen l.seat ≡ at_turn l.found l.next (g.T.Piece.laid l.shelf) (seen l.initial.seat);
  held : IsCarried l.self.setting.lanes l.next l.seat.me.1;
  from : l.found ≤ l.next;
  to : l.next ≤ l.self.setting.lanes;
  stands : g.T.Piece.stands l.self.setting.task l.shelf;
  many : length (g.T.Piece.laid l.shelf) ≡ l.next;
  kept : AreKept (seat_logs l.initial.seat) (seat_logs l.seat);
}

abbrev pub decreases-loop-next : goal.decreases-loop-next
decreases-loop-next g l = l.self.setting.lanes - l.next
