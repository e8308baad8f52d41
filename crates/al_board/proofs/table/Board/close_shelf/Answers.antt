use Rattle.std.proofs.Common.{refl, ◌≡◌}
use Rattle.std.specs.Slots.{slots_items}
use Rattle.al_board.specs.Seen.{logs_of, view}
use Rattle.al_board.proofs.Ends.{close_is_shelf, close_whole}
use Rattle.al_board.proofs.Kept.{kept_help}
use Rattle.al_board.proofs.table.Board.close_shelf.Goals as goal

pub shelf_in-requires : goal.shelf_in-requires
shelf_in-requires g c =
    let found = close_is_shelf g.T.Piece.fits g.T.Piece.laid (λ k n h. g.T.Piece.stands k h × (g.T.Piece.lanes k ≡ n)) c.args.self.table.shared.key
    c.args.self.setting c.args.self.about record {
      id = c.args.pass.seat.id;
      view = view c.args.pass;
      logs = logs_of c.args.pass;
      left = view c.take_turn.new.pass;
      answer = c.take_turn.result;
      end_id = _;
      end_view = c.take_turn.new.pass.seat.me.0;
      words = _;
      slots = slots_items c.close_with-closed.result.slots;
      last = c.take-last.result;
      same = c.take_turn.ensures.own.1;
      seen = refl;
      kept = kept_help c.args.self.setting.lanes (logs_of c.args.pass) (logs_of c.take_turn.new.pass) c.take_turn.result c.take_turn.ensures.logged;
      shelved = c.requires.shelf;
      lanes = c.requires.own.2;
      live = c.args.pass.live.0;
      full = c.requires.full;
      idle = c.args.pass.idle.2;
      helped = c.take_turn.ensures.helped;
      final = c.close_with-closed.ensures.values.2;
      there = c.take-last.ensures.value;
    } in
    (found.0, found.1)

pub returns : goal.returns
returns g c =
    let whole = close_whole g.T.Piece.fits g.T.Piece.laid (λ k n h. g.T.Piece.stands k h × (g.T.Piece.lanes k ≡ n)) c.args.self.table.shared.key
    c.args.self.setting c.args.self.about record {
      id = c.args.pass.seat.id;
      view = view c.args.pass;
      logs = logs_of c.args.pass;
      left = view c.take_turn.new.pass;
      answer = c.take_turn.result;
      end_id = _;
      end_view = c.take_turn.new.pass.seat.me.0;
      words = _;
      slots = slots_items c.close_with-closed.result.slots;
      last = c.take-last.result;
      same = c.take_turn.ensures.own.1;
      seen = refl;
      kept = kept_help c.args.self.setting.lanes (logs_of c.args.pass) (logs_of c.take_turn.new.pass) c.take_turn.result c.take_turn.ensures.logged;
      shelved = c.requires.shelf;
      lanes = c.requires.own.2;
      live = c.args.pass.live.0;
      full = c.requires.full;
      idle = c.args.pass.idle.2;
      helped = c.take_turn.ensures.helped;
      final = c.close_with-closed.ensures.values.2;
      there = c.take-last.ensures.value;
    } c.shelf_in.result c.shelf_in.ensures in
    record { stands = whole.standing.0; each = whole.each; fit = whole.fit; history = whole.round; given = whole.given }
