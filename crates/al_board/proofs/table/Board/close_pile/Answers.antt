use Rattle.std.proofs.Common.{ap, sym, subst, ◌∙◌, ◌≡◌, ◌+◌, ◌<◌, ◌≤◌, ℕ, Bool, true, false, List, length, get_or, arith}
use Rattle.std.specs.Slots.{slots_items, slots_filled, slots_len}
use lib.ListN.{get_elem?}
use Rattle.al_board.specs.Piles.{on_pile}
use Rattle.al_board.proofs.Ends.{close_pieces, close_room, close_round}
use Rattle.al_board.proofs.Gathers.{last_emptied}
use Rattle.al_board.proofs.table.Board.close_pile.Goals as goal

pub gather-requires-clause-room : goal.gather-requires-clause-room
gather-requires-clause-room g c =
    close_room g.T.Piece.fits g.T.Piece.laid (λ k n h. g.T.Piece.stands k h × (g.T.Piece.lanes k ≡ n)) c.args.self.table.shared.key
    c.args.self.setting c.args.self.about _ c.args.pass.seat.me.0 _ (slots_items c.close_with-closed.result.slots) record {
      plain = c.requires.plain;
      live = c.args.pass.live.0;
      full = c.requires.full;
      final = c.close_with-closed.ensures.values.2;
    } c.take.result c.in-Room.room c.take.ensures.value
    c.in-Room.is

pub gather-requires-clause-pieces : goal.gather-requires-clause-pieces
gather-requires-clause-pieces g c = λ k lt.
    let found = close_pieces g.T.Piece.fits g.T.Piece.laid (λ k n h. g.T.Piece.stands k h × (g.T.Piece.lanes k ≡ n)) c.args.self.table.shared.key
    c.args.self.setting c.args.self.about _ c.args.pass.seat.me.0 _ (slots_items c.close_with-closed.result.slots) record {
      plain = c.requires.plain;
      live = c.args.pass.live.0;
      full = c.requires.full;
      final = c.close_with-closed.ensures.values.2;
    } k lt in
    (found.0, ap (λ z. get_elem? z k) c.take.ensures.others.0 ∙ found.1)

pub returns : goal.returns
returns g c =
    let round = close_round g.T.Piece.fits g.T.Piece.laid (λ k n h. g.T.Piece.stands k h × (g.T.Piece.lanes k ≡ n)) c.args.self.table.shared.key
    c.args.self.setting c.args.self.about _ c.args.pass.seat.me.0 _ (slots_items c.close_with-closed.result.slots) record {
      plain = c.requires.plain;
      live = c.args.pass.live.0;
      full = c.requires.full;
      final = c.close_with-closed.ensures.values.2;
    } (on_pile c.gather.result)
    c.gather.ensures.each (λ k piece h. ap (λ z. get_elem? z k) (sym c.take.ensures.others.0) ∙ c.gather.ensures.from k piece h) in
    record { each = c.gather.ensures.each; fit = round.0; history = round.1; given = round.2 }

pub gather-requires-clause-slots : goal.gather-requires-clause-slots
gather-requires-clause-slots g c =
    let n : ℕ = c.args.self.setting.lanes in
    let fs : List Bool = slots_filled c.close_with-closed.result.slots in
    let o = c.take.ensures.others in
    let len : slots_len c.close_with-closed.result.slots ≡ n + 1 = c.close_with-closed.ensures.counts.1 ∙ c.args.self.sized.1 in
    let long : slots_len c.close_with-closed.result.slots ≡ length fs = let k = c.close_with-closed.result.slots.ok.1 in omega arith in
    let h = last_emptied fs (slots_len c.close_with-closed.result.slots) n len long c.close_with-closed.ensures.values.1 in (
      o.2 ∙ len,
      subst (λ (z : List Bool). (k : ℕ) → 0 ≤ k → k < n → get_or z k false ≡ true) (sym o.1) h.0,
      ap (λ (z : List Bool). get_or z n false) o.1 ∙ h.1,
    )
