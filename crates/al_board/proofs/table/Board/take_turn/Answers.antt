use Rattle.std.proofs.Common.{arith, refl, sym, subst, ap, ◌∙◌, ◌≡◌, ℕ, ◌∷◌}
use Rattle.atomic_table.specs.Table.{rest}
use Rattle.al_board.specs.declared.view.Slot.TheVariants.{Empty, Shelf}
use Rattle.al_board.specs.Logs.{MetBaton, HandedBaton}
use Rattle.al_board.specs.Seen.{logs_of, seat_logs, seen}
use Rattle.al_board.specs.Views.{unlogged}
use Rattle.al_board.proofs.Batons.{seizes, passes_on}
use Rattle.al_board.proofs.Kept.{advanced}
use Rattle.al_board.proofs.Lays.{laid_turn, laid_work, shelf_in_front, front_refilled}
use Rattle.al_board.proofs.table.Board.take_turn.Goals as goal

pub swap-found-requires : goal.swap-found-requires
swap-found-requires g c =
    let q = c.args.self.now.sized in (
      c.requires.own.0,
      omega arith,
      seizes g.T.Piece.fits g.T.Piece.laid (λ k n h. g.T.Piece.stands k h × (g.T.Piece.lanes k ≡ n)) c.args.self.now.table.shared.key _
          c.args.self.now.setting.lanes _ _ _ record {
            many = c.requires.own.2;
            live = c.args.pass.now.live.0;
            shelved = c.requires.own.3 ∙ c.requires.shelf;
            idle = c.args.pass.now.idle.2;
            put = c.requires.put;
          },
    )

pub exchange-requires : goal.exchange-requires
exchange-requires g c =
    let took = c.swap-found.ensures.2.home c.if-found-eq-AWAY.false in
    (c.swap-found.ensures.0 ∙ c.requires.own.0, (Shelf took.shelf, took.slots ∙ (λ j. (c.requires.own.2 j, Shelf took.shelf) ∷ sym (ap rest took.slots) j)))

pub swap-requires : goal.swap-requires
swap-requires g c =
    let q = c.args.self.now.sized in
    let own = c.requires.own in
    let n : ℕ = c.args.self.now.setting.lanes in
    let took = c.swap-found.ensures.2.home c.if-found-eq-AWAY.false in
    let e = ap (λ z. unlogged z.0) c.exchange.ensures.3 ∙ took.view in
    let laid = c.lay_on-next.ensures.laid in
    let on_shelf = g.T.Piece.laid c.lay_on-next.new.shelf in
    let w = laid_work n c.swap-found.result c.lay_on-next.result on_shelf (seen c.exchange.new.seat) (seen c.lay_on-next.new.seat) laid in
    let me : seen c.exchange-in-Shelf.new.seat ≡ seen c.lay_on-next.new.seat =
    ap (λ z. unlogged z.0) c.exchange-in-Shelf.ensures.3 ∙ ap (λ z. unlogged z.0) c.turn.ensures.2 in
    let share : c.exchange-in-Shelf.new.seat.me.0.share ≡ c.args.pass.now.seat.me.0.share = ap (λ z. z.share) me ∙ w.share ∙ ap (λ z. z.share) e in
    let live = c.args.pass.now.live.0 in (
      c.exchange-in-Shelf.ensures.0 ∙ c.turn.ensures.0 ∙ c.lay_on-next.ensures.own.0 ∙ c.exchange.ensures.0 ∙ c.swap-found.ensures.0 ∙ own.0,
      omega arith,
      passes_on g.T.Piece.fits g.T.Piece.laid (λ k n h. g.T.Piece.stands k h × (g.T.Piece.lanes k ≡ n)) c.args.self.now.table.shared.key _ n _ _
          record { found = c.swap-found.result; next = c.lay_on-next.result; laid = on_shelf } c.lay_on-next.new.shelf
          record {
            many = ap (λ z. z.lanes) me ∙ w.lanes ∙ ap (λ z. z.lanes) e ∙ own.2;
            live = omega arith;
            shelved = ap (λ z. z.shelved) me ∙ w.shelved ∙ ap (λ z. z.shelved) e ∙ own.3 ∙ c.requires.shelf;
            turn = ap (λ z. z.turn) me
                ∙ laid_turn n c.swap-found.result c.lay_on-next.result on_shelf (seen c.exchange.new.seat) (seen c.lay_on-next.new.seat) laid;
          }
          (subst (λ k. g.T.Piece.stands k.task c.lay_on-next.new.shelf × (g.T.Piece.lanes k.task ≡ k.lanes)) (sym c.args.self.now.about)
          (c.lay_on-next.ensures.shelf, (took.standing c.args.self.now.setting.task own.1).1 ∙ own.2))
          refl
          (front_refilled n c.lay_on-next.result Empty (Shelf c.lay_on-next.new.shelf) _ _ (shelf_in_front n c.lay_on-next.result _ c.lay_on-next.ensures.held)
          (ap (λ z. z.1) c.exchange-in-Shelf.ensures.3 ∙ ap (λ z. (n, Shelf c.lay_on-next.new.shelf) ∷ rest z.1) c.turn.ensures.2)),
    )

pub returns-then-found-eq-AWAY-clause-logged : goal.returns-then-found-eq-AWAY-clause-logged
returns-then-found-eq-AWAY-clause-logged g c =
    let met = c.swap-found.ensures.2.away c.if-found-eq-AWAY.true in
    subst (λ (z : ℕ). MetBaton z (logs_of c.args.pass.now) (seat_logs c.swap-found.new.seat)) c.requires.own.2 met.logged

pub returns-clause-logged : goal.returns-clause-logged
returns-clause-logged g c =
    let own = c.requires.own in
    let n : ℕ = c.args.self.now.setting.lanes in
    let took = c.swap-found.ensures.2.home c.if-found-eq-AWAY.false in
    let e = ap (λ z. unlogged z.0) c.exchange.ensures.3 ∙ took.view in
    let on_shelf = g.T.Piece.laid c.lay_on-next.new.shelf in
    let w = laid_work n c.swap-found.result c.lay_on-next.result on_shelf (seen c.exchange.new.seat) (seen c.lay_on-next.new.seat) c.lay_on-next.ensures.laid in
    let me : seen c.exchange-in-Shelf.new.seat ≡ seen c.lay_on-next.new.seat =
    ap (λ z. unlogged z.0) c.exchange-in-Shelf.ensures.3 ∙ ap (λ z. unlogged z.0) c.turn.ensures.2 in
    let lanes : c.exchange-in-Shelf.new.seat.me.0.lanes ≡ n = ap (λ z. z.lanes) me ∙ w.lanes ∙ ap (λ z. z.lanes) e ∙ own.2 in
    advanced n c.lay_on-next.result record {
      logs = logs_of c.args.pass.now;
      seized = seat_logs c.swap-found.new.seat;
      with_shelf = seat_logs c.exchange.new.seat;
      laid = seat_logs c.lay_on-next.new.seat;
      in_front = seat_logs c.turn.new.self;
      without_shelf = seat_logs c.exchange-in-Shelf.new.seat;
      later = seat_logs c.swap.new.seat;
      took = took.logged;
      shelf_out = ap (λ z. z.0.logs) c.exchange.ensures.3;
      lays = c.lay_on-next.ensures.logged;
      fronted = ap (λ z. z.0.logs) c.turn.ensures.2;
      shelf_in = ap (λ z. z.0.logs) c.exchange-in-Shelf.ensures.3;
      hands = subst (λ (z : ℕ). HandedBaton z c.lay_on-next.result (seat_logs c.exchange-in-Shelf.new.seat) (seat_logs c.swap.new.seat)) lanes
          c.swap.ensures.2.logged;
    }
