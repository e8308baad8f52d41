use Rattle.std.proofs.Common.{arith, refl, sym, subst, ap, ◌∙◌, ◌≡◌, length, length-append, ◌++◌, [], ◌∷◌}
use Rattle.atomic_table.specs.Table.{rest}
use Rattle.al_board.specs.declared.view.Slot.TheVariants.{Empty, Piece}
use Rattle.al_board.specs.declared.view.Entry.TheVariants.{Put}
use Rattle.al_board.specs.Logs.{HasLogged}
use Rattle.al_board.specs.Seen.{view}
use Rattle.al_board.specs.Views.{gave, unlogged}
use Rattle.al_board.proofs.Passes.{drawn_below}
use Rattle.al_board.proofs.Puts.{takes_lane, fills_lane, put_view, put_idle}
use Rattle.al_board.proofs.table.Board.put.Goals as goal

pub swap-requires : goal.swap-requires
swap-requires g c =
    let n = c.requires.own.2 in
    let q = c.args.self.now.sized.0 in
    let lt = drawn_below (view c.args.pass.now) c.args.lane c.args.pass.now.bounded c.requires.drawn in (
      c.requires.own.0,
      omega arith,
      takes_lane _ _ _ _ _ c.args.lane record {
        live = c.args.pass.now.live.0;
        near = lt;
        drawn = c.requires.drawn;
        not_put = c.requires.not_put;
        free = c.args.pass.now.idle.1;
      },
    )

pub exchange-requires : goal.exchange-requires
exchange-requires g c =
    let took = c.swap.ensures.2.slots c.args.lane refl in
    (c.swap.ensures.0 ∙ c.requires.own.0, (Empty, took ∙ (λ i. (c.args.lane, Empty) ∷ sym (ap rest took) i)))

pub swap-requires-2 : goal.swap-requires-2
swap-requires-2 g c =
    let n = c.requires.own.2 in
    let q = c.args.self.now.sized.0 in
    let lt = drawn_below (view c.args.pass.now) c.args.lane c.args.pass.now.bounded c.requires.drawn in
    let took = c.swap.ensures.2.view c.args.lane refl in (
      c.exchange.ensures.0 ∙ c.swap.ensures.0 ∙ c.requires.own.0,
      omega arith,
      fills_lane _ _ _ (view c.args.pass.now) _ _ _ c.args.lane c.args.piece record {
        live = c.args.pass.now.live.0;
        near = lt;
        took = took;
        holds = c.exchange.ensures.3;
        fit = subst (λ k. g.T.Piece.fits k.task c.args.lane c.args.piece) (sym c.args.self.now.about) c.requires.fits;
      },
    )

pub invariant_of-pass : goal.invariant_of-pass
invariant_of-pass g c =
    let v = view c.args.pass.now in
    let x = c.swap-2.new.seat.me.0 in
    let took = c.swap.ensures.2 in
    let done = c.swap-2.ensures.2 in
    let is : unlogged x ≡ gave c.args.lane v =
    put_view v c.swap.new.seat.me.0 x _ c.exchange.new.seat.me c.args.lane (took.view c.args.lane refl) c.exchange.ensures.3 (done.view c.args.lane refl) in
    let live = c.args.pass.now.live in
    let share : x.share ≡ v.share = ap (λ z. z.share) is in
    record {
      idle = (
        put_idle c.swap.new.seat.me.0 c.args.pass.now.seat.me.1 c.swap.new.seat.me.1 c.swap-2.new.seat.me.1 c.exchange.new.seat.me c.args.lane
            Empty (Piece c.args.piece) c.args.pass.now.idle.0 (took.slots c.args.lane refl) c.exchange.ensures.3 done.slots,
        ap (λ z. z.holds) is,
        ap (λ z. z.turn) is ∙ c.args.pass.now.idle.2,
      );
      live = (omega arith, omega arith);
      bounded = done.bounded;
      allows = c.args.pass.now.allows ∙ sym (ap (λ z. z.allowance) is);
      counts =
          let n = c.args.pass.now.counts in
          let l : length x.put ≡ length (v.put ++ c.args.lane ∷ []) = ap (λ z. length z.put) is in
          let a = length-append v.put (c.args.lane ∷ []) in omega arith;
    }

pub returns-clause-own : goal.returns-clause-own
returns-clause-own g c =
    let is = put_view (view c.args.pass.now) c.swap.new.seat.me.0 c.swap-2.new.seat.me.0 _ c.exchange.new.seat.me c.args.lane
    (c.swap.ensures.2.view c.args.lane refl) c.exchange.ensures.3 (c.swap-2.ensures.2.view c.args.lane refl) in
    let own = c.requires.own in (
      (
        c.swap-2.ensures.0 ∙ c.exchange.ensures.0 ∙ c.swap.ensures.0 ∙ own.0,
        ap (λ z. z.task) is ∙ own.1,
        ap (λ z. z.lanes) is ∙ own.2,
        ap (λ z. z.shelved) is ∙ own.3,
      ),
      c.swap-2.ensures.1 ∙ c.exchange.ensures.1 ∙ c.swap.ensures.1,
    )

pub returns-clause-put : goal.returns-clause-put
returns-clause-put g c = put_view (view c.args.pass.now) c.swap.new.seat.me.0 c.swap-2.new.seat.me.0 _ c.exchange.new.seat.me c.args.lane
    (c.swap.ensures.2.view c.args.lane refl) c.exchange.ensures.3 (c.swap-2.ensures.2.view c.args.lane refl)

pub returns-clause-logged : goal.returns-clause-logged
returns-clause-logged g c =
    let took = c.swap.ensures.2 in
    let e = c.exchange.ensures.3 in
    subst (λ z. HasLogged (λ p. Put p c.args.lane c.args.piece) z c.swap-2.new.seat.me.0.logs)
    (ap (λ z. z.0.logs) e ∙ took.logs) (c.swap-2.ensures.2.logged c.args.lane c.args.piece _ (ap (λ z. z.1) e))
