use Rattle.std.proofs.Common.{arith, sym, subst, ap, ◌∙◌, ◌≡◌, ℕ, ◌+◌, inl, inr, ◌∷◌, ◌++◌, [], length, length-append}
use Rattle.atomic_table.specs.Table.{rest}
use Rattle.al_board.specs.declared.view.Slot.TheVariants.{Empty, Piece}
use Rattle.al_board.specs.declared.view.Miss.TheVariants.{Lane}
use Rattle.al_count.specs.Counts.{times}
use Rattle.al_board.specs.declared.view.Entry.TheVariants.{Took}
use Rattle.al_board.specs.Seen.{seen, seat_logs}
use Rattle.al_board.specs.Views.{at_turn, missed, unlogged, IsFull}
use Rattle.al_board.proofs.Batons.{tries}
use Rattle.al_board.proofs.Kept.{kept_same, kept_trans, kept_entry, laid_on}
use Rattle.al_board.proofs.Lays.{slot_is, same_piece, empty_piece, shelf_piece, room_piece, spared_is}
use Rattle.al_board.proofs.table.Board.lay_on.Goals as goal

pub compare_exchange-word-requires : goal.compare_exchange-word-requires
compare_exchange-word-requires g c =
    let i = c.loop-next.invariant in
    let a = c.requires.about in
    let live = a.live in
    let q = c.args.self.now.sized in
    let t = c.loop-next-test.true in
    let s : c.loop-next.seat.me.0.share ≡ c.args.seat.now.me.0.share = ap (λ z. z.share) i.view in (
      i.table ∙ c.requires.own,
      omega arith,
      tries g.T.Piece.fits g.T.Piece.laid (λ k n h. g.T.Piece.stands k h × (g.T.Piece.lanes k ≡ n)) c.args.self.now.table.shared.key _
          c.args.self.now.setting.lanes
          _ _ _ record { found = c.args.found; next = c.loop-next.next; laid = g.T.Piece.laid c.loop-next.shelf }
          record {
            many = ap (λ z. z.lanes) i.view ∙ a.lanes;
            live = omega arith;
            shelved = ap (λ z. z.shelved) i.view ∙ a.shelved;
            turn = ap (λ z. z.turn) i.view;
          }
          t i.held,
    )

pub returns-then-word-ne-FILLED-clause-laid : goal.returns-then-word-ne-FILLED-clause-laid
returns-then-word-ne-FILLED-clause-laid g c =
    let i = c.loop-next.invariant in
    let n : ℕ = c.loop-next.next in
    let told = c.compare_exchange-word.ensures.2.missing record { found = c.args.found; next = n; laid = g.T.Piece.laid c.loop-next.shelf }
    (ap (λ z. z.turn) i.view) in
    let miss = told c.if-word-ne-FILLED.true in
    record {
      from = i.from;
      to = i.to;
      many = i.many;
      view = inr (
        c.loop-next-test.true,
        miss.view ∙ ap (missed (Lane n)) i.view,
        sym (ap (λ z. times n z.put) i.view) ∙ miss.unput,
        subst (λ z. ¬ (IsFull z)) i.view miss.not_full,
      );
    }

pub returns-then-word-ne-FILLED-clause-held : goal.returns-then-word-ne-FILLED-clause-held
returns-then-word-ne-FILLED-clause-held g c =
    let i = c.loop-next.invariant in
    let n : ℕ = c.loop-next.next in
    let told = c.compare_exchange-word.ensures.2.missing record { found = c.args.found; next = n; laid = g.T.Piece.laid c.loop-next.shelf }
    (ap (λ z. z.turn) i.view) in
    let miss = told c.if-word-ne-FILLED.true in
    inl (miss.slots ∙ spared_is c.args.self.now.setting.lanes n _ i.held)

pub exchange-requires : goal.exchange-requires
exchange-requires g c =
    let i = c.loop-next.invariant in
    let n : ℕ = c.loop-next.next in
    let told = c.compare_exchange-word.ensures.2.filled record { found = c.args.found; next = n; laid = g.T.Piece.laid c.loop-next.shelf }
    (ap (λ z. z.turn) i.view) in
    let hit = told c.if-word-ne-FILLED.false in
    (c.compare_exchange-word.ensures.0 ∙ i.table ∙ c.requires.own, (Piece hit.piece, hit.slots ∙ (λ j. (n, Piece hit.piece) ∷ sym (ap rest hit.slots) j)))

pub lay-requires-clause-fits : goal.lay-requires-clause-fits
lay-requires-clause-fits g c =
    let i = c.loop-next.invariant in
    let n : ℕ = c.loop-next.next in
    let told = c.compare_exchange-word.ensures.2.filled record { found = c.args.found; next = n; laid = g.T.Piece.laid c.loop-next.shelf }
    (ap (λ z. z.turn) i.view) in
    let hit = told c.if-word-ne-FILLED.false in
    let same = same_piece c.in-Piece.piece hit.piece (sym c.in-Piece.is ∙ slot_is _ _ _ n (Piece hit.piece) c.exchange.result hit.slots c.exchange.ensures.2)
    in
    let fit = hit.fit c.args.self.now.setting.task (ap (λ z. z.task) i.view ∙ c.requires.about.task) in
    subst (λ (z : g.row.T.Denot × ℕ). g.T.Piece.fits c.args.self.now.setting.task z.1 z.0) (λ j. (sym same j, sym i.many j)) fit

pub unreachable-requires : goal.unreachable-requires
unreachable-requires g c =
    let i = c.loop-next.invariant in
    let n : ℕ = c.loop-next.next in
    let told = c.compare_exchange-word.ensures.2.filled record { found = c.args.found; next = n; laid = g.T.Piece.laid c.loop-next.shelf }
    (ap (λ z. z.turn) i.view) in
    let hit = told c.if-word-ne-FILLED.false in
    empty_piece hit.piece (sym c.in-Empty.is ∙ slot_is _ _ _ n (Piece hit.piece) c.exchange.result hit.slots c.exchange.ensures.2)

pub unreachable-requires-in-Shelf : goal.unreachable-requires-in-Shelf
unreachable-requires-in-Shelf g c =
    let i = c.loop-next.invariant in
    let n : ℕ = c.loop-next.next in
    let told = c.compare_exchange-word.ensures.2.filled record { found = c.args.found; next = n; laid = g.T.Piece.laid c.loop-next.shelf }
    (ap (λ z. z.turn) i.view) in
    let hit = told c.if-word-ne-FILLED.false in
    shelf_piece _ hit.piece (sym c.in-Shelf.is ∙ slot_is _ _ _ n (Piece hit.piece) c.exchange.result hit.slots c.exchange.ensures.2)

pub unreachable-requires-in-Room : goal.unreachable-requires-in-Room
unreachable-requires-in-Room g c =
    let i = c.loop-next.invariant in
    let n : ℕ = c.loop-next.next in
    let told = c.compare_exchange-word.ensures.2.filled record { found = c.args.found; next = n; laid = g.T.Piece.laid c.loop-next.shelf }
    (ap (λ z. z.turn) i.view) in
    let hit = told c.if-word-ne-FILLED.false in
    room_piece _ hit.piece (sym c.in-Room.is ∙ slot_is _ _ _ n (Piece hit.piece) c.exchange.result hit.slots c.exchange.ensures.2)

pub loop-next-preserved : goal.loop-next-preserved
loop-next-preserved g c =
    let i = c.loop-next.invariant in
    let n : ℕ = c.loop-next.next in
    let t = c.loop-next-test.true in
    let told = c.compare_exchange-word.ensures.2.filled record { found = c.args.found; next = n; laid = g.T.Piece.laid c.loop-next.shelf }
    (ap (λ z. z.turn) i.view) in
    let hit = told c.if-word-ne-FILLED.false in
    let same = same_piece c.in-Piece.piece hit.piece (sym c.in-Piece.is ∙ slot_is _ _ _ n (Piece hit.piece) c.exchange.result hit.slots c.exchange.ensures.2)
    in
    let grown : g.T.Piece.laid c.loop-next.shelf ++ hit.piece ∷ [] ≡ g.T.Piece.laid c.lay.new.shelf =
    ap (λ z. g.T.Piece.laid c.loop-next.shelf ++ z ∷ []) (sym same) ∙ sym c.lay.ensures.laid in
    record {
      table = c.exchange.ensures.0 ∙ c.compare_exchange-word.ensures.0 ∙ i.table;
      id = c.exchange.ensures.1 ∙ c.compare_exchange-word.ensures.1 ∙ i.id;
      view = ap (λ z. unlogged z.0) c.exchange.ensures.3
          ∙ hit.view
          ∙ ap (λ z. at_turn c.args.found (n + 1) z (seen c.loop-next.seat)) grown
          ∙ ap (at_turn c.args.found (n + 1) (g.T.Piece.laid c.lay.new.shelf)) i.view;
      held = inr (
        n,
        omega arith,
        ap (λ z. z.1) c.exchange.ensures.3
            ∙ ap (λ z. (n, Empty) ∷ z) (ap rest hit.slots ∙ spared_is c.args.self.now.setting.lanes n _ i.held),
      );
      from = let f = i.from in omega arith;
      to = omega arith;
      stands = c.lay.ensures.stands;
      many = let m = i.many in
          let a = length-append (g.T.Piece.laid c.loop-next.shelf) (c.in-Piece.piece ∷ []) in ap length c.lay.ensures.laid ∙ (omega arith);
      kept = kept_trans (seat_logs c.args.seat.now) (seat_logs c.loop-next.seat) (seat_logs c.exchange.new.seat) i.kept
          (kept_trans (seat_logs c.loop-next.seat) (seat_logs c.compare_exchange-word.new.seat) (seat_logs c.exchange.new.seat)
          (kept_entry Took (seat_logs c.loop-next.seat) (seat_logs c.compare_exchange-word.new.seat) hit.logged)
          (kept_same (seat_logs c.compare_exchange-word.new.seat) (seat_logs c.exchange.new.seat) (ap (λ z. z.0.logs) c.exchange.ensures.3)));
    }

pub returns-then-word-ne-FILLED-clause-logged : goal.returns-then-word-ne-FILLED-clause-logged
returns-then-word-ne-FILLED-clause-logged g c =
    let i = c.loop-next.invariant in
    let n : ℕ = c.loop-next.next in
    let told = c.compare_exchange-word.ensures.2.missing record { found = c.args.found; next = n; laid = g.T.Piece.laid c.loop-next.shelf }
    (ap (λ z. z.turn) i.view) in
    let miss = told c.if-word-ne-FILLED.true in
    let lanes : c.loop-next.seat.me.0.lanes ≡ c.args.self.now.setting.lanes = ap (λ z. z.lanes) i.view ∙ c.requires.about.lanes in
    laid_on c.args.self.now.setting.lanes c.loop-next.seat.me.0.lanes n (seat_logs c.args.seat.now) (seat_logs c.loop-next.seat)
    (seat_logs c.compare_exchange-word.new.seat) lanes i.kept miss.logged

pub returns-clause-logged : goal.returns-clause-logged
returns-clause-logged g c =
    let i = c.loop-next.invariant in
    let t = c.loop-next-test.false in
    record { kept = i.kept; halt = λ lt. absurd (omega arith) }
