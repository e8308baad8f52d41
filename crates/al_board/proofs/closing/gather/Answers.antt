use Rattle.std.proofs.Common.{arith, sym, subst, ap, ◌∙◌, ◌≡◌, ℕ, ◌+◌, ◌<◌, ◌≤◌, length, length-append, get_or, get_or-set_other, Bool, true, false, List, ◌∷◌, []}
use Rattle.std.specs.Slots.{slots_items, slots_filled}
use mathlib.Core.Option.{some, some-injective}
use lib.ListN.{get_elem?}
use Rattle.al_board.specs.declared.view.Slot.TheVariants.{Piece}
use Rattle.al_board.specs.Piles.{on_pile}
use Rattle.al_board.proofs.Gathers.{gathered, emptied, still_filled}
use Rattle.al_board.proofs.Lays.{empty_piece, shelf_piece, room_piece}
use Rattle.al_board.proofs.closing.gather.Goals as goal

pub unreachable-requires : goal.unreachable-requires
unreachable-requires g c =
    let i = c.loop-lane.invariant in
    let there = c.requires.pieces c.loop-lane.lane (omega arith) in
    empty_piece there.0 (sym c.in-Empty.is
    ∙ some-injective c.take.result (Piece there.0) (sym (ap (λ xs. get_elem? xs c.loop-lane.lane) (sym i.same) ∙ c.take.ensures.value) ∙ there.1))

pub unreachable-requires-in-Shelf : goal.unreachable-requires-in-Shelf
unreachable-requires-in-Shelf g c =
    let i = c.loop-lane.invariant in
    let there = c.requires.pieces c.loop-lane.lane (omega arith) in
    shelf_piece _ there.0
    (sym c.in-Shelf.is ∙ some-injective c.take.result (Piece there.0)
    (sym (ap (λ xs. get_elem? xs c.loop-lane.lane) (sym i.same) ∙ c.take.ensures.value) ∙ there.1))

pub unreachable-requires-in-Room : goal.unreachable-requires-in-Room
unreachable-requires-in-Room g c =
    let i = c.loop-lane.invariant in
    let there = c.requires.pieces c.loop-lane.lane (omega arith) in
    room_piece _ there.0
    (sym c.in-Room.is ∙ some-injective c.take.result (Piece there.0)
    (sym (ap (λ xs. get_elem? xs c.loop-lane.lane) (sym i.same) ∙ c.take.ensures.value) ∙ there.1))

pub loop-lane-preserved : goal.loop-lane-preserved
loop-lane-preserved g c =
    let i = c.loop-lane.invariant in
    let lane : ℕ = c.loop-lane.lane in
    let o = c.take.ensures.others in
    let t = c.loop-lane-test.true in
    let fs : List Bool = slots_filled c.loop-lane.closed.slots in
    let long : lane < length fs = let k = c.loop-lane.closed.slots.ok.1 in let l = i.len in omega arith in
    let here : get_elem? (slots_items c.args.closed.slots) lane ≡ some (Piece c.in-Piece.piece) = ap (λ xs. get_elem? xs lane) (sym i.same)
    ∙ c.take.ensures.value ∙ ap some c.in-Piece.is in
    record {
      same = o.0 ∙ i.same;
      len = o.2 ∙ i.len;
      filled = subst (λ (z : List Bool). (k : ℕ) → lane + 1 ≤ k → k < c.args.lanes → get_or z k false ≡ true) (sym o.1)
          (still_filled fs lane c.args.lanes i.filled);
      emptied = subst (λ (z : List Bool). (k : ℕ) → k < lane + 1 → get_or z k false ≡ false) (sym o.1) (emptied fs lane long i.emptied);
      last = ap (λ (z : List Bool). get_or z c.args.lanes false) o.1 ∙ get_or-set_other {A = Bool} fs lane c.args.lanes false false (λ e. omega arith)
          ∙ i.last;
      many = ap length c.lay.ensures.laid ∙ (let m = i.many in let a = length-append (on_pile c.loop-lane.room) (c.in-Piece.piece ∷ []) in omega arith);
      room = let r = i.room in let p = c.lay.ensures.room in omega arith;
      each = subst (λ (z : List g.row.T.Denot). (k : ℕ) (q : g.row.T.Denot) → get_elem? z k ≡ some q
          → get_elem? (slots_items c.args.closed.slots) k ≡ some (Piece q)) (sym c.lay.ensures.laid)
          (gathered (on_pile c.loop-lane.room) (slots_items c.args.closed.slots) lane c.in-Piece.piece i.many here i.each);
    }

pub returns-clause-from : goal.returns-clause-from
returns-clause-from g c = c.loop-lane.invariant.each
