-- The rule as it is kept is the rule in plain words.
use Rattle.std.proofs.Common.{◌≡◌, ◌≢◌, ℕ, ◌+◌, ◌*◌, ◌<◌, ◌≤◌, ◌⊎◌, min, Bool, true, false, List, [], ◌∷◌, get_or, Option, Some, None, refl, sym, ap, ◌∙◌, subst, inl, inr, ⊎_elim, arith}
use mathlib.Core.Option.{some}
use native.Mathlib.Decide.{dec_le, ℕ_discrete}
use lib.ListN.{get_elem?}
use Rattle.atomic_table.specs.Table.{State}
use Rattle.al_board.specs.declared.view.Turn.{Turn}
use Rattle.al_board.specs.declared.view.View.{View}
use Rattle.al_board.specs.declared.view.Slot.{Slot}
use Rattle.al_count.specs.Counts.{one, below, times, holding, total, present}
use Rattle.al_count.proofs.Totals.{one_same, below_yes, below_no, below_le, below_true, member_le, some_member, two_members, total_zero, total_alone, not_holding, is_holding, is_present}
use Rattle.al_board.specs.Counted.{drawn_times, put_times, held_count, turn_count}
use Rattle.al_board.specs.Rule.{Terms, Stage, AreFirst, IsTurn, IsHome, IsPlain, IsBaton, IsKept, baton_of, shown}
use Rattle.al_board.specs.Ruled.{HasFirst, IsUnput, IsUnheld, IsDrawnOnce, IsRuled}
use Rattle.al_board.specs.Words.{filled_word, away_word}
use Rattle.al_board.proofs.Ends.{fit_of}
use Rattle.al_board.proofs.Parts.{at_most_one_of, at_most_one, put_below, drawn_all, ahead}
use Rattle.al_board.proofs.Batons.{is_taken}
use Rattle.al_board.proofs.Pieces.{none_some}

-- a list in which no number stands is empty
empty_list : (xs : List ℕ) → ((x : ℕ) → times x xs ≡ 0) → xs ≡ []
empty_list [] h = refl
empty_list (y ∷ ys) h = let o = one_same y in let z : one y y + times y ys ≡ 0 = h y in absurd (omega arith)

holds_none : (o : Option ℕ) → ((x : ℕ) → holding x o ≡ 0) → o ≡ None
holds_none None h = refl
holds_none (Some y) h = let o = one_same y in let z : one y y ≡ 0 = h y in absurd (omega arith)

absent : {A : Type 0} (o : Option A) → present o ≡ 0 → o ≡ None
absent None h = refl
absent (Some a) h = absurd (omega arith)

module _ {T H K : Type 0} (b : Terms T H K) (s : State (Slot T H) (View T K)) (k : IsKept b s) where
  abbrev At : ℕ → View T K → Type 0
  At id v = get_elem? s.views id ≡ some v

  drawn_once : (lane : ℕ) → lane < get_or s.words 0 0 → lane < b.key.lanes → IsDrawnOnce b s lane
  drawn_once lane lt lt' =
      let f = k.first in
      let e = k.drawn lane in
      let c = below_yes lane (min k.stage.draws b.key.lanes) (omega arith) in
      let m = some_member (drawn_times lane) s.views (omega arith) in
      let l = member_le (drawn_times lane) s.views m.0 m.1 m.2 in
      record {
        id = m.0;
        view = m.1;
        at = m.2;
        once = let p = m.3 in omega arith;
        nowhere_else = λ other u apart at. let two = two_members (drawn_times lane) s.views other m.0 u m.1 at m.2 apart in let p = m.3 in omega arith;
      }

  once : (lane id : ℕ) (v : View T K) → At id v → times lane v.drawn ≤ 1
  once lane id v at =
      let l = member_le (drawn_times lane) s.views id v at in
      let e = k.drawn lane in
      let c = below_le lane (min k.stage.draws b.key.lanes) in omega arith

  held_word : (lane id : ℕ) (v : View T K) → At id v → v.holds ≡ Some lane
      → (times lane v.drawn ≡ 1) × (times lane v.put ≡ 0) × (get_or s.words (lane + 1) 0 ≡ 1)
  held_word lane id v at h =
      let o = (k.sound id v at).own lane in
      let z : held_count lane v ≡ one lane lane = ap (holding lane) h in
      let i = one_same lane in
      let c = once lane id v at in
      let lt = put_below b s k id v at lane (omega arith) in
      let m = at_most_one b s k lane in
      let l = member_le (held_count lane) s.views id v at in
      let d = below_no lane k.stage.taken (ahead b s k lane (omega arith)) in
      let w = k.word lane lt in
      (omega arith, omega arith, omega arith)

  put_word : (lane id : ℕ) (v : View T K) → At id v → 1 ≤ times lane v.put
      → (times lane v.drawn ≡ 1) × (times lane v.put ≡ 1) × (k.stage.taken ≤ lane → get_or s.words (lane + 1) 0 ≡ filled_word)
  put_word lane id v at h =
      let o = (k.sound id v at).own lane in
      let c = once lane id v at in
      let lt = put_below b s k id v at lane (omega arith) in
      let m = at_most_one b s k lane in
      let l = member_le (put_times lane) s.views id v at in
      let w = k.word lane lt in
      (omega arith, omega arith, λ beyond. let d = below_no lane k.stage.taken beyond in omega arith)

  -- the baton of a board with a shelf
  abbrev Away : Type 0
  Away = IsBaton b k.stage true (baton_of b s k.holder)

  baton : b.key.shelved ≡ true → Away
  baton e = subst (λ (z : Bool). IsBaton b k.stage z (baton_of b s k.holder)) e k.baton

  lone : Away → get_or s.words (b.key.lanes + 1) 0 ≡ away_word → total turn_count s.views ≡ 1
  lone h e = ⊎_elim (λ x. x.1) (λ (x : IsHome b k.stage (baton_of b s k.holder)). let q = x.word in let r = k.reached in
      let f = k.few in absurd (omega arith)) h

  at_home : Away → get_or s.words (b.key.lanes + 1) 0 ≢ away_word → IsHome b k.stage (baton_of b s k.holder)
  at_home h ne = ⊎_elim (λ x. absurd (ne x.0)) (λ x. x) h

  turn_word : Away → 1 ≤ total turn_count s.views → get_or s.words (b.key.lanes + 1) 0 ≡ away_word
  turn_word h y = ⊎_elim (λ x. x.0) (λ (x : IsHome b k.stage (baton_of b s k.holder)). let q = x.nobody.0 in absurd (omega arith)) h

  has_turn : (id : ℕ) (v : View T K) (t : Turn T) → At id v → v.turn ≡ Some t → 1 ≤ total turn_count s.views
  has_turn id v t at e = let l = member_le turn_count s.views id v at in let z : turn_count v ≡ 1 = ap present e in omega arith

  -- the first pieces fit
  has_first : (n : ℕ) (list : List T) → AreFirst n list k.stage.pieces → HasFirst b.fits n list k.stage.pieces
  has_first n list a = record { many = a.many; were_put = a.each; fit = λ lane p at. fit_of b s k lane p (a.each lane p at) }

  pub is_ruled : IsRuled b s
  is_ruled = record {
    taken = k.stage.taken;
    judged = k.stage.judged;
    pieces = k.stage.pieces;
    holder = k.holder;
    shape = record { lanes = k.few; words = k.wide; slots = k.count };
    drawn_once = record {
      lanes_once = drawn_once;
      only_lanes = λ lane id v at h.
          let f = k.first in
          let l = member_le (drawn_times lane) s.views id v at in
          let e = k.drawn lane in
          let lt = below_true lane (min k.stage.draws b.key.lanes) (omega arith) in
          (omega arith, omega arith);
      ended_late = λ id v at h. let f = k.first in let l = (k.sound id v at).late h in omega arith;
      spent = λ id v at h.
          let so = k.sound id v at in
          let none = (so.spent h).0 in
          let zero : (x : ℕ) → put_times x v + held_count x v ≡ 0 = λ x. let o = so.own x in
          let z : times x v.drawn ≡ 0 = ap (times x) none in omega arith in (
            none,
            empty_list v.put (λ x. let z = zero x in omega arith),
            holds_none v.holds (λ x. let z = zero x in omega arith),
            let p = so.paid in omega arith,
            (so.spent h).1,
          );
      shares = λ id v at. (k.sound id v at).paid;
      of_board = λ id v at. (k.sound id v at).about;
      all_shares = k.shares;
      whole = λ lane id v at ended share lt. drawn_all b s k id v at ended share lane lt;
    };
    put_if_drawn = record {
      put = λ lane id v at h. let p = put_word lane id v at h in (p.0, p.1);
      held = λ lane id v at h. let p = held_word lane id v at h in (p.0, p.1);
    };
    lane_words = record {
      free = λ lane lt unheld unput.
          let h = total_zero (held_count lane) s.views (λ i u at. not_holding lane u.holds (unheld i u at)) in
          let p = total_zero (put_times lane) s.views unput in
          let d = below_no lane k.stage.taken (ahead b s k lane p) in
          let w = k.word lane lt in omega arith;
      held = λ lane id v at h. (held_word lane id v at h).2;
      filled = λ lane id v at h beyond. (put_word lane id v at h).2 beyond;
      gone = λ lane low. (is_taken b s k lane low, some_member (put_times lane) s.views (k.behind lane low));
      only_gone = λ lane lt e. let m = at_most_one b s k lane in let w = k.word lane lt in below_true lane k.stage.taken (omega arith);
      only_lanes = k.reached.1;
    };
    slots_fit = record {
      empty = λ lane lt. (k.slot lane lt).empty;
      full = λ lane lt. (k.slot lane lt).full;
      none = λ lane unput. k.unput lane (total_zero (put_times lane) s.views unput);
    };
    allowances = record {
      room = let f = k.first in let r = k.room in omega arith;
      able = λ id v at. (k.sound id v at).able;
      never_wraps = let f = k.first in let r = k.room in let n = k.few in omega arith;
    };
    one_baton = λ e. record {
      away = λ w.
          let l = lone (baton e) w in
          let m = some_member turn_count s.views (omega arith) in
          let t = is_present m.1.turn m.3 in (
            m.0,
            m.1,
            t.0,
            m.2,
            t.1,
            λ other u apart at. absent u.turn (let two = two_members turn_count s.views other m.0 u m.1 at m.2 apart in let p = m.3 in omega arith),
          );
      has = λ id v t at h.
          let tn = (k.sound id v at).turn t h in
          let r = k.reached in
          let n = tn.next in
          let f = tn.found in
          record {
            away = turn_word (baton e) (has_turn id v t at h);
            next = n;
            found = f;
            from = omega arith;
            put = tn.put;
            shelf = has_first t.next t.laid (subst (λ (z : ℕ). AreFirst z t.laid k.stage.pieces) (sym n) tn.first);
          };
      named = k.holds;
      home = λ ne. let h = at_home (baton e) ne in let w = h.word in let r = k.reached in (omega arith, w, h.judged, h.nobody.1);
      given = λ id v at j h. (k.sound id v at).given j h;
      order = k.reached.0;
    };
    judged_in_order = λ e. record {
      home = λ ne.
          let h = at_home (baton e) ne in (
            h.shelf,
            h.there,
            h.standing,
            has_first (get_or s.words (b.key.lanes + 1) 0) (b.laid h.shelf)
                (subst (λ (z : ℕ). AreFirst z (b.laid h.shelf) k.stage.pieces) (sym h.word) h.first),
          );
    };
    no_shelf = λ e.
        let h : IsPlain b k.stage (baton_of b s k.holder) = subst (λ (z : Bool). IsBaton b k.stage z (baton_of b s k.holder)) e k.baton in
        let t = h.taken in
        let r = k.reached in
        record {
          none = (t, omega arith, h.word, h.nobody.1);
          turns = λ id v at. (
            absent v.turn (let l = member_le turn_count s.views id v at in let z = h.nobody.0 in omega arith),
            λ j y. let g = (k.sound id v at).given j y in omega arith,
          );
          room = (h.pile, h.there, h.empty, h.room);
        };
    journal = record {
      journal = k.journal;
      legal = k.legal;
      told = k.told ∙ (λ i. shown record k.stage { draws = sym k.first i } k.holder s.views);
      logged = k.logs;
    };
  }

-- And the other way.
module _ {T H K : Type 0} (b : Terms T H K) (s : State (Slot T H) (View T K)) (r : IsRuled b s) where
  abbrev Of : ℕ → View T K → Type 0
  Of id v = get_elem? s.views id ≡ some v

  -- the stage that the plain rule tells
  abbrev stage_of : Stage T
  stage_of = record { draws = get_or s.words 0 0; taken = r.taken; judged = r.judged; pieces = r.pieces }

  -- each lane is drawn once
  draws_total : (x : ℕ) → total (drawn_times x) s.views ≡ below x (min (get_or s.words 0 0) b.key.lanes)
  draws_total x = go (dec_le (min (get_or s.words 0 0) b.key.lanes) x)
    where
      go : Dec (min (get_or s.words 0 0) b.key.lanes ≤ x) → total (drawn_times x) s.views ≡ below x (min (get_or s.words 0 0) b.key.lanes)
      go (yes le) =
          let z = total_zero (drawn_times x) s.views (λ i u at. none i u at (dec_le 1 (times x u.drawn))) in
          let c = below_no x (min (get_or s.words 0 0) b.key.lanes) le in omega arith
        where
          none : (i : ℕ) (u : View T K) → Of i u → Dec (1 ≤ times x u.drawn) → times x u.drawn ≡ 0
          none i u at (no n) = omega arith
          none i u at (yes y) = let l = r.drawn_once.only_lanes x i u at y in let l0 = l.0 in let l1 = l.1 in absurd (omega arith)
      go (no n) =
          let o = r.drawn_once.lanes_once x (omega arith) (omega arith) in
          let t = total_alone (drawn_times x) s.views o.id o.view o.at o.nowhere_else in
          let c = below_yes x (min (get_or s.words 0 0) b.key.lanes) (omega arith) in
          let e = o.once in omega arith

  -- what a view has put, and the lane that it holds, it has drawn
  own_of : (x id : ℕ) (v : View T K) → Of id v → put_times x v + held_count x v ≤ drawn_times x v
  own_of x id v at = go (dec_le 1 (times x v.put)) (dec_le 1 (holding x v.holds))
    where
      go : Dec (1 ≤ times x v.put) → Dec (1 ≤ holding x v.holds) → put_times x v + held_count x v ≤ drawn_times x v
      go (yes p) (yes h) = let q = (r.put_if_drawn.held x id v at (is_holding x v.holds h)).1 in absurd (omega arith)
      go (yes p) (no h) = let q = r.put_if_drawn.put x id v at p in let q0 = q.0 in let q1 = q.1 in omega arith
      go (no p) (yes h) =
          let is = is_holding x v.holds h in
          let q = (r.put_if_drawn.held x id v at is).0 in
          let z : holding x v.holds ≡ one x x = ap (holding x) is in
          let i = one_same x in omega arith
      go (no p) (no h) = omega arith

  one_has : (x : ℕ) → total (held_count x) s.views + total (put_times x) s.views ≤ 1
  one_has = at_most_one_of b.key.lanes (get_or s.words 0 0) s.views draws_total own_of

  -- who has put a lane, or holds it, where the total says so
  none_put : (x : ℕ) → total (put_times x) s.views ≡ 0 → IsUnput b s x
  none_put x e id v at = let l = member_le (put_times x) s.views id v at in omega arith

  none_held : (x : ℕ) → total (held_count x) s.views ≡ 0 → IsUnheld b s x
  none_held x e id v at h =
      let l = member_le (held_count x) s.views id v at in
      let z : holding x v.holds ≡ one x x = ap (holding x) h in
      let i = one_same x in omega arith

  words : (x : ℕ) → x < b.key.lanes → get_or s.words (x + 1) 0 ≡ total (held_count x) s.views + 2 * total (put_times x) s.views + below x r.taken
  words x lt = go (dec_le r.taken x) (dec_le 1 (total (put_times x) s.views)) (dec_le 1 (total (held_count x) s.views))
    where
      go : Dec (r.taken ≤ x) → Dec (1 ≤ total (put_times x) s.views) → Dec (1 ≤ total (held_count x) s.views)
          → get_or s.words (x + 1) 0 ≡ total (held_count x) s.views + 2 * total (put_times x) s.views + below x r.taken
      go (no low) p h =
          let g = r.lane_words.gone x (omega arith) in
          let w = g.0 in
          let l = member_le (put_times x) s.views g.1.0 g.1.1 g.1.2 in
          let y = g.1.3 in
          let m = one_has x in
          let c = below_yes x r.taken (omega arith) in omega arith
      go (yes beyond) (yes p) h =
          let q = some_member (put_times x) s.views p in
          let w = r.lane_words.filled x q.0 q.1 q.2 q.3 beyond in
          let m = one_has x in
          let c = below_no x r.taken beyond in omega arith
      go (yes beyond) (no p) (yes h) =
          let q = some_member (held_count x) s.views h in
          let w = r.lane_words.held x q.0 q.1 q.2 (is_holding x q.1.holds q.3) in
          let m = one_has x in
          let c = below_no x r.taken beyond in omega arith
      go (yes beyond) (no p) (no h) =
          let w = r.lane_words.free x lt (none_held x (omega arith)) (none_put x (omega arith)) in
          let c = below_no x r.taken beyond in omega arith

  -- the first pieces
  first_of : (n : ℕ) (list : List T) → HasFirst b.fits n list r.pieces → AreFirst n list r.pieces
  first_of n list h = record { many = h.many; each = h.were_put }

  -- with a shelf or without one
  shelf_or_not : (z : Bool) → (z ≡ true) ⊎ (z ≡ false)
  shelf_or_not true = inl refl
  shelf_or_not false = inr refl

  turn_of : (id : ℕ) (v : View T K) → Of id v → (t : Turn T) → v.turn ≡ Some t → IsTurn stage_of v t
  turn_of id v at t e = ⊎_elim
      (λ shelf.
      let h = (r.one_baton shelf).has id v t at e in
      record { next = h.next; found = h.found; put = h.put; first = subst (λ (z : ℕ). AreFirst z t.laid r.pieces) h.next (first_of t.next t.laid h.shelf) })
      (λ plain. absurd (none_some t (sym ((r.no_shelf plain).turns id v at).0 ∙ e)))
      (shelf_or_not b.key.shelved)

  named_of : (id : ℕ) (v : View T K) (t : Turn T) → Of id v → v.turn ≡ Some t → r.holder ≡ Some id
  named_of id v t at e = ⊎_elim
      (λ shelf. (r.one_baton shelf).named id v t at e)
      (λ plain. absurd (none_some t (sym ((r.no_shelf plain).turns id v at).0 ∙ e)))
      (shelf_or_not b.key.shelved)

  given_of : (id : ℕ) (v : View T K) → Of id v → (j : ℕ) → 1 ≤ times j v.given → j ≤ r.judged
  given_of id v at j h = ⊎_elim
      (λ shelf. (r.one_baton shelf).given id v at j h)
      (λ plain. let q = (r.no_shelf plain).none.1 in let l = ((r.no_shelf plain).turns id v at).1 j h in omega arith)
      (shelf_or_not b.key.shelved)

  order_of : r.judged ≤ r.taken
  order_of = ⊎_elim (λ shelf. (r.one_baton shelf).order) (λ plain. let q = (r.no_shelf plain).none in let q0 = q.0 in
      let q1 = q.1 in omega arith) (shelf_or_not b.key.shelved)

  -- the baton
  with_shelf : b.key.shelved ≡ true → IsBaton b stage_of true (baton_of b s r.holder)
  with_shelf e = go (ℕ_discrete (get_or s.words (b.key.lanes + 1) 0) away_word)
    where
      go : Dec (get_or s.words (b.key.lanes + 1) 0 ≡ away_word) → IsBaton b stage_of true (baton_of b s r.holder)
      go (yes w) =
          let a = (r.one_baton e).away w in
          let t = total_alone turn_count s.views a.0 a.1 a.3 (λ j u ne at. ap present (a.5 j u ne at)) in
          let z : turn_count a.1 ≡ 1 = ap present a.4 in
          inl (w, omega arith)
      go (no ne) =
          let h = (r.one_baton e).home ne in
          let j = (r.judged_in_order e).home ne in
          inr record {
            word = h.1;
            judged = h.2;
            nobody = (total_zero turn_count s.views (λ i u at. none i u at (dec_le 1 (turn_count u))), h.3);
            shelf = j.0;
            there = j.1;
            standing = j.2;
            first = subst (λ (z : ℕ). AreFirst z (b.laid j.0) r.pieces) h.1 (first_of (get_or s.words (b.key.lanes + 1) 0) (b.laid j.0) j.3);
          }
        where
          none : (i : ℕ) (u : View T K) → Of i u → Dec (1 ≤ turn_count u) → turn_count u ≡ 0
          none i u at (no n) = omega arith
          none i u at (yes y) = let t = is_present u.turn y in absurd (ne ((r.one_baton e).has i u t.0 at t.1).away)

  without_shelf : b.key.shelved ≡ false → IsBaton b stage_of false (baton_of b s r.holder)
  without_shelf e =
      let h = r.no_shelf e in
      record {
        word = h.none.2;
        taken = h.none.0;
        nobody = (total_zero turn_count s.views (λ i u at. ap present (h.turns i u at).0), h.none.3);
        pile = h.room.0;
        there = h.room.1;
        empty = h.room.2;
        room = h.room.3;
      }

  baton_kept : IsBaton b stage_of b.key.shelved (baton_of b s r.holder)
  baton_kept = ⊎_elim
      (λ (e : b.key.shelved ≡ true). subst (λ (z : Bool). IsBaton b stage_of z (baton_of b s r.holder)) (sym e) (with_shelf e))
      (λ (e : b.key.shelved ≡ false). subst (λ (z : Bool). IsBaton b stage_of z (baton_of b s r.holder)) (sym e) (without_shelf e))
      (shelf_or_not b.key.shelved)

  pub is_kept : IsKept b s
  is_kept = record {
    stage = stage_of;
    holder = r.holder;
    journal = r.journal.journal;
    count = r.shape.slots;
    few = r.shape.lanes;
    wide = r.shape.words;
    first = refl;
    sound = λ id v at. record {
      about = r.drawn_once.of_board id v at;
      late = r.drawn_once.ended_late id v at;
      spent = λ e. let h = r.drawn_once.spent id v at e in (h.0, h.4);
      paid = r.drawn_once.shares id v at;
      able = r.allowances.able id v at;
      own = λ x. own_of x id v at;
      turn = turn_of id v at;
      given = given_of id v at;
    };
    drawn = draws_total;
    shares = r.drawn_once.all_shares;
    room = r.allowances.room;
    reached = (order_of, r.lane_words.only_lanes);
    behind = λ x lt.
        let g = r.lane_words.gone x lt in
        let l = member_le (put_times x) s.views g.1.0 g.1.1 g.1.2 in
        let y = g.1.3 in omega arith;
    unput = λ x e. r.slots_fit.none x (none_put x e);
    word = words;
    slot = λ x lt. record { empty = r.slots_fit.empty x lt; full = r.slots_fit.full x lt };
    baton = baton_kept;
    holds = named_of;
    legal = r.journal.legal;
    told = r.journal.told;
    logs = r.journal.logged;
  }
