-- The parts of the rule, and the facts that follow from it.
use Rattle.std.proofs.Common.{◌≡◌, ◌≢◌, ℕ, ◌+◌, ◌^◌, ◌<◌, ◌≤◌, ◌⊎◌, min, Bool, true, false, Option, List, [], ◌∷◌, ◌++◌, length, get_or, set, Some, None, sym, ap, ◌∙◌, subst, inl, inr, ⊎_elim, arith}
use mathlib.Core.Option.{some, some-injective}
use mathlib.Core.Option as maybe
use native.Mathlib.Decide.{dec_le}
use lib.ListN.{get_elem?}
use Rattle.atomic_table.specs.Table.{State}
use Rattle.atomic_table.proofs.Lists.{at_set, at_snoc}
use Rattle.al_board.specs.declared.view.Setting.{Setting}
use Rattle.al_board.specs.declared.view.View.{View}
use Rattle.al_board.specs.declared.view.Slot.{Slot}
use Rattle.al_count.specs.Counts.{below, times, holding, total, present}
use Rattle.al_count.proofs.Totals.{below_yes, below_le, below_mono, below_true, member_le, total_le, total_gap, total_sum, total_only, two_members, some_member, some_number, distinct_few, distinct_full, is_present}
use Rattle.al_board.specs.Counted.{drawn_times, put_times, held_count, share_of, turn_count}
use Rattle.al_board.specs.Views.{IsBounded, IsFull, HasPutAll, unlogged}
use Rattle.al_board.specs.Rule.{Terms, Stage, IsSound, AllSound, IsSlot, IsHome, IsBaton, IsKept, Baton, baton_of}
use Rattle.al_board.proofs.Entries.{IsTold}
use Rattle.al_board.proofs.Pieces.{first_grown}

module _ {T K : Type 0} (key : Setting K) where
  -- with more draws
  pub later : (g : Stage T) (d : ℕ) → g.draws ≤ d → (v : View T K) → IsSound key g v → IsSound key record g { draws = d } v
  later g d le v h = record {
    about = h.about;
    late = λ e. let l = h.late e in omega arith;
    spent = h.spent;
    paid = h.paid;
    able = h.able;
    own = h.own;
    turn = λ t e. let q = h.turn t e in record { next = q.next; found = q.found; put = q.put; first = q.first };
    given = h.given;
  }

  -- with a piece more, behind those that were taken
  pub grown : (g : Stage T) (lane : ℕ) (p : T) → g.taken ≤ lane → (v : View T K) → IsSound key g v → IsSound key record g { pieces = (lane, p) ∷ g.pieces } v
  grown g lane p le v h = record {
    about = h.about;
    late = h.late;
    spent = h.spent;
    paid = h.paid;
    able = h.able;
    own = h.own;
    turn = λ t e.
        let q = h.turn t e in
        record { next = q.next; found = q.found; put = q.put; first = first_grown g.taken t.laid g.pieces lane p le q.first };
    given = h.given;
  }

  -- with more lanes taken or judged, where the view has no turn
  pub turnless : (g : Stage T) (t j : ℕ) → g.judged ≤ j → (v : View T K) → turn_count v ≡ 0 → IsSound key g v
      → IsSound key record g { taken = t; judged = j } v
  turnless g t j le v none h = record {
    about = h.about;
    late = h.late;
    spent = h.spent;
    paid = h.paid;
    able = h.able;
    own = h.own;
    turn = λ x e. let z : present v.turn ≡ 1 = ap present e in absurd (omega arith);
    given = λ k q. let i = h.given k q in omega arith;
  }

  -- one view is changed, and the others stay sound
  pub sound_set : (g g' : Stage T) (vs : List (View T K)) (id : ℕ) (w : View T K)
      → ((i : ℕ) (u : View T K) → i ≢ id → get_elem? vs i ≡ some u → IsSound key g u → IsSound key g' u)
      → AllSound key g vs → IsSound key g' w → AllSound key g' (set vs id w)
  sound_set g g' vs id w others all mine i u e =
      ⊎_elim
      (λ (x : (i ≡ id) × (w ≡ u)). subst (IsSound key g') x.1 mine)
      (λ (x : (i ≢ id) × (get_elem? vs i ≡ some u)). others i u x.0 x.1 (all i u x.1))
      (at_set vs id i w u e)

  -- one view is changed, and nothing else
  pub sound_one : (g : Stage T) (vs : List (View T K)) (id : ℕ) (w : View T K) → AllSound key g vs → IsSound key g w → AllSound key g (set vs id w)
  sound_one g vs id w = sound_set g g vs id w (λ i u ne at so. so)

  -- a view is added
  pub sound_snoc : (g : Stage T) (vs : List (View T K)) (w : View T K) → AllSound key g vs → IsSound key g w → AllSound key g (vs ++ w ∷ [])
  sound_snoc g vs w all mine i u e = ⊎_elim (λ was. all i u was) (λ (is : w ≡ u). subst (IsSound key g) is mine) (at_snoc vs w u i e)

module _ {T K : Type 0} where
  -- the views that have a turn are the holder of the baton
  abbrev pub AllNamed : Option ℕ → List (View T K) → Type 0
  AllNamed o vs = (id : ℕ) (v : View T K) (t : _) → get_elem? vs id ≡ some v → v.turn ≡ Some t → o ≡ Some id

  -- one view is changed, and the others have no turn, or the same holder
  pub named_set : (o o' : Option ℕ) (vs : List (View T K)) (id : ℕ) (w : View T K)
      → ((i : ℕ) (u : View T K) → i ≢ id → get_elem? vs i ≡ some u → (turn_count u ≡ 0) ⊎ (o' ≡ o))
      → AllNamed o vs → ((t : _) → w.turn ≡ Some t → o' ≡ Some id) → AllNamed o' (set vs id w)
  named_set o o' vs id w others all mine i u t e has =
      ⊎_elim
      (λ (x : (i ≡ id) × (w ≡ u)). mine t (ap (λ (z : View T K). z.turn) x.1 ∙ has) ∙ ap (λ (z : ℕ). Some z) (sym x.0))
      (λ (x : (i ≢ id) × (get_elem? vs i ≡ some u)). ⊎_elim
      (λ none. let z : present u.turn ≡ 1 = ap present has in absurd (omega arith))
      (λ (same : o' ≡ o). same ∙ all i u t x.1 has)
      (others i u x.0 x.1))
      (at_set vs id i w u e)

  -- a view is changed, but not its turn
  pub named_same : (o : Option ℕ) (vs : List (View T K)) (id : ℕ) (v w : View T K) → get_elem? vs id ≡ some v → w.turn ≡ v.turn → AllNamed o vs
      → AllNamed o (set vs id w)
  named_same o vs id v w at same all = named_set o o vs id w (λ i u ne at'. inr (λ i. o)) all (λ t e. all id v t at (sym same ∙ e))

  pub named_snoc : (o : Option ℕ) (vs : List (View T K)) (w : View T K) → w.turn ≡ None → AllNamed o vs → AllNamed o (vs ++ w ∷ [])
  named_snoc o vs w none all i u t e has = ⊎_elim
      (λ was. all i u t was has)
      (λ (is : w ≡ u). let z : present w.turn ≡ 1 = ap present (ap (λ (z : View T K). z.turn) is ∙ has) in
      let y : present w.turn ≡ 0 = ap present none in absurd (omega arith))
      (at_snoc vs w u i e)

module _ {T H K : Type 0} (b : Terms T H K) where
  -- the baton is where it was, however that is said
  pub same_baton : (g : Stage T) (x y : Baton T H) → y ≡ x → IsBaton b g b.key.shelved x → IsBaton b g b.key.shelved y
  same_baton g x y e = subst (IsBaton b g b.key.shelved) (sym e)

  -- and so it is after a step that leaves its word, the turns, its holder and its slot
  pub still_baton : (g : Stage T) (s s' : State (Slot T H) (View T K)) (o : Option ℕ)
      → get_or s'.words (b.key.lanes + 1) 0 ≡ get_or s.words (b.key.lanes + 1) 0
      → total turn_count s'.views ≡ total turn_count s.views → get_elem? s'.homes b.key.lanes ≡ get_elem? s.homes b.key.lanes
      → IsBaton b g b.key.shelved (baton_of b s o) → IsBaton b g b.key.shelved (baton_of b s' o)
  still_baton g s s' o word turns home = same_baton g (baton_of b s o) (baton_of b s' o)
      (λ i. record { word = word i; holders = turns i; holder = o; home = home i })

  -- with more draws
  pub later_baton : (g : Stage T) (d : ℕ) (x : Baton T H) → IsBaton b g b.key.shelved x → IsBaton b record g { draws = d } b.key.shelved x
  later_baton g d x = go b.key.shelved
    where
      go : (z : Bool) → IsBaton b g z x → IsBaton b record g { draws = d } z x
      go true h = ⊎_elim (λ a. inl a)
          (λ (a : IsHome b g x).
          inr record { word = a.word; judged = a.judged; nobody = a.nobody; shelf = a.shelf; there = a.there; standing = a.standing; first = a.first }) h
      go false h = record { word = h.word; taken = h.taken; nobody = h.nobody; pile = h.pile; there = h.there; empty = h.empty; room = h.room }

  -- with a piece more, behind those that were taken
  pub grown_baton : (g : Stage T) (x : Baton T H) (lane : ℕ) (p : T) → g.taken ≤ lane → IsBaton b g b.key.shelved x
      → IsBaton b record g { pieces = (lane, p) ∷ g.pieces } b.key.shelved x
  grown_baton g x lane p le = go b.key.shelved
    where
      go : (z : Bool) → IsBaton b g z x → IsBaton b record g { pieces = (lane, p) ∷ g.pieces } z x
      go true h = ⊎_elim
          (λ a. inl a)
          (λ (a : IsHome b g x). inr record {
            word = a.word;
            judged = a.judged;
            nobody = a.nobody;
            shelf = a.shelf;
            there = a.there;
            standing = a.standing;
            first = first_grown g.taken (b.laid a.shelf) g.pieces lane p le a.first;
          })
          h
      go false h = record { word = h.word; taken = h.taken; nobody = h.nobody; pile = h.pile; there = h.there; empty = h.empty; room = h.room }

  pub same_slot : (ps : List (ℕ × T)) (x n n' : ℕ) (home home' : maybe.Option (maybe.Option (Slot T H))) → n' ≡ n → home' ≡ home
      → IsSlot b.fits ps x n home → IsSlot b.fits ps x n' home'
  same_slot ps x n n' home home' e e' h = subst (λ (z : ℕ × maybe.Option (maybe.Option (Slot T H))). IsSlot b.fits ps x z.0 z.1) (λ i. (sym e i, sym e' i)) h

-- at most one view holds or has put a lane, where all were drawn once
module _ {T K : Type 0} (n d : ℕ) (vs : List (View T K)) (drawn : (x : ℕ) → total (drawn_times x) vs ≡ below x (min d n))
    (own : (x i : ℕ) (v : View T K) → get_elem? vs i ≡ some v → put_times x v + held_count x v ≤ drawn_times x v) where
  pub at_most_one_of : (x : ℕ) → total (held_count x) vs + total (put_times x) vs ≤ 1
  at_most_one_of x =
      let e = drawn x in
      let c = below_le x (min d n) in
      let l = total_le (λ (u : View T K). put_times x u + held_count x u) (drawn_times x) vs (own x) in
      let t = total_sum (put_times x) (held_count x) vs in
      omega arith

module _ {T H K : Type 0} (b : Terms T H K) (s : State (Slot T H) (View T K)) (k : IsKept b s) where
  pub told_of : IsTold b.fits b.key.lanes k.stage k.holder s.views k.journal
  told_of = (k.legal, k.told)

  -- what the rule says of one view
  pub bounded : (id : ℕ) (v : View T K) → get_elem? s.views id ≡ some v → 0 < v.share → IsBounded (unlogged v)
  bounded id v at live =
      let n : ℕ = v.lanes in
      let d : ℕ = k.stage.draws in
      let so = k.sound id v at in
      let same : n ≡ b.key.lanes = (so.about live).1 in
      let ds : (x : ℕ) → times x v.drawn ≤ below x n = λ x.
      let m = member_le (drawn_times x) s.views id v at in
      let e = k.drawn x in
      let c = below_mono x (min d b.key.lanes) n (omega arith) in omega arith in
      let ps : (x : ℕ) → times x v.put ≤ times x v.drawn = λ x. let o = so.own x in omega arith in
      record {
        drawn = ds;
        put = ps;
        allowance = let m = member_le share_of s.views id v at in let t = k.shares in let p = so.paid in omega arith;
        draws = distinct_few n v.drawn ds;
        puts = distinct_few n v.put (λ x. let p = ps x in let q = ds x in omega arith);
      }

  -- at most one view holds or has put a lane
  pub at_most_one : (x : ℕ) → total (held_count x) s.views + total (put_times x) s.views ≤ 1
  at_most_one = at_most_one_of b.key.lanes k.stage.draws s.views k.drawn (λ x i u at. (k.sound i u at).own x)

  -- a lane that is put is a lane
  pub put_below : (id : ℕ) (v : View T K) → get_elem? s.views id ≡ some v → (x : ℕ) → 1 ≤ times x v.drawn → x < b.key.lanes
  put_below id v at x h =
      let m = member_le (drawn_times x) s.views id v at in
      let e = k.drawn x in
      let c = below_mono x (min k.stage.draws b.key.lanes) b.key.lanes (omega arith) in
      below_true x b.key.lanes (omega arith)

  -- none has a lane that a view has drawn and neither holds nor has put
  pub none_has : (id : ℕ) (v : View T K) → get_elem? s.views id ≡ some v → (x : ℕ) → 1 ≤ times x v.drawn → times x v.put ≡ 0 → v.holds ≡ None
      → (total (held_count x) s.views ≡ 0) × (total (put_times x) s.views ≡ 0)
  none_has id v at x has not_put free =
      let e = k.drawn x in
      let c = below_le x (min k.stage.draws b.key.lanes) in
      let l = total_gap (λ (u : View T K). put_times x u + held_count x u) (drawn_times x) s.views id v at (λ i u at. (k.sound i u at).own x) in
      let t = total_sum (put_times x) (held_count x) s.views in
      let z : held_count x v ≡ 0 = ap (holding x) free in
      (omega arith, omega arith)

  -- a view that has ended and has the whole share has drawn every lane
  pub drawn_all : (id : ℕ) (v : View T K) → get_elem? s.views id ≡ some v → v.ended ≡ true → v.share ≡ 2 ^ 63 → (x : ℕ) → x < b.key.lanes
      → times x v.drawn ≡ 1
  drawn_all id v at ended whole x lt =
      let late = (k.sound id v at).late ended in
      let shares = k.shares in
      let only = total_only (drawn_times x) share_of s.views id v at (omega arith) (λ i u at' z. ap (times x) ((k.sound i u at').spent z).0) in
      let d = k.drawn x in
      let m : min k.stage.draws b.key.lanes ≡ b.key.lanes = omega arith in
      let c : below x (min k.stage.draws b.key.lanes) ≡ below x b.key.lanes = ap (below x) m in
      let y = below_yes x b.key.lanes lt in
      omega arith

  -- a full view has put every lane
  pub full_puts : (id : ℕ) (v : View T K) → get_elem? s.views id ≡ some v → 0 < v.share → IsFull v → (x : ℕ) → x < b.key.lanes → 1 ≤ times x v.put
  full_puts id v at live full x lt = ⊎_elim many ended full
    where
      many : length v.put ≡ v.lanes → 1 ≤ times x v.put
      many e =
          let c = bounded id v at live in
          let same = ((k.sound id v at).about live).1 in
          distinct_full v.lanes v.put (λ y. let p = c.put y in let d = c.drawn y in omega arith) e x (omega arith)

      ended : (v.ended ≡ true) × (v.share ≡ 2 ^ 63) × HasPutAll v → 1 ≤ times x v.put
      ended h = let d = drawn_all id v at h.0 h.1 x lt in let p = h.2 x in omega arith

  -- beside a full view that has no turn, no view has one
  pub full_alone : (id : ℕ) (v : View T K) → get_elem? s.views id ≡ some v → 0 < v.share → v.turn ≡ None → IsFull v → total turn_count s.views ≡ 0
  full_alone id v at live idle full = go (dec_le 1 (total turn_count s.views))
    where
      go : Dec (1 ≤ total turn_count s.views) → total turn_count s.views ≡ 0
      go (no n) = omega arith
      go (yes y) =
          let m = some_member turn_count s.views y in
          let u : View T K = m.1 in
          let other : m.0 ≢ id = λ e.
          let same : some u ≡ some v = sym m.2 ∙ ap (get_elem? s.views) e ∙ at in
          let z : present u.turn ≡ present v.turn = ap turn_count (some-injective u v same) in
          let z' : present v.turn ≡ 0 = ap present idle in
          let p = m.3 in omega arith in
          let has = is_present u.turn m.3 in
          let put = ((k.sound m.0 u m.2).turn has.0 has.1).put in
          let x = some_number u.put put in
          let theirs = x.1 in
          let own = (k.sound m.0 u m.2).own x.0 in
          let lt = put_below m.0 u m.2 x.0 (omega arith) in
          let mine = full_puts id v at live full x.0 lt in
          let two = two_members (put_times x.0) s.views m.0 id u v m.2 at other in
          let one = at_most_one x.0 in
          absurd (omega arith)

  -- a lane that no view has put was not taken from the board
  pub ahead : (x : ℕ) → total (put_times x) s.views ≡ 0 → k.stage.taken ≤ x
  ahead x none = go (dec_le k.stage.taken x)
    where
      go : Dec (k.stage.taken ≤ x) → k.stage.taken ≤ x
      go (yes le) = le
      go (no n) = let c = k.behind x (omega arith) in absurd (omega arith)
