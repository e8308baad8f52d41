-- The verdicts of any legal history are those of its pieces in the order of their lanes.
use Rattle.std.proofs.Common.{◌≡◌, ◌≢◌, ℕ, zero, suc, ◌+◌, ◌<◌, ◌≤◌, min, nat_lt, cond, Bool, true, false, List, [], ◌∷◌, ◌++◌, map, length, get_or, set, Option, Some, None, refl, sym, ap, ◌∙◌, subst, arith, length-append}
use Rattle.std.proofs.lemmas.List.{append-nil, append_assoc}
use mathlib.Core.Option.{some, some-injective, some-ne-none}
use mathlib.Core.List.{map-append}
use native.Mathlib.Decide.{dec_le, ℕ_discrete}
use lib.ListN.{get_elem?}
use lib.Seq.{map-set}
use Rattle.atomic_table.proofs.Lists.{at_set, at_snoc, set_else}
use Rattle.al_count.specs.Counts.{one, below, times, total}
use Rattle.al_count.proofs.Totals.{one_other, one_same, below_next, below_le, below_no, times_append, times_snoc, total_set, total_snoc, total_same, total_gap, place_has}
use Rattle.al_board.specs.declared.view.Entry.{Entry}
use Rattle.al_board.specs.Core.{Event, draws, puts, splits, joins, judges, Core, of, piece_of, listed, first_pieces, played, IsLegal, IsHistory}
use Rattle.al_board.specs.declared.view.View.{View}
use Rattle.al_board.specs.Journal.{events}
use Rattle.al_board.specs.Rounds.{IsRound}
use Rattle.al_board.specs.Verdicts.{said, in_order, verdicts, AgreeOn}
use Rattle.al_board.proofs.Pieces.{lt_yes, lt_no, piece_here, piece_else}

-- the lists of a pass: what it drew, and what it put
abbrev Pair : Type 0
Pair = List ℕ × List ℕ

abbrev own : Pair → List ℕ
own q = q.0

abbrev put : Pair → List ℕ
put q = q.1

abbrev owns : ℕ → Pair → ℕ
owns x q = times x q.0

abbrev puts_of : ℕ → Pair → ℕ
puts_of x q = times x q.1

none_some : {A : Type 0} (a : A) → None ≡ Some a → ⊥
none_some a h = cc

at_map_of : (f : Pair → List ℕ) (qs : List Pair) (i : ℕ) (q : Pair) → get_elem? qs i ≡ some q → get_or (map f qs) i [] ≡ f q
at_map_of f [] i q e = absurd (some-ne-none q (sym e))
at_map_of f (x ∷ xs) zero q e = ap f (some-injective x q e)
at_map_of f (x ∷ xs) (suc i) q e = at_map_of f xs i q e

length_of : (f : Pair → List ℕ) (qs : List Pair) → length (map f qs) ≡ length qs
length_of f [] = refl
length_of f (q ∷ qs) = ap suc_of (length_of f qs)
  where
    suc_of : ℕ → ℕ
    suc_of n = suc n

-- what holds of the state after a legal history
record IsSound {T : Type 0} (lanes : ℕ) (c : Core T) : Type 0 where
  pub pairs : List (List ℕ × List ℕ)
  pub owned : map own pairs ≡ c.own
  pub were_put : map put pairs ≡ c.put
  pub once : (x : ℕ) → total (owns x) pairs ≡ below x (min c.drawn lanes)
  pub from : (i : ℕ) (q : List ℕ × List ℕ) → get_elem? pairs i ≡ some q → (x : ℕ) → times x q.1 ≤ times x q.0
  pub pieces : (x : ℕ) (p : T) → piece_of x c.pieces ≡ Some p → 1 ≤ total (puts_of x) pairs
  pub are_judged : (x : ℕ) → x < c.judged → (p : T) × (piece_of x c.pieces ≡ Some p)

module _ {T : Type 0} (fits : ℕ → T → Type 0) (lanes : ℕ) where
  -- the pass of this number is there
  pass_of : (c : Core T) (k : IsSound lanes c) (p : ℕ) → p < length c.own → (q : Pair) × (get_elem? k.pairs p ≡ some q)
  pass_of c k p lt = place_has k.pairs p (let l = length_of own k.pairs in let e : length (map own k.pairs) ≡ length c.own = ap length k.owned in omega arith)

  -- where a pass changes, the others keep what they have
  from_set : (qs : List Pair) (i : ℕ) (w : Pair) → ((j : ℕ) (q : Pair) → get_elem? qs j ≡ some q → (x : ℕ) → times x q.1 ≤ times x q.0)
      → ((x : ℕ) → times x w.1 ≤ times x w.0) → (j : ℕ) (q : Pair) → get_elem? (set qs i w) j ≡ some q → (x : ℕ) → times x q.1 ≤ times x q.0
  from_set qs i w all mine j q e = Rattle.std.proofs.Common.⊎_elim
      (λ (h : (j ≡ i) × (w ≡ q)). subst (λ (z : Pair). (x : ℕ) → times x z.1 ≤ times x z.0) h.1 mine)
      (λ (h : (j ≢ i) × (get_elem? qs j ≡ some q)). all j q h.1)
      (at_set qs i j w q e)

  sound_of : (h : List (Event T)) → IsHistory fits lanes h → IsSound lanes (played lanes h)
  sound_of [] l = record {
    pairs = ([], []) ∷ [];
    owned = refl;
    were_put = refl;
    once = λ x. let z : min 0 lanes ≡ 0 = omega arith in let b : below x (min 0 lanes) ≡ below x 0 = ap (below x) z in
        let b' = below_no x 0 (omega arith) in omega arith;
    from = λ i q e x. from_one i q e x;
    pieces = λ x p e. absurd (none_some p e);
    are_judged = λ x lt. absurd (omega arith);
  }
    where
      from_one : (i : ℕ) (q : Pair) → get_elem? (([], []) ∷ []) i ≡ some q → (x : ℕ) → times x q.1 ≤ times x q.0
      from_one zero q e x = subst (λ (z : Pair). times x z.1 ≤ times x z.0) (some-injective ([], []) q e) (omega arith)
      from_one (suc i) q e x = absurd (some-ne-none q (sym e))
  sound_of (draws p ∷ h) l =
      let c : Core T = played lanes h in
      let k = sound_of h l.1 in
      let q = pass_of c k p l.0 in
      go c k q.0 q.1 (dec_le lanes c.drawn)
    where
      go : (c : Core T) (k : IsSound lanes c) (q : Pair) → get_elem? k.pairs p ≡ some q → Dec (lanes ≤ c.drawn)
          → IsSound lanes (Rattle.al_board.specs.Core.after lanes (draws p) c)
      go c k q at (yes far) = record {
        pairs = k.pairs;
        owned = k.owned ∙ sym (ap (λ (b : Bool). cond b (set c.own p (of c.own p ++ c.drawn ∷ [])) c.own) (lt_no c.drawn lanes far));
        were_put = k.were_put;
        once = λ x. let o = k.once x in let m : min c.drawn lanes ≡ min (c.drawn + 1) lanes = omega arith in
            let b : below x (min c.drawn lanes) ≡ below x (min (c.drawn + 1) lanes) = ap (below x) m in omega arith;
        from = k.from;
        pieces = k.pieces;
        are_judged = k.are_judged;
      }
      go c k q at (no near) =
          let w : Pair = (q.0 ++ c.drawn ∷ [], q.1) in
          let here : get_or c.own p [] ≡ q.0 = ap (λ (z : List (List ℕ)). get_or z p []) (sym k.owned) ∙ at_map_of own k.pairs p q at in
          record {
            pairs = set k.pairs p w;
            owned = map-set own k.pairs p w ∙ ap (λ (z : List (List ℕ)). set z p (q.0 ++ c.drawn ∷ [])) k.owned
                ∙ ap (λ (z : List ℕ). set c.own p (z ++ c.drawn ∷ [])) (sym here)
                ∙ sym (ap (λ (b : Bool). cond b (set c.own p (of c.own p ++ c.drawn ∷ [])) c.own) (lt_yes c.drawn lanes (omega arith)));
            were_put = map-set put k.pairs p w
                ∙ Rattle.atomic_table.proofs.Lists.set_again (map put k.pairs) p q.1 (Rattle.atomic_table.proofs.Lists.at_map put k.pairs p q at)
                ∙ k.were_put;
            once = λ x.
                let t = total_set (owns x) k.pairs p q w at in
                let o = times_snoc x c.drawn q.0 in
                let e = k.once x in
                let m : min c.drawn lanes ≡ c.drawn = omega arith in
                let m' : min (c.drawn + 1) lanes ≡ c.drawn + 1 = omega arith in
                let b : below x (min c.drawn lanes) ≡ below x c.drawn = ap (below x) m in
                let b' : below x (min (c.drawn + 1) lanes) ≡ below x (c.drawn + 1) = ap (below x) m' in
                let nx = below_next x c.drawn in omega arith;
            from = from_set k.pairs p w k.from (λ x. let f = k.from p q at x in let o = times_snoc x c.drawn q.0 in omega arith);
            pieces = λ x y e. let f = k.pieces x y e in let t = total_same (puts_of x) k.pairs p q w at refl in omega arith;
            are_judged = k.are_judged;
          }
  sound_of (puts p lane piece ∷ h) l =
      let c : Core T = played lanes h in
      let k = sound_of h l.1 in
      let q = pass_of c k p l.0.is_pass in
      go c k q.0 q.1 l.0.drawn l.0.not_put
    where
      go : (c : Core T) (k : IsSound lanes c) (q : Pair) → get_elem? k.pairs p ≡ some q → 1 ≤ times lane (of c.own p) → times lane (of c.put p) ≡ 0
          → IsSound lanes (Rattle.al_board.specs.Core.after lanes (puts p lane piece) c)
      go c k q at has not_put =
          let w : Pair = (q.0, q.1 ++ lane ∷ []) in
          let here : get_or c.own p [] ≡ q.0 = ap (λ (z : List (List ℕ)). get_or z p []) (sym k.owned) ∙ at_map_of own k.pairs p q at in
          let there : get_or c.put p [] ≡ q.1 = ap (λ (z : List (List ℕ)). get_or z p []) (sym k.were_put) ∙ at_map_of put k.pairs p q at in
          let has' : times lane (of c.own p) ≡ times lane q.0 = ap (times lane) here in
          let none' : times lane (of c.put p) ≡ times lane q.1 = ap (times lane) there in
          record {
            pairs = set k.pairs p w;
            owned = map-set own k.pairs p w
                ∙ Rattle.atomic_table.proofs.Lists.set_again (map own k.pairs) p q.0 (Rattle.atomic_table.proofs.Lists.at_map own k.pairs p q at) ∙ k.owned;
            were_put = map-set put k.pairs p w ∙ ap (λ (z : List (List ℕ)). set z p (q.1 ++ lane ∷ [])) k.were_put
                ∙ ap (λ (z : List ℕ). set c.put p (z ++ lane ∷ [])) (sym there);
            once = λ x. total_same (owns x) k.pairs p q w at refl ∙ k.once x;
            from = from_set k.pairs p w k.from (λ x. mine x (k.from p q at x) (omega arith) (omega arith) (ℕ_discrete x lane));
            pieces = λ x y e. some_put x y e (ℕ_discrete x lane);
            are_judged = λ x lt. let j = k.are_judged x lt in again x j.0 j.1 (ℕ_discrete x lane);
          }
        where
          mine : (x : ℕ) → times x q.1 ≤ times x q.0 → 1 ≤ times lane q.0 → times lane q.1 ≡ 0 → Dec (x ≡ lane) → times x (q.1 ++ lane ∷ []) ≤ times x q.0
          mine x f has none (yes e) =
              let s = times_snoc x lane q.1 in
              let o : one x lane ≡ 1 = ap (λ (z : ℕ). one z lane) e ∙ one_same lane in
              let a : times x q.0 ≡ times lane q.0 = ap (λ (z : ℕ). times z q.0) e in
              let b : times x q.1 ≡ times lane q.1 = ap (λ (z : ℕ). times z q.1) e in omega arith
          mine x f has none (no ne) = let s = times_snoc x lane q.1 in let o = one_other x lane ne in omega arith

          some_put : (x : ℕ) (y : T) → piece_of x ((lane, piece) ∷ c.pieces) ≡ Some y → Dec (x ≡ lane)
              → 1 ≤ total (puts_of x) (set k.pairs p (q.0, q.1 ++ lane ∷ []))
          some_put x y e (yes is) =
              let t = total_set (puts_of x) k.pairs p q (q.0, q.1 ++ lane ∷ []) at in
              let s = times_snoc x lane q.1 in
              let o : one x lane ≡ 1 = ap (λ (z : ℕ). one z lane) is ∙ one_same lane in omega arith
          some_put x y e (no ne) =
              let f = k.pieces x y (sym (piece_else x lane piece c.pieces ne) ∙ e) in
              let t = total_set (puts_of x) k.pairs p q (q.0, q.1 ++ lane ∷ []) at in
              let s = times_snoc x lane q.1 in omega arith

          again : (x : ℕ) (y : T) → piece_of x c.pieces ≡ Some y → Dec (x ≡ lane) → (z : T) × (piece_of x ((lane, piece) ∷ c.pieces) ≡ Some z)
          again x y e (yes is) = (piece, subst (λ (z : ℕ). piece_of z ((lane, piece) ∷ c.pieces) ≡ Some piece) (sym is) (piece_here lane piece c.pieces))
          again x y e (no ne) = (y, piece_else x lane piece c.pieces ne ∙ e)
  sound_of (splits p ∷ h) l =
      let c : Core T = played lanes h in
      let k = sound_of h l.1 in
      record {
        pairs = k.pairs ++ ([], []) ∷ [];
        owned = map-append own k.pairs (([], []) ∷ []) ∙ ap (λ (z : List (List ℕ)). z ++ [] ∷ []) k.owned;
        were_put = map-append put k.pairs (([], []) ∷ []) ∙ ap (λ (z : List (List ℕ)). z ++ [] ∷ []) k.were_put;
        once = λ x. let t = total_snoc (owns x) k.pairs ([], []) in let e = k.once x in omega arith;
        from = λ i q e x. Rattle.std.proofs.Common.⊎_elim (λ was. k.from i q was x)
            (λ (is : ([], []) ≡ q). subst (λ (z : Pair). times x z.1 ≤ times x z.0) is (omega arith)) (at_snoc k.pairs ([], []) q i e);
        pieces = λ x y e. let f = k.pieces x y e in let t = total_snoc (puts_of x) k.pairs ([], []) in omega arith;
        are_judged = k.are_judged;
      }
  sound_of (joins p r ∷ h) l =
      let c : Core T = played lanes h in
      let k = sound_of h l.1 in
      let q = pass_of c k p l.0.0 in
      let u = pass_of c k r l.0.1 in
      go c k q.0 q.1 u.0 u.1 l.0.2
    where
      go : (c : Core T) (k : IsSound lanes c) (q : Pair) → get_elem? k.pairs p ≡ some q → (u : Pair) → get_elem? k.pairs r ≡ some u → r ≢ p
          → IsSound lanes (Rattle.al_board.specs.Core.after lanes (joins p r) c)
      go c k q at u there apart =
          let w : Pair = (q.0 ++ u.0, q.1 ++ u.1) in
          let qs : List Pair = set k.pairs p w in
          let there' : get_elem? qs r ≡ some u = set_else k.pairs p r w apart ∙ there in
          let mine : get_or c.own p [] ≡ q.0 = ap (λ (z : List (List ℕ)). get_or z p []) (sym k.owned) ∙ at_map_of own k.pairs p q at in
          let theirs : get_or c.own r [] ≡ u.0 = ap (λ (z : List (List ℕ)). get_or z r []) (sym k.owned) ∙ at_map_of own k.pairs r u there in
          let mine' : get_or c.put p [] ≡ q.1 = ap (λ (z : List (List ℕ)). get_or z p []) (sym k.were_put) ∙ at_map_of put k.pairs p q at in
          let theirs' : get_or c.put r [] ≡ u.1 = ap (λ (z : List (List ℕ)). get_or z r []) (sym k.were_put) ∙ at_map_of put k.pairs r u there in
          record {
            pairs = set qs r ([], []);
            owned = map-set own qs r ([], [])
                ∙ ap (λ (z : List (List ℕ)). set z r []) (map-set own k.pairs p w ∙ (λ i. set (k.owned i) p (sym mine i ++ sym theirs i)));
            were_put = map-set put qs r ([], [])
                ∙ ap (λ (z : List (List ℕ)). set z r []) (map-set put k.pairs p w ∙ (λ i. set (k.were_put i) p (sym mine' i ++ sym theirs' i)));
            once = λ x. let t = total_set (owns x) k.pairs p q w at in let t' = total_set (owns x) qs r u ([], []) there' in
                let a = times_append x q.0 u.0 in let e = k.once x in omega arith;
            from = from_set qs r ([], [])
                (from_set k.pairs p w k.from (λ x. let f = k.from p q at x in let f' = k.from r u there x in let a = times_append x q.0 u.0 in
                let a' = times_append x q.1 u.1 in omega arith)) (λ x. omega arith);
            pieces = λ x y e. let f = k.pieces x y e in let t = total_set (puts_of x) k.pairs p q w at in
                let t' = total_set (puts_of x) qs r u ([], []) there' in let a = times_append x q.1 u.1 in omega arith;
            are_judged = k.are_judged;
          }
  sound_of (judges lane ∷ h) l =
      let c : Core T = played lanes h in
      let k = sound_of h l.1 in
      record {
        pairs = k.pairs;
        owned = k.owned;
        were_put = k.were_put;
        once = k.once;
        from = k.from;
        pieces = k.pieces;
        are_judged = λ x lt. more c k x lt l.0.0 l.0.1 (ℕ_discrete x lane);
      }
    where
      more : (c : Core T) (k : IsSound lanes c) (x : ℕ) → x < lane + 1 → lane ≡ c.judged → (p : T) × (piece_of lane c.pieces ≡ Some p) → Dec (x ≡ lane)
          → (p : T) × (piece_of x c.pieces ≡ Some p)
      more c k x lt e has (yes is) = (has.0, ap (λ (z : ℕ). piece_of z c.pieces) is ∙ has.1)
      more c k x lt e has (no ne) = k.are_judged x (omega arith)

  -- a lane that may be put is not judged yet
  behind : (c : Core T) (k : IsSound lanes c) (p lane : ℕ) → p < length c.own → 1 ≤ times lane (of c.own p) → times lane (of c.put p) ≡ 0 → c.judged ≤ lane
  behind c k p lane lt has not_put = go (dec_le c.judged lane)
    where
      go : Dec (c.judged ≤ lane) → c.judged ≤ lane
      go (yes y) = y
      go (no n) =
          let q = pass_of c k p lt in
          let here : get_or c.own p [] ≡ q.0.0 = ap (λ (z : List (List ℕ)). get_or z p []) (sym k.owned) ∙ at_map_of own k.pairs p q.0 q.1 in
          let there : get_or c.put p [] ≡ q.0.1 = ap (λ (z : List (List ℕ)). get_or z p []) (sym k.were_put) ∙ at_map_of put k.pairs p q.0 q.1 in
          let has' : times lane (of c.own p) ≡ times lane q.0.0 = ap (times lane) here in
          let none' : times lane (of c.put p) ≡ times lane q.0.1 = ap (times lane) there in
          let j = k.are_judged lane (omega arith) in
          let f = k.pieces lane j.0 j.1 in
          let gap = total_gap (puts_of lane) (owns lane) k.pairs p q.0 q.1 (λ i u at. k.from i u at lane) in
          let o = k.once lane in
          let b = below_le lane (min c.drawn lanes) in absurd (omega arith)

-- the first pieces depend on no others
first_else : {T : Type 0} (n : ℕ) (lane : ℕ) (p : T) (ps : List (ℕ × T)) → n ≤ lane → first_pieces n ((lane, p) ∷ ps) ≡ first_pieces n ps
first_else zero lane p ps le = refl
first_else (suc n) lane p ps le = let ih = first_else n lane p ps (omega arith) in
    let e = piece_else n lane p ps (λ h. omega arith) in (λ i. ih i ++ listed (e i))

first_same : {T : Type 0} (n : ℕ) (ps qs : List (ℕ × T)) → ((x : ℕ) → x < n → piece_of x ps ≡ piece_of x qs) → first_pieces n ps ≡ first_pieces n qs
first_same zero ps qs h = refl
first_same (suc n) ps qs h = let ih = first_same n ps qs (λ x lt. h x (omega arith)) in let e = h n (omega arith) in (λ i. ih i ++ listed (e i))

module _ {T W : Type 0} (judge : List T → T → W) where
  in_order_more : (before xs ys : List T) → in_order judge before (xs ++ ys) ≡ in_order judge before xs ++ in_order judge (before ++ xs) ys
  in_order_more before [] ys = ap (λ (z : List T). in_order judge z ys) (sym (append-nil before))
  in_order_more before (x ∷ xs) ys =
      let ih = in_order_more (before ++ x ∷ []) xs ys in
      ap (λ (z : List W). judge before x ∷ z)
      (ih ∙ ap (λ (z : List T). in_order judge (before ++ x ∷ []) xs ++ in_order judge z ys) (append_assoc before (x ∷ []) xs))

  said_is : (before : List T) (o : Option T) → in_order judge before (listed o) ≡ said judge before o
  said_is before None = refl
  said_is before (Some p) = refl

  pub verdicts_are : (fits : ℕ → T → Type 0) (lanes : ℕ) (h : List (Event T)) → IsHistory fits lanes h
      → verdicts judge lanes h ≡ in_order judge [] (first_pieces (played lanes h).judged (played lanes h).pieces)
  verdicts_are fits lanes [] l = refl
  verdicts_are fits lanes (draws p ∷ h) l = verdicts_are fits lanes h l.1
  verdicts_are fits lanes (puts p lane piece ∷ h) l =
      let c : Core T = played lanes h in
      verdicts_are fits lanes h l.1
      ∙ ap (in_order judge []) (sym (first_else c.judged lane piece c.pieces
      (behind fits lanes c (sound_of fits lanes h l.1) p lane l.0.is_pass l.0.drawn l.0.not_put)))
  verdicts_are fits lanes (splits p ∷ h) l = verdicts_are fits lanes h l.1
  verdicts_are fits lanes (joins p q ∷ h) l = verdicts_are fits lanes h l.1
  verdicts_are fits lanes (judges lane ∷ h) l =
      let c : Core T = played lanes h in
      let ih = verdicts_are fits lanes h l.1 in
      let next : suc lane ≡ lane + 1 = omega arith in
      ap (λ (z : List W). z ++ said judge (first_pieces lane c.pieces) (piece_of lane c.pieces))
      (ih ∙ ap (λ (z : ℕ). in_order judge [] (first_pieces z c.pieces)) (sym l.0.0))
      ∙ ap (λ (z : List W). in_order judge [] (first_pieces lane c.pieces) ++ z) (sym (said_is (first_pieces lane c.pieces) (piece_of lane c.pieces)))
      ∙ sym (in_order_more [] (first_pieces lane c.pieces) (listed (piece_of lane c.pieces)))
      ∙ ap (λ (z : ℕ). in_order judge [] (first_pieces z c.pieces)) next

  -- so two histories that agree have the same verdicts
  pub any_order : (fits : ℕ → T → Type 0) (lanes n : ℕ) (h h' : List (Event T)) → IsHistory fits lanes h → IsHistory fits lanes h' → AgreeOn lanes n h h'
      → verdicts judge lanes h ≡ verdicts judge lanes h'
  any_order fits lanes n h h' l l' a =
      verdicts_are fits lanes h l ∙ ap (λ (z : ℕ). in_order judge [] (first_pieces z (played lanes h).pieces)) a.0
      ∙ ap (in_order judge []) (first_same n (played lanes h).pieces (played lanes h').pieces a.2)
      ∙ ap (λ (z : ℕ). in_order judge [] (first_pieces z (played lanes h').pieces)) (sym a.1)
      ∙ sym (verdicts_are fits lanes h' l')

  -- there are as many verdicts as judged lanes
  pub verdicts_many : (fits : ℕ → T → Type 0) (lanes : ℕ) (h : List (Event T)) → IsHistory fits lanes h
      → length (verdicts judge lanes h) ≡ (played lanes h).judged
  verdicts_many fits lanes [] l = refl
  verdicts_many fits lanes (draws p ∷ h) l = verdicts_many fits lanes h l.1
  verdicts_many fits lanes (puts p lane piece ∷ h) l = verdicts_many fits lanes h l.1
  verdicts_many fits lanes (splits p ∷ h) l = verdicts_many fits lanes h l.1
  verdicts_many fits lanes (joins p q ∷ h) l = verdicts_many fits lanes h l.1
  verdicts_many fits lanes (judges lane ∷ h) l =
      let c : Core T = played lanes h in
      let ih = verdicts_many fits lanes h l.1 in
      let next : lane ≡ c.judged = l.0.0 in
      let one : length (said judge (first_pieces lane c.pieces) (piece_of lane c.pieces))
      ≡ 1 = ap (λ (z : Option T). length (said judge (first_pieces lane c.pieces) z)) l.0.1.1 in
      let a = length-append (verdicts judge lanes h) (said judge (first_pieces lane c.pieces) (piece_of lane c.pieces)) in
      omega arith

  -- the verdicts of a round are those of its pieces
  pub round_verdicts : {K : Type 0} (fits : ℕ → T → Type 0) (lanes pass : ℕ) (v : View T K) (logs : List (List (Entry T))) (pieces : List T)
      → (round : IsRound fits lanes lanes pass v logs pieces)
      → verdicts judge lanes (events lanes round.journal) ≡ in_order judge [] pieces
  round_verdicts fits lanes pass v logs pieces round =
      verdicts_are fits lanes (events lanes round.journal) round.legal
      ∙ ap (λ (z : ℕ). in_order judge [] (first_pieces z (played lanes (events lanes round.journal)).pieces)) round.are_judged
      ∙ ap (in_order judge []) round.each
