-- A worker's run.
use Rattle.std.proofs.Common.{◌≡◌, ℕ, ◌+◌, ◌≤◌, List, [], ◌∷◌, ◌++◌, refl, sym, ap, ◌∙◌, arith, subst, true, Option, Some, None, MatchOption, ◌<◌}
use Rattle.std.proofs.lemmas.List.{append-nil, append_assoc}
use Rattle.al_board.specs.declared.view.Helped.{Helped}
use Rattle.al_board.specs.declared.view.View.{View}
use Rattle.al_count.specs.Counts.{times}
use Rattle.al_count.proofs.Totals.{one_same, times_append, times_snoc}
use Rattle.al_board.specs.Views.{IsBounded, IsSameWork, HasPutAll, got, gave, joined, over, ran}
use Rattle.al_board.specs.Helps.{IsHelped, HasLaidOne, HasLaidEach, HasLaid}

module _ {T K : Type 0} where
  pub has_drawn : (v w : View T K) (lane : ℕ) → w ≡ got lane v → 1 ≤ times lane w.drawn
  has_drawn v w lane e =
      let t : times lane w.drawn ≡ times lane (v.drawn ++ lane ∷ []) = ap (λ (z : View T K). times lane z.drawn) e in
      let s = times_snoc lane lane v.drawn in
      let o = one_same lane in omega arith

  -- what was not drawn was not put
  pub is_not_put : (v w : View T K) (lane : ℕ) → w ≡ got lane v → IsBounded v → times lane v.drawn ≡ 0 → times lane w.put ≡ 0
  is_not_put v w lane e b none =
      let p : times lane w.put ≡ times lane v.put = ap (λ (z : View T K). times lane z.put) e in
      let h = b.put lane in omega arith

  -- where all was put, all is
  pub ran_all : (v w : View T K) (lanes : List ℕ) → w ≡ over (ran lanes v) → HasPutAll v → HasPutAll w
  ran_all v w lanes e all x =
      let a = times_append x v.drawn lanes in
      let b = times_append x v.put lanes in
      let d : times x w.drawn ≡ times x (v.drawn ++ lanes) = ap (λ (z : View T K). times x z.drawn) e in
      let p : times x w.put ≡ times x (v.put ++ lanes) = ap (λ (z : View T K). times x z.put) e in
      let h = all x in omega arith

  -- a run goes on by one lane
  pub ran_more : (v u w : View T K) (lanes : List ℕ) (lane : ℕ) → v.holds ≡ None → w ≡ gave lane (got lane u) → u ≡ ran lanes v
      → w ≡ ran (lanes ++ lane ∷ []) v
  ran_more v u w lanes lane idle e e' = e ∙ ap (λ (z : View T K). gave lane (got lane z)) e' ∙ (λ i. record v {
    holds = sym idle i;
    drawn = append_assoc v.drawn lanes (lane ∷ []) i;
    put = append_assoc v.put lanes (lane ∷ []) i;
  })

  -- a lane that a draw gave is drawn
  pub has_drawn_some : (o : Option ℕ) (lane n : ℕ) (v w : View T K) → o ≡ Some lane
      → MatchOption o (w ≡ over v) (λ x. (x < n) × (times x v.drawn ≡ 0) × (w ≡ got x v)) → 1 ≤ times lane w.drawn
  has_drawn_some o lane n v w e h = has_drawn v w lane
      (subst (λ (z : Option ℕ). MatchOption z (w ≡ over v) (λ x. (x < n) × (times x v.drawn ≡ 0) × (w ≡ got x v))) e h).2

  -- of two passes that have put all, the first ended, the join has put all and has both shares
  pub joined_all : (a b w : View T K) → w ≡ joined a b → a.ended ≡ true → HasPutAll a → HasPutAll b
      → (w.ended ≡ true) × HasPutAll w × (w.share ≡ a.share + b.share)
  joined_all a b w e ended all all' = (
    ap (λ (z : View T K). z.ended) e ∙ ended,
    (λ x.
        let d : times x w.drawn ≡ times x (a.drawn ++ b.drawn) = ap (λ (z : View T K). times x z.drawn) e in
        let p : times x w.put ≡ times x (a.put ++ b.put) = ap (λ (z : View T K). times x z.put) e in
        let d' = times_append x a.drawn b.drawn in
        let p' = times_append x a.put b.put in
        let h = all x in
        let h' = all' x in omega arith),
    ap (λ (z : View T K). z.share) e,
  )

  -- where all was put, all is, also with pieces laid
  pub worked_all : (v u w : View T K) (lanes : List ℕ) → IsSameWork (ran lanes v) u → w ≡ over u → HasPutAll v → HasPutAll w
  worked_all v u w lanes same e all x =
      let a = times_append x v.drawn lanes in
      let b = times_append x v.put lanes in
      let d : times x u.drawn ≡ times x (v.drawn ++ lanes) = ap (times x) same.drawn in
      let p : times x u.put ≡ times x (v.put ++ lanes) = ap (times x) same.put in
      let d' : times x w.drawn ≡ times x u.drawn = ap (λ (z : View T K). times x z.drawn) e in
      let p' : times x w.put ≡ times x u.put = ap (λ (z : View T K). times x z.put) e in
      let h = all x in omega arith

  -- a run goes on by one lane
  laid_on_each : (lanes : List ℕ) (v u w : View T K) (lane : ℕ) → HasLaidEach lanes v u → HasLaidOne lane u w → HasLaidEach (lanes ++ lane ∷ []) v w
  laid_on_each [] v u w lane e h = (w, subst (λ (z : View T K). HasLaidOne lane z w) e h, refl)
  laid_on_each (x ∷ xs) v u w lane h h' = (h.0, h.1, laid_on_each xs h.0 u w lane h.2 h')

  -- a run starts with no lane, and goes on by one lane
  pub laid_none : (v w : View T K) → w ≡ v → HasLaid v w
  laid_none v w e = subst (HasLaid v) (sym e) record {
    ran_lanes = [];
    same = record {
      task = refl;
      lanes = refl;
      shelved = refl;
      drawn = sym (append-nil v.drawn);
      put = sym (append-nil v.put);
      holds = refl;
      ended = refl;
      allowance = refl;
      share = refl;
    };
    each = refl;
  }

  pub laid_more : (v u x w : View T K) (lane : ℕ) (r : Helped) → HasLaid v u → u.holds ≡ None → x ≡ gave lane (got lane u) → IsHelped x w r → IsSameWork x w
      → HasLaid v w
  laid_more v u x w lane r h idle e helped same = record {
    ran_lanes = h.ran_lanes ++ lane ∷ [];
    same = record {
      task = same.task ∙ ap (λ (z : View T K). z.task) e ∙ h.same.task;
      lanes = same.lanes ∙ ap (λ (z : View T K). z.lanes) e ∙ h.same.lanes;
      shelved = same.shelved ∙ ap (λ (z : View T K). z.shelved) e ∙ h.same.shelved;
      drawn = same.drawn ∙ ap (λ (z : View T K). z.drawn) e ∙ ap (λ (l : List ℕ). l ++ lane ∷ []) h.same.drawn ∙ append_assoc v.drawn h.ran_lanes (lane ∷ []);
      put = same.put ∙ ap (λ (z : View T K). z.put) e ∙ ap (λ (l : List ℕ). l ++ lane ∷ []) h.same.put ∙ append_assoc v.put h.ran_lanes (lane ∷ []);
      holds = same.holds ∙ ap (λ (z : View T K). z.holds) e ∙ sym idle ∙ h.same.holds;
      ended = same.ended ∙ ap (λ (z : View T K). z.ended) e ∙ h.same.ended;
      allowance = same.allowance ∙ ap (λ (z : View T K). z.allowance) e ∙ h.same.allowance;
      share = same.share ∙ ap (λ (z : View T K). z.share) e ∙ h.same.share;
    };
    each = laid_on_each h.ran_lanes v u w lane h.each (r, subst (λ (z : View T K). IsHelped z w r) e helped);
  }
