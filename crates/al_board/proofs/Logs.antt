-- The views log the journal.
use Rattle.std.proofs.Common.{◌≡◌, ◌≢◌, ℕ, zero, suc, ◌⊎◌, List, [], ◌∷◌, ◌++◌, set, refl, sym, ap, ◌∙◌, subst, inl, inr, ⊎_elim}
use Rattle.std.proofs.lemmas.List.{append_assoc}
use mathlib.Core.Option.{some, some-injective, some-ne-none}
use native.Mathlib.Decide.{ℕ_discrete}
use lib.ListN.{get_elem?}
use Rattle.atomic_table.proofs.Lists.{at_set, at_snoc, at_longer, set_else}
use Rattle.al_count.proofs.Totals.{set_at}
use Rattle.al_board.specs.declared.view.Entry.{Entry}
use Rattle.al_board.specs.declared.view.Entry.TheVariants.{Split, Joined}
use Rattle.al_board.specs.declared.view.View.{View}
use Rattle.al_board.specs.Logs.{IsEnd, AreEnds, IsIn}
use Rattle.al_board.specs.Rule.{AreLogs}

module _ {A : Type 0} where
  pub whole_end : (xs : List A) → IsEnd xs xs
  whole_end xs = record { since = []; whole = refl }

  pub end_trans : (xs ys zs : List A) → IsEnd xs ys → IsEnd ys zs → IsEnd xs zs
  end_trans xs ys zs h h' = record {
    since = h'.since ++ h.since;
    whole = h'.whole ∙ ap (λ (l : List A). h'.since ++ l) h.whole ∙ sym (append_assoc h'.since h.since xs);
  }

  -- an end stays one where the list grows
  pub end_grown : (xs ys zs : List A) → IsEnd xs ys → IsEnd xs (zs ++ ys)
  end_grown xs ys zs h = end_trans xs ys (zs ++ ys) h record { since = zs; whole = refl }

  pub ends_grown : (logs : List (List A)) (ys zs : List A) → AreEnds logs ys → AreEnds logs (zs ++ ys)
  ends_grown logs ys zs h k log at = end_grown log ys zs (h k log at)

  pub ends_none : (xs : List A) → AreEnds [] xs
  ends_none xs k log at = absurd (some-ne-none log (sym at))

  pub ends_one : (xs ys : List A) → IsEnd xs ys → AreEnds (xs ∷ []) ys
  ends_one xs ys h zero log at = subst (λ (l : List A). IsEnd l ys) (some-injective xs log at) h
  ends_one xs ys h (suc k) log at = absurd (some-ne-none log (sym at))

  ends_append : (xss yss : List (List A)) (ys : List A) → AreEnds xss ys → AreEnds yss ys → AreEnds (xss ++ yss) ys
  ends_append [] yss ys h h' k log at = h' k log at
  ends_append (xs ∷ xss) yss ys h h' zero log at = h zero log at
  ends_append (xs ∷ xss) yss ys h h' (suc k) log at = ends_append xss yss ys (λ i l e. h (suc i) l e) h' k log at

  pub in_left : (log : List A) (xss yss : List (List A)) → IsIn log xss → IsIn log (xss ++ yss)
  in_left log xss yss h = record { place = h.place; longer = h.longer; at = at_longer xss yss h.place h.longer h.at; end = h.end }

  pub in_right : (log : List A) (xss yss : List (List A)) → IsIn log yss → IsIn log (xss ++ yss)
  in_right log [] yss h = h
  in_right log (xs ∷ xss) yss h =
      let ih = in_right log xss yss h in record { place = suc ih.place; longer = ih.longer; at = ih.at; end = ih.end }

module _ {T K : Type 0} where
  -- some view has logged this, or it is empty
  abbrev HasSome : List (View T K) → List (Entry T) → Type 0
  HasSome vs last = (last ≡ []) ⊎ ((id : ℕ) × (v : View T K) × (get_elem? vs id ≡ some v) × IsIn last v.logs)

  abbrev AllEnds : List (View T K) → List (Entry T) → Type 0
  AllEnds vs last = (id : ℕ) (v : View T K) → get_elem? vs id ≡ some v → AreEnds v.logs last

  -- where one view is changed
  ends_set : (vs : List (View T K)) (id : ℕ) (w : View T K) (last : List (Entry T)) → AllEnds vs last → AreEnds w.logs last → AllEnds (set vs id w) last
  ends_set vs id w last all mine i u e = ⊎_elim
      (λ (x : (i ≡ id) × (w ≡ u)). subst (λ (z : View T K). AreEnds z.logs last) x.1 mine)
      (λ (x : (i ≢ id) × (get_elem? vs i ≡ some u)). all i u x.1)
      (at_set vs id i w u e)

  ends_snoc : (vs : List (View T K)) (w : View T K) (last : List (Entry T)) → AllEnds vs last → AreEnds w.logs last → AllEnds (vs ++ w ∷ []) last
  ends_snoc vs w last all mine i u e = ⊎_elim (λ was. all i u was) (λ (is : w ≡ u). subst (λ (z : View T K). AreEnds z.logs last) is mine) (at_snoc vs w u i e)

  -- who has logged it still has, where one view keeps it
  some_set : (vs : List (View T K)) (id : ℕ) (v w : View T K) (last : List (Entry T)) → get_elem? vs id ≡ some v → (IsIn last v.logs → IsIn last w.logs)
      → HasSome vs last → HasSome (set vs id w) last
  some_set vs id v w last at same = ⊎_elim (λ none. inl none) (λ h. go h (ℕ_discrete h.0 id))
    where
      go : (h : (i : ℕ) × (u : View T K) × (get_elem? vs i ≡ some u) × IsIn last u.logs) → Dec (h.0 ≡ id) → HasSome (set vs id w) last
      go h (yes e) =
          let is : h.1 ≡ v = some-injective h.1 v (sym h.2 ∙ ap (get_elem? vs) e ∙ at) in
          inr (id, w, set_at vs id v w at, same (subst (λ (z : View T K). IsIn last z.logs) is h.3))
      go h (no ne) = inr (h.0, h.1, set_else vs id h.0 w ne ∙ h.2, h.3)

  some_snoc : (vs : List (View T K)) (w : View T K) (last : List (Entry T)) → HasSome vs last → HasSome (vs ++ w ∷ []) last
  some_snoc vs w last = ⊎_elim (λ none. inl none) (λ h. inr (h.0, h.1, at_longer vs (w ∷ []) h.0 h.1 h.2, h.3))

  -- all that a view has logged are ends of the journal
  pub all_ends : (vs : List (View T K)) (h : List (Entry T)) (id : ℕ) (v : View T K) → get_elem? vs id ≡ some v → AreLogs vs h → AreEnds v.logs h
  all_ends vs h id v at k = subst (AreEnds v.logs) (sym k.whole) (ends_grown v.logs k.last k.moves (k.ends id v at))

  -- a pass logs its entry
  pub logs_entry : (vs : List (View T K)) (h : List (Entry T)) (id : ℕ) (v w : View T K) (e : Entry T) → get_elem? vs id ≡ some v
      → w.logs ≡ (e ∷ h) ∷ [] → AreLogs vs h → AreLogs (set vs id w) (e ∷ h)
  logs_entry vs h id v w e at logs k = record {
    moves = [];
    last = e ∷ h;
    are_moves = tt;
    whole = refl;
    ends = ends_set vs id w (e ∷ h)
        (λ i u at'. ends_grown u.logs h (e ∷ []) (all_ends vs h i u at' k))
        (subst (λ (l : List (List (Entry T))). AreEnds l (e ∷ h)) (sym logs) (ends_one (e ∷ h) (e ∷ h) (whole_end (e ∷ h))));
    someone = inr (
      id,
      w,
      set_at vs id v w at,
      subst (IsIn (e ∷ h)) (sym logs) record { place = 0; longer = e ∷ h; at = refl; end = whole_end (e ∷ h) },
    );
  }

  -- a view is changed, but not its logs
  pub logs_same : (vs : List (View T K)) (h : List (Entry T)) (id : ℕ) (v w : View T K) → get_elem? vs id ≡ some v → w.logs ≡ v.logs → AreLogs vs h
      → AreLogs (set vs id w) h
  logs_same vs h id v w at logs k = record {
    moves = k.moves;
    last = k.last;
    are_moves = k.are_moves;
    whole = k.whole;
    ends = ends_set vs id w k.last k.ends (subst (λ (l : List (List (Entry T))). AreEnds l k.last) (sym logs) (k.ends id v at));
    someone = some_set vs id v w k.last at (λ i. subst (IsIn k.last) (sym logs) i) k.someone;
  }

  -- a split is not logged
  pub logs_split : (vs : List (View T K)) (h : List (Entry T)) (id : ℕ) (v w u : View T K) → get_elem? vs id ≡ some v → w.logs ≡ v.logs → u.logs ≡ []
      → AreLogs vs h
      → AreLogs (set vs id w ++ u ∷ []) (Split id ∷ h)
  logs_split vs h id v w u at logs none k =
      let m = logs_same vs h id v w at logs k in
      record {
        moves = Split id ∷ m.moves;
        last = m.last;
        are_moves = m.are_moves;
        whole = ap (λ (z : List (Entry T)). Split id ∷ z) m.whole;
        ends = ends_snoc (set vs id w) u m.last m.ends (subst (λ (l : List (List (Entry T))). AreEnds l m.last) (sym none) (ends_none m.last));
        someone = some_snoc (set vs id w) u m.last m.someone;
      }

  -- nor is a join: the receiver has both logs
  pub record AreJoined (vs : List (View T K)) (id other : ℕ) (v u w spent : View T K) : Type 0 where
    pub at : get_elem? vs id ≡ some v
    pub there : get_elem? vs other ≡ some u
    pub apart : other ≢ id
    pub both : w.logs ≡ v.logs ++ u.logs
    pub none : spent.logs ≡ []

  pub logs_join : (vs : List (View T K)) (h : List (Entry T)) (id other : ℕ) (v u w spent : View T K) → AreJoined vs id other v u w spent
      → AreLogs vs h → AreLogs (set (set vs id w) other spent) (Joined id other ∷ h)
  logs_join vs h id other v u w spent j k = record {
    moves = Joined id other ∷ k.moves;
    last = k.last;
    are_moves = k.are_moves;
    whole = ap (λ (z : List (Entry T)). Joined id other ∷ z) k.whole;
    ends = ends_set (set vs id w) other spent k.last
        (ends_set vs id w k.last k.ends
        (subst (λ (l : List (List (Entry T))). AreEnds l k.last) (sym j.both)
        (ends_append v.logs u.logs k.last (k.ends id v j.at) (k.ends other u j.there))))
        (subst (λ (l : List (List (Entry T))). AreEnds l k.last) (sym j.none) (ends_none k.last));
    someone = ⊎_elim (λ empty. inl empty) (λ x. go x (ℕ_discrete x.0 id) (ℕ_discrete x.0 other)) k.someone;
  }
    where
      mine : get_elem? (set (set vs id w) other spent) id ≡ some w
      mine = set_else (set vs id w) other id spent (λ e. j.apart (sym e)) ∙ set_at vs id v w j.at

      go : (x : (i : ℕ) × (t : View T K) × (get_elem? vs i ≡ some t) × IsIn k.last t.logs) → Dec (x.0 ≡ id) → Dec (x.0 ≡ other)
          → HasSome (set (set vs id w) other spent) k.last
      go x (yes e) d =
          let is : x.1 ≡ v = some-injective x.1 v (sym x.2 ∙ ap (get_elem? vs) e ∙ j.at) in
          inr (id, w, mine, subst (IsIn k.last) (sym j.both) (in_left k.last v.logs u.logs (subst (λ (z : View T K). IsIn k.last z.logs) is x.3)))
      go x (no ne) (yes e) =
          let is : x.1 ≡ u = some-injective x.1 u (sym x.2 ∙ ap (get_elem? vs) e ∙ j.there) in
          inr (id, w, mine, subst (IsIn k.last) (sym j.both) (in_right k.last v.logs u.logs (subst (λ (z : View T K). IsIn k.last z.logs) is x.3)))
      go x (no ne) (no ne') = inr (x.0, x.1, set_else (set vs id w) other x.0 spent ne' ∙ set_else vs id x.0 w ne ∙ x.2, x.3)
