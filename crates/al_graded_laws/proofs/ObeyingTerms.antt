-- Where all locals are allowed, statements obey rules as soon as the terms in them do.
use Rattle.std.proofs.Common.{◌≡◌, ℕ, List, [], ◌∷◌, Option, Some, None, Bool, true, false, ◌&&◌, ◌||◌, refl, sym, ap, subst, ◌∙◌}
use Rattle.std.specs.Prelude.{ℤ, map}
use Rattle.std.specs.List.{AllByRecursion}
use Rattle.al_core.specs.declared.choices.Bound.{Bound}
use Rattle.al_core.specs.declared.choices.Bound.TheVariants as bound
use Rattle.al_core.specs.declared.typed_tree.TExpr.{TExpr}
use Rattle.al_core.specs.declared.typed_tree.TPlace.{TPlace}
use Rattle.al_core.specs.declared.typed_tree.TStmt.{TStmt, map-TStmt, out-TStmt, para-roll-TStmt, fold-roll-TStmt, fold_out-TStmt}
use Rattle.al_core.specs.declared.typed_tree.TKind.{TKind, map-TKind, out-TKind, fold-TKind, para-roll-TKind, fold-roll-TKind, fold_out-TKind}
use Rattle.al_core.specs.declared.typed_tree.TKind.TheViews.{roll-TStmt, roll-TKind}
use Rattle.al_core.specs.declared.typed_tree.TKind.TheOpen.{TStmt-F, TKind-F}
use Rattle.al_core.specs.Loops.{start_in, start_of, bound_of}
use Rattle.al_core.specs.Accepted.{Terms, no_terms, one_expr, if_expr, both_terms, all_terms, kind_terms, terms, terms_of}
use Rattle.al_laws.proofs.Induction.{With, stmt_induct}
use Rattle.al_graded_laws.specs.Rules.{Rules, obeys, obeys_at, all_obey, any_obeys, bound_obeys, start_obeys, each_obeys, kind_obeys, stmt_obeys, stmt_kind_obeys, stmts_obey}
use Rattle.al_graded_laws.specs.InRange.{has_64_bits, in_range}
use Rattle.al_graded_laws.proofs.Graded.{each_left, each_right, both_left, both_right}

pub both : (a b : Bool) → a ≡ true → b ≡ true → (a && b) ≡ true
both a b e f = ap (λ x. x && b) e ∙ f

or_true : (b c : Bool) → c ≡ true → (b || c) ≡ true
or_true true c e = refl
or_true false c e = e

module _ (r : Rules) (locals : (k : ℕ) → r.local k ≡ true) (literal : (n : ℤ) → has_64_bits n ≡ true → r.literal n ≡ true)
    (U : TExpr → Type 0) (UA : TPlace → Type 0) (expr_of : (e : TExpr) → obeys in_range e ≡ true → U e → obeys r e ≡ true)
    (place_of : (p : TPlace) → (obeys_at in_range p).0 ≡ true → UA p → (obeys_at r p).0 ≡ true) where
  -- terms that obey
  pub record Spared (t : Terms) : Type 0 where
    pub exprs : AllByRecursion U t.exprs
    pub places : AllByRecursion UA t.places

  spared_left : (s t : Terms) → Spared (both_terms s t) → Spared s
  spared_left s t m = record { exprs = each_left U s.exprs t.exprs m.exprs; places = each_left UA s.places t.places m.places }

  spared_right : (s t : Terms) → Spared (both_terms s t) → Spared t
  spared_right s t m = record { exprs = each_right U s.exprs t.exprs m.exprs; places = each_right UA s.places t.places m.places }

  exprs_of : (es : List TExpr) → all_obey in_range es ≡ true → AllByRecursion U es → all_obey r es ≡ true
  exprs_of [] o m = refl
  exprs_of (e ∷ es) o m =
      both (obeys r e) (all_obey r es) (expr_of e (both_left (obeys in_range e) (all_obey in_range es) o) m.0)
      (exprs_of es (both_right (obeys in_range e) (all_obey in_range es) o) m.1)

  bound_of_it : (b : Bound) → bound_obeys in_range b ≡ true → bound_obeys r b ≡ true
  bound_of_it (bound.Number n) o = literal n o
  bound_of_it (bound.Local k) o = locals k

  any_of : (e : Option TExpr) → any_obeys in_range e ≡ true → Spared (if_expr e) → any_obeys r e ≡ true
  any_of (Some e) o m = expr_of e o m.exprs.0
  any_of None o m = refl

  place_and_value : (b : Bool) (p : TPlace) (e : TExpr) → ((obeys_at in_range p).0 && obeys in_range e) ≡ true → UA p → U e
      → (b || ((obeys_at r p).0 && obeys r e)) ≡ true
  place_and_value b p e o m n =
      or_true b ((obeys_at r p).0 && obeys r e)
      (both (obeys_at r p).0 (obeys r e) (place_of p (both_left (obeys_at in_range p).0 (obeys in_range e) o) m)
      (expr_of e (both_right (obeys_at in_range p).0 (obeys in_range e) o) n))

  local_and_value : (b : Bool) (k : ℕ) (e : TExpr) → obeys in_range e ≡ true → U e → (b || (r.local k && obeys r e)) ≡ true
  local_and_value b k e o m = or_true b (r.local k && obeys r e) (both (r.local k) (obeys r e) (locals k) (expr_of e o m))

  abbrev kind_terms_of : TKind → Terms
  kind_terms_of = fold-TKind Terms Terms kind_terms (λ s. s.kind)

  start_in_of : (line : ℕ) (y : TKind-F TKind TStmt) → start_obeys in_range (start_in line y) ≡ true
      → Spared (kind_terms (map-TKind TKind TStmt Terms Terms kind_terms_of terms y)) → start_obeys r (start_in line y) ≡ true
  start_in_of line (TKind-F.SetLocal k e) o m = both (r.local k) (obeys r e) (locals k) (expr_of e o m.exprs.0)
  start_in_of line TKind-F.Empty o m = refl
  start_in_of line (TKind-F.Store p e) o m = refl
  start_in_of line (TKind-F.UpdateLocal op k e) o m = refl
  start_in_of line (TKind-F.UpdateAt op p e) o m = refl
  start_in_of line (TKind-F.Call e) o m = refl
  start_in_of line (TKind-F.Print format es) o m = refl
  start_in_of line (TKind-F.If e a b) o m = refl
  start_in_of line (TKind-F.While e a) o m = refl
  start_in_of line (TKind-F.For first test third body loop) o m = refl
  start_in_of line (TKind-F.Block ss) o m = refl
  start_in_of line (TKind-F.Return e) o m = refl
  start_in_of line TKind-F.Break o m = refl
  start_in_of line TKind-F.Continue o m = refl

  start_of_obeys : (d : TStmt) → start_obeys in_range (start_of (Some d)) ≡ true → Spared (terms d) → start_obeys r (start_of (Some d)) ≡ true
  unfolding terms
  start_of_obeys d o m =
      start_in_of (out-TStmt d).line (out-TKind (out-TStmt d).kind) o
      (subst Spared (fold_out-TStmt Terms Terms kind_terms (λ s. s.kind) d ∙ fold_out-TKind Terms Terms kind_terms (λ s. s.kind) (out-TStmt d).kind) m)

  -- ---- the induction

  abbrev OfKind : TKind → Type 0
  OfKind d = stmt_kind_obeys in_range d ≡ true → Spared (kind_terms_of d) → stmt_kind_obeys r d ≡ true

  abbrev OfStmt : TStmt → Type 0
  OfStmt d = stmt_obeys in_range d ≡ true → Spared (terms d) → stmt_obeys r d ≡ true

  abbrev K : Type 0
  K = With TKind OfKind

  abbrev Z : Type 0
  Z = With TStmt OfStmt

  abbrev bare : TKind-F K Z → TKind-F TKind TStmt
  bare y = map-TKind K Z TKind TStmt (λ e. e.0) (λ p. p.0) y

  abbrev layer : Rules → TKind-F K Z → TKind-F (TKind × Bool) (TStmt × Bool)
  layer s y = map-TKind TKind TStmt (TKind × Bool) (TStmt × Bool) (λ d. (d, stmt_kind_obeys s d)) (λ d. (d, stmt_obeys s d)) (bare y)

  block : (zs : List Z) → each_obeys (map (λ d. (d, stmt_obeys in_range d)) (map (λ e. e.0) zs)) ≡ true
      → Spared (all_terms (map terms (map (λ e. e.0) zs))) → each_obeys (map (λ d. (d, stmt_obeys r d)) (map (λ e. e.0) zs)) ≡ true
  block [] o m = refl
  block (z ∷ zs) o m =
      both (stmt_obeys r z.0) _ (z.1 (both_left (stmt_obeys in_range z.0) _ o) (spared_left (terms z.0) _ m))
      (block zs (both_right (stmt_obeys in_range z.0) _ o) (spared_right (terms z.0) _ m))

  -- a part of a `for`, or none
  abbrev part : (TStmt → Bool) → Option Z → Bool
  part f (Some z) = f z.0
  part f None = true

  abbrev part_terms : Option Z → Terms
  part_terms (Some z) = terms z.0
  part_terms None = no_terms

  part_of : (z : Option Z) → part (stmt_obeys in_range) z ≡ true → Spared (part_terms z) → part (stmt_obeys r) z ≡ true
  part_of (Some z) o m = z.1 o m
  part_of None o m = refl

  abbrev for_terms : Option Z → Option TExpr → Option Z → Z → Terms
  for_terms first test third body = both_terms (part_terms first) (both_terms (if_expr test) (both_terms (part_terms third) (terms body.0)))

  ordinary : (first : Option Z) (test : Option TExpr) (third : Option Z) (body : Z)
      → (part (stmt_obeys in_range) first && (any_obeys in_range test && (part (stmt_obeys in_range) third && stmt_obeys in_range body.0))) ≡ true
      → Spared (for_terms first test third body)
      → (part (stmt_obeys r) first && (any_obeys r test && (part (stmt_obeys r) third && stmt_obeys r body.0))) ≡ true
  ordinary first test third body o m =
      let o1 = both_right (part (stmt_obeys in_range) first) _ o in
      let o2 = both_right (any_obeys in_range test) _ o1 in
      let m1 = spared_right (part_terms first) _ m in
      let m2 = spared_right (if_expr test) _ m1 in
      both (part (stmt_obeys r) first) _ (part_of first (both_left (part (stmt_obeys in_range) first) _ o) (spared_left (part_terms first) _ m))
      (both (any_obeys r test) _ (any_of test (both_left (any_obeys in_range test) _ o1) (spared_left (if_expr test) _ m1))
      (both (part (stmt_obeys r) third) (stmt_obeys r body.0)
      (part_of third (both_left (part (stmt_obeys in_range) third) _ o2) (spared_left (part_terms third) _ m2))
      (body.1 (both_right (part (stmt_obeys in_range) third) _ o2) (spared_right (part_terms third) _ m2))))

  abbrev bare_part : Option Z → Option TStmt
  bare_part (Some z) = Some z.0
  bare_part None = None

  start_here : (first : Option Z) → start_obeys in_range (start_of (bare_part first)) ≡ true → Spared (part_terms first)
      → start_obeys r (start_of (bare_part first)) ≡ true
  start_here (Some z) o m = start_of_obeys z.0 o m
  start_here None o m = refl

  annotated : (first : Option Z) (test : Option TExpr) (third : Option Z) (body : Z)
      → (start_obeys in_range (start_of (bare_part first)) && (bound_obeys in_range (bound_of test) && stmt_obeys in_range body.0)) ≡ true
      → Spared (for_terms first test third body)
      → (start_obeys r (start_of (bare_part first)) && (bound_obeys r (bound_of test) && stmt_obeys r body.0)) ≡ true
  annotated first test third body o m =
      let o1 = both_right (start_obeys in_range (start_of (bare_part first))) _ o in
      let m1 = spared_right (part_terms first) _ m in
      let m2 = spared_right (if_expr test) _ m1 in
      both (start_obeys r (start_of (bare_part first))) _
      (start_here first (both_left (start_obeys in_range (start_of (bare_part first))) _ o) (spared_left (part_terms first) _ m))
      (both (bound_obeys r (bound_of test)) (stmt_obeys r body.0)
      (bound_of_it (bound_of test) (both_left (bound_obeys in_range (bound_of test)) _ o1))
      (body.1 (both_right (bound_obeys in_range (bound_of test)) _ o1) (spared_right (part_terms third) _ m2)))

  does_layer : (y : TKind-F K Z) → kind_obeys in_range (layer in_range y) ≡ true
      → Spared (kind_terms (map-TKind TKind TStmt Terms Terms kind_terms_of terms (bare y))) → kind_obeys r (layer r y) ≡ true
  does_layer TKind-F.Empty o m = refl
  does_layer (TKind-F.SetLocal k e) o m = local_and_value (r.set k e) k e o m.exprs.0
  does_layer (TKind-F.Store p e) o m = place_and_value (r.store p e) p e o m.places.0 m.exprs.0
  does_layer (TKind-F.UpdateLocal by k e) o m = local_and_value (r.update by k e) k e o m.exprs.0
  does_layer (TKind-F.UpdateAt by p e) o m = place_and_value (r.update_at by p e) p e o m.places.0 m.exprs.0
  does_layer (TKind-F.Call e) o m = expr_of e o m.exprs.0
  does_layer (TKind-F.Print format es) o m = exprs_of es o m.exprs
  does_layer (TKind-F.If e a (Some b)) o m =
      let o1 = both_right (obeys in_range e) _ o in
      let m1 = spared_right (one_expr e) _ m in
      both (obeys r e) _ (expr_of e (both_left (obeys in_range e) _ o) m.exprs.0)
      (both (stmt_obeys r a.0) (stmt_obeys r b.0) (a.1 (both_left (stmt_obeys in_range a.0) _ o1) (spared_left (terms a.0) _ m1))
      (b.1 (both_right (stmt_obeys in_range a.0) _ o1) (spared_right (terms a.0) _ m1)))
  does_layer (TKind-F.If e a None) o m =
      let o1 = both_right (obeys in_range e) _ o in
      let m1 = spared_right (one_expr e) _ m in
      both (obeys r e) _ (expr_of e (both_left (obeys in_range e) _ o) m.exprs.0)
      (both (stmt_obeys r a.0) true (a.1 (both_left (stmt_obeys in_range a.0) _ o1) (spared_left (terms a.0) _ m1)) refl)
  does_layer (TKind-F.While e a) o m =
      both (obeys r e) (stmt_obeys r a.0) (expr_of e (both_left (obeys in_range e) _ o) m.exprs.0)
      (a.1 (both_right (obeys in_range e) _ o) (spared_right (one_expr e) _ m))
  does_layer (TKind-F.For (Some first) test (Some third) body None) o m = ordinary (Some first) test (Some third) body o m
  does_layer (TKind-F.For (Some first) test None body None) o m = ordinary (Some first) test None body o m
  does_layer (TKind-F.For None test (Some third) body None) o m = ordinary None test (Some third) body o m
  does_layer (TKind-F.For None test None body None) o m = ordinary None test None body o m
  does_layer (TKind-F.For (Some first) test (Some third) body (Some loop)) o m = annotated (Some first) test (Some third) body o m
  does_layer (TKind-F.For (Some first) test None body (Some loop)) o m = annotated (Some first) test None body o m
  does_layer (TKind-F.For None test (Some third) body (Some loop)) o m = annotated None test (Some third) body o m
  does_layer (TKind-F.For None test None body (Some loop)) o m = annotated None test None body o m
  does_layer (TKind-F.Block zs) o m = block zs o m
  does_layer (TKind-F.Return e) o m = any_of e o m
  does_layer TKind-F.Break o m = refl
  does_layer TKind-F.Continue o m = refl

  kind_step : (y : TKind-F K Z) → OfKind (roll-TKind (bare y))
  unfolding stmt_obeys stmt_kind_obeys terms
  kind_step y o m =
      let is_o = λ (s : Rules). para-roll-TKind Bool Bool (kind_obeys s) (λ s. s.kind.1) (bare y) in
      is_o r ∙ does_layer y (sym (is_o in_range) ∙ o) (subst Spared (fold-roll-TKind Terms Terms kind_terms (λ s. s.kind) (bare y)) m)

  stmt_step : (y : TStmt-F K Z) → OfStmt (roll-TStmt (map-TStmt K Z TKind TStmt (λ e. e.0) (λ p. p.0) y))
  unfolding stmt_obeys stmt_kind_obeys terms
  stmt_step y o m =
      let d = map-TStmt K Z TKind TStmt (λ e. e.0) (λ p. p.0) y in
      let is_o = λ (s : Rules). para-roll-TStmt Bool Bool (kind_obeys s) (λ s. s.kind.1) d in
      is_o r ∙ y.kind.1 (sym (is_o in_range) ∙ o) (subst Spared (fold-roll-TStmt Terms Terms kind_terms (λ s. s.kind) d) m)

  -- a statement
  pub spared_obeys : (d : TStmt) → OfStmt d
  spared_obeys = stmt_induct OfKind OfStmt kind_step stmt_step

  -- the statements of a function
  pub spared_obey : (ds : List TStmt) → stmts_obey in_range ds ≡ true → Spared (terms_of ds) → stmts_obey r ds ≡ true
  spared_obey [] o m = refl
  spared_obey (d ∷ ds) o m =
      both (stmt_obeys r d) (stmts_obey r ds) (spared_obeys d (both_left (stmt_obeys in_range d) _ o) (spared_left (terms d) _ m))
      (spared_obey ds (both_right (stmt_obeys in_range d) _ o) (spared_right (terms d) _ m))
