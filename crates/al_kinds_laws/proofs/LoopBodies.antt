-- The body of an annotated loop is as well formed as the statement in which the loop stands.
use Rattle.std.proofs.Common.{◌≡◌, List, [], ◌∷◌, ◌++◌, Option, Some, None, Bool, true, ◌&&◌, refl, sym, ap, subst, ◌∙◌}
use Rattle.std.specs.Prelude.{map}
use Rattle.std.specs.List.{AllByRecursion, list_all}
use Rattle.std.proofs.Math.Bool.{true≢false}
use Rattle.al_core.specs.declared.values.Kind.{Kind}
use Rattle.al_core.specs.declared.typed_tree.TExpr.{TExpr}
use Rattle.al_core.specs.declared.typed_tree.TStmt.{TStmt, map-TStmt, out-TStmt, roll-out-TStmt, para-roll-TStmt, fold-roll-TStmt}
use Rattle.al_core.specs.declared.typed_tree.TKind.{TKind, map-TKind, out-TKind, roll-out-TKind, fold-TKind, para-roll-TKind, fold-roll-TKind}
use Rattle.al_core.specs.declared.typed_tree.TKind.TheViews.{roll-TStmt, roll-TKind}
use Rattle.al_core.specs.declared.typed_tree.TKind.TheOpen.{TStmt-F, TKind-F}
use Rattle.al_core.specs.declared.typed_tree.TLocal.{TLocal}
use Rattle.al_core.specs.declared.typed_tree.Typed.{Typed}
use Rattle.al_core.specs.Loops.{ForLoop, start_of, bound_of, all_loops, loops_here, for_loops, for_loops_of, for_loops_in}
use Rattle.al_core.specs.Accepted.{Terms, no_terms, one_expr, if_expr, both_terms, all_terms, kind_terms, terms, terms_of}
use Rattle.al_laws.proofs.Induction.{With, stmt_induct}
use Rattle.al_rules.specs.WellFormed.{fits_either, fits, test_formed, simple_kind, is_simple, kind_formed, all_formed, formed, formed_in}
use Rattle.al_graded_laws.specs.Rules.{Rules, obeys, any_obeys, bound_obeys, start_obeys, each_obeys, kind_obeys, stmt_obeys, stmt_kind_obeys, stmts_obey}
use Rattle.al_graded_laws.proofs.Graded.{both_left, both_right}
use Rattle.al_kinds_laws.proofs.WholeTerms.{WholeTerms, whole_left, whole_right}

-- ---- a simple statement has no loops

loops_out : (d : TStmt) → for_loops d
    ≡ loops_here (map-TKind TKind TStmt (TKind × List ForLoop) (TStmt × List ForLoop) (λ d. (d, for_loops_of d)) (λ d. (d, for_loops d))
    (out-TKind (out-TStmt d).kind))
unfolding for_loops for_loops_of
loops_out d =
    ap for_loops (sym (roll-out-TStmt d)) ∙ para-roll-TStmt (List ForLoop) (List ForLoop) loops_here (λ s. s.kind.1) (out-TStmt d)
    ∙ ap for_loops_of (sym (roll-out-TKind (out-TStmt d).kind))
    ∙ para-roll-TKind (List ForLoop) (List ForLoop) loops_here (λ s. s.kind.1) (out-TKind (out-TStmt d).kind)

simple_has_none : (y : TKind-F TKind TStmt) → simple_kind y ≡ true
    → loops_here (map-TKind TKind TStmt (TKind × List ForLoop) (TStmt × List ForLoop) (λ d. (d, for_loops_of d)) (λ d. (d, for_loops d)) y) ≡ []
simple_has_none (TKind-F.SetLocal k e) h = refl
simple_has_none (TKind-F.Store p e) h = refl
simple_has_none (TKind-F.UpdateLocal op k e) h = refl
simple_has_none (TKind-F.UpdateAt op p e) h = refl
simple_has_none (TKind-F.Call e) h = refl
simple_has_none (TKind-F.Print format es) h = refl
simple_has_none TKind-F.Empty h = absurd (true≢false (sym h))
simple_has_none (TKind-F.If e a b) h = absurd (true≢false (sym h))
simple_has_none (TKind-F.While e a) h = absurd (true≢false (sym h))
simple_has_none (TKind-F.For first test third body loop) h = absurd (true≢false (sym h))
simple_has_none (TKind-F.Block ss) h = absurd (true≢false (sym h))
simple_has_none (TKind-F.Return e) h = absurd (true≢false (sym h))
simple_has_none TKind-F.Break h = absurd (true≢false (sym h))
simple_has_none TKind-F.Continue h = absurd (true≢false (sym h))

simple_no_loops : (d : TStmt) → is_simple d ≡ true → for_loops d ≡ []
unfolding is_simple
simple_no_loops d h = loops_out d ∙ simple_has_none (out-TKind (out-TStmt d).kind) h

all_none : (P : ForLoop → Type 0) (ls : List ForLoop) → ls ≡ [] → AllByRecursion P ls
all_none P ls e = subst (AllByRecursion P) (sym e) tt

all_both : (P : ForLoop → Type 0) (ls ms : List ForLoop) → AllByRecursion P ls → AllByRecursion P ms → AllByRecursion P (ls ++ ms)
all_both P [] ms h k = k
all_both P (l ∷ ls) ms h k = (h.0, all_both P ls ms h.1 k)

module _ (typed : Typed) (results : List (Option Kind)) (locals : List TLocal) (result : Option Kind) (r : Rules) where
  abbrev Formed : TStmt → Bool → Bool
  Formed d = formed typed results locals result d

  -- what is known of a body
  pub record GoodBody (d : TStmt) : Type 0 where
    pub formed : Formed d true ≡ true
    pub obeys : stmt_obeys r d ≡ true
    pub whole : WholeTerms typed (terms d)

  abbrev pub GoodLoops : List ForLoop → Type 0
  GoodLoops ls = AllByRecursion (λ l. GoodBody l.body) ls

  abbrev kind_terms_of : TKind → Terms
  kind_terms_of = fold-TKind Terms Terms kind_terms (λ s. s.kind)

  abbrev OfKind : TKind → Type 0
  OfKind d =
      (looped : Bool) → formed_in typed results locals result d looped ≡ true → stmt_kind_obeys r d ≡ true → WholeTerms typed (kind_terms_of d)
      → GoodLoops (for_loops_of d)

  abbrev OfStmt : TStmt → Type 0
  OfStmt d = (looped : Bool) → Formed d looped ≡ true → stmt_obeys r d ≡ true → WholeTerms typed (terms d) → GoodLoops (for_loops d)

  abbrev K : Type 0
  K = With TKind OfKind

  abbrev Z : Type 0
  Z = With TStmt OfStmt

  abbrev bare : TKind-F K Z → TKind-F TKind TStmt
  bare y = map-TKind K Z TKind TStmt (λ e. e.0) (λ p. p.0) y

  abbrev layer_f : TKind-F K Z → TKind-F (TKind × (Bool → Bool)) (TStmt × (Bool → Bool))
  layer_f y =
      map-TKind TKind TStmt (TKind × (Bool → Bool)) (TStmt × (Bool → Bool)) (λ d. (d, formed_in typed results locals result d)) (λ d. (d, Formed d)) (bare y)

  abbrev layer_o : TKind-F K Z → TKind-F (TKind × Bool) (TStmt × Bool)
  layer_o y = map-TKind TKind TStmt (TKind × Bool) (TStmt × Bool) (λ d. (d, stmt_kind_obeys r d)) (λ d. (d, stmt_obeys r d)) (bare y)

  abbrev layer_t : TKind-F K Z → TKind-F Terms Terms
  layer_t y = map-TKind TKind TStmt Terms Terms kind_terms_of terms (bare y)

  abbrev layer_l : TKind-F K Z → TKind-F (TKind × List ForLoop) (TStmt × List ForLoop)
  layer_l y = map-TKind TKind TStmt (TKind × List ForLoop) (TStmt × List ForLoop) (λ d. (d, for_loops_of d)) (λ d. (d, for_loops d)) (bare y)

  block : (zs : List Z) (looped : Bool) → all_formed typed results locals (map (λ d. (d, Formed d)) (map (λ e. e.0) zs)) looped ≡ true
      → each_obeys (map (λ d. (d, stmt_obeys r d)) (map (λ e. e.0) zs)) ≡ true → WholeTerms typed (all_terms (map terms (map (λ e. e.0) zs)))
      → GoodLoops (all_loops (map (λ d. (d, for_loops d)) (map (λ e. e.0) zs)))
  block [] looped f o u = tt
  block (z ∷ zs) looped f o u =
      all_both (λ l. GoodBody l.body) (for_loops z.0) _
      (z.1 looped (both_left (Formed z.0 looped) _ f) (both_left (stmt_obeys r z.0) _ o) (whole_left typed (terms z.0) _ u))
      (block zs looped (both_right (Formed z.0 looped) _ f) (both_right (stmt_obeys r z.0) _ o) (whole_right typed (terms z.0) _ u))

  abbrev part : (TStmt → Bool) → Option Z → Bool
  part f (Some z) = f z.0
  part f None = true

  abbrev part_terms : Option Z → Terms
  part_terms (Some z) = terms z.0
  part_terms None = no_terms

  abbrev part_loops : Option Z → List ForLoop
  part_loops (Some z) = for_loops z.0
  part_loops None = []

  abbrev part_formed : Bool → Option Z → Bool
  part_formed looped (Some z) = is_simple z.0 && Formed z.0 looped
  part_formed looped None = true

  -- the parts of a `for` have no loops
  no_part_loops : (z : Option Z) (looped : Bool) → part_formed looped z ≡ true → GoodLoops (part_loops z)
  no_part_loops (Some z) looped f = all_none (λ l. GoodBody l.body) (for_loops z.0) (simple_no_loops z.0 (both_left (is_simple z.0) (Formed z.0 looped) f))
  no_part_loops None looped f = tt

  abbrev for_terms : Option Z → Option TExpr → Option Z → Z → Terms
  for_terms first test third body = both_terms (part_terms first) (both_terms (if_expr test) (both_terms (part_terms third) (terms body.0)))

  abbrev for_formed : Bool → Option Z → Option TExpr → Option Z → Z → Bool
  for_formed looped first test third body =
      part_formed looped first && test_formed typed results locals test && part_formed looped third && Formed body.0 true

  -- the loops of all parts
  of_parts : (first : Option Z) (test : Option TExpr) (third : Option Z) (body : Z) (looped : Bool) → for_formed looped first test third body ≡ true
      → GoodBody body.0 → GoodLoops ((part_loops first ++ part_loops third) ++ for_loops body.0)
  of_parts first test third body looped f b =
      let tested = test_formed typed results locals test in
      let f3 = both_left (part_formed looped first && tested && part_formed looped third) (Formed body.0 true) f in
      let f2 = both_left (part_formed looped first && tested) (part_formed looped third) f3 in
      all_both (λ l. GoodBody l.body) (part_loops first ++ part_loops third) (for_loops body.0)
      (all_both (λ l. GoodBody l.body) (part_loops first) (part_loops third) (no_part_loops first looped (both_left (part_formed looped first) tested f2))
      (no_part_loops third looped (both_right (part_formed looped first && tested) (part_formed looped third) f3)))
      (body.1 true b.formed b.obeys b.whole)

  body_of_for : (first : Option Z) (test : Option TExpr) (third : Option Z) (body : Z) (looped : Bool) → for_formed looped first test third body ≡ true
      → stmt_obeys r body.0 ≡ true → WholeTerms typed (for_terms first test third body) → GoodBody body.0
  body_of_for first test third body looped f o u = record {
    formed = both_right (part_formed looped first && test_formed typed results locals test && part_formed looped third) (Formed body.0 true) f;
    obeys = o;
    whole = whole_right typed (part_terms third) _ (whole_right typed (if_expr test) _ (whole_right typed (part_terms first) _ u));
  }

  ordinary : (first : Option Z) (test : Option TExpr) (third : Option Z) (body : Z) (looped : Bool) → for_formed looped first test third body ≡ true
      → (part (stmt_obeys r) first && (any_obeys r test && (part (stmt_obeys r) third && stmt_obeys r body.0))) ≡ true
      → WholeTerms typed (for_terms first test third body) → GoodLoops ((part_loops first ++ part_loops third) ++ for_loops body.0)
  ordinary first test third body looped f o u =
      of_parts first test third body looped f (body_of_for first test third body looped f
      (both_right (part (stmt_obeys r) third) _ (both_right (any_obeys r test) _ (both_right (part (stmt_obeys r) first) _ o))) u)

  abbrev bare_part : Option Z → Option TStmt
  bare_part (Some z) = Some z.0
  bare_part None = None

  abbrev noted_body : (first : Option Z) → Option TExpr → Z → Bool
  noted_body first test body = start_obeys r (start_of (bare_part first)) && (bound_obeys r (bound_of test) && stmt_obeys r body.0)

  noted : (first : Option Z) (test : Option TExpr) (third : Option Z) (body : Z) (looped : Bool) → for_formed looped first test third body ≡ true
      → noted_body first test body ≡ true → WholeTerms typed (for_terms first test third body)
      → GoodBody body.0 × GoodLoops ((part_loops first ++ part_loops third) ++ for_loops body.0)
  noted first test third body looped f o u =
      let b = body_of_for first test third body looped f
      (both_right (bound_obeys r (bound_of test)) _ (both_right (start_obeys r (start_of (bare_part first))) _ o)) u in
      (b, of_parts first test third body looped f b)

  loops_layer : (y : TKind-F K Z) (looped : Bool) → kind_formed typed results locals result (layer_f y) looped ≡ true → kind_obeys r (layer_o y) ≡ true
      → WholeTerms typed (kind_terms (layer_t y)) → GoodLoops (loops_here (layer_l y))
  loops_layer TKind-F.Empty looped f o u = tt
  loops_layer (TKind-F.SetLocal k e) looped f o u = tt
  loops_layer (TKind-F.Store p e) looped f o u = tt
  loops_layer (TKind-F.UpdateLocal op k e) looped f o u = tt
  loops_layer (TKind-F.UpdateAt op p e) looped f o u = tt
  loops_layer (TKind-F.Call e) looped f o u = tt
  loops_layer (TKind-F.Print format es) looped f o u = tt
  loops_layer (TKind-F.If e a (Some b)) looped f o u =
      let f1 = both_left (fits_either (fits typed results locals e) && Formed a.0 looped) (Formed b.0 looped) f in
      let o1 = both_right (obeys r e) _ o in
      let u1 = whole_right typed (one_expr e) _ u in
      all_both (λ l. GoodBody l.body) (for_loops a.0) (for_loops b.0)
      (a.1 looped (both_right (fits_either (fits typed results locals e)) (Formed a.0 looped) f1) (both_left (stmt_obeys r a.0) _ o1)
      (whole_left typed (terms a.0) _ u1))
      (b.1 looped (both_right (fits_either (fits typed results locals e) && Formed a.0 looped) (Formed b.0 looped) f) (both_right (stmt_obeys r a.0) _ o1)
      (whole_right typed (terms a.0) _ u1))
  loops_layer (TKind-F.If e a None) looped f o u =
      let f1 = both_left (fits_either (fits typed results locals e) && Formed a.0 looped) true f in
      let o1 = both_right (obeys r e) _ o in
      let u1 = whole_right typed (one_expr e) _ u in
      all_both (λ l. GoodBody l.body) (for_loops a.0) []
      (a.1 looped (both_right (fits_either (fits typed results locals e)) (Formed a.0 looped) f1) (both_left (stmt_obeys r a.0) _ o1)
      (whole_left typed (terms a.0) _ u1))
      tt
  loops_layer (TKind-F.While e a) looped f o u =
      a.1 true (both_right (fits_either (fits typed results locals e)) (Formed a.0 true) f) (both_right (obeys r e) _ o) (whole_right typed (one_expr e) _ u)
  loops_layer (TKind-F.For (Some first) test (Some third) body None) looped f o u = ordinary (Some first) test (Some third) body looped f o u
  loops_layer (TKind-F.For (Some first) test None body None) looped f o u = ordinary (Some first) test None body looped f o u
  loops_layer (TKind-F.For None test (Some third) body None) looped f o u = ordinary None test (Some third) body looped f o u
  loops_layer (TKind-F.For None test None body None) looped f o u = ordinary None test None body looped f o u
  loops_layer (TKind-F.For (Some first) test (Some third) body (Some loop)) looped f o u = noted (Some first) test (Some third) body looped f o u
  loops_layer (TKind-F.For (Some first) test None body (Some loop)) looped f o u = noted (Some first) test None body looped f o u
  loops_layer (TKind-F.For None test (Some third) body (Some loop)) looped f o u = noted None test (Some third) body looped f o u
  loops_layer (TKind-F.For None test None body (Some loop)) looped f o u = noted None test None body looped f o u
  loops_layer (TKind-F.Block zs) looped f o u = block zs looped f o u
  loops_layer (TKind-F.Return e) looped f o u = tt
  loops_layer TKind-F.Break looped f o u = tt
  loops_layer TKind-F.Continue looped f o u = tt

  kind_step : (y : TKind-F K Z) → OfKind (roll-TKind (bare y))
  unfolding stmt_obeys stmt_kind_obeys terms formed formed_in for_loops for_loops_of
  kind_step y looped f o u =
      let d = bare y in
      let is_f = para-roll-TKind (Bool → Bool) (Bool → Bool) (kind_formed typed results locals result) (λ s. s.kind.1) d in
      let is_o = para-roll-TKind Bool Bool (kind_obeys r) (λ s. s.kind.1) d in
      let is_t = fold-roll-TKind Terms Terms kind_terms (λ s. s.kind) d in
      let is_l = para-roll-TKind (List ForLoop) (List ForLoop) loops_here (λ s. s.kind.1) d in
      subst GoodLoops (sym is_l) (loops_layer y looped (ap (λ z. z looped) (sym is_f) ∙ f) (sym is_o ∙ o) (subst (WholeTerms typed) is_t u))

  stmt_step : (y : TStmt-F K Z) → OfStmt (roll-TStmt (map-TStmt K Z TKind TStmt (λ e. e.0) (λ p. p.0) y))
  unfolding stmt_obeys stmt_kind_obeys terms formed formed_in for_loops for_loops_of
  stmt_step y looped f o u =
      let d = map-TStmt K Z TKind TStmt (λ e. e.0) (λ p. p.0) y in
      let is_f = para-roll-TStmt (Bool → Bool) (Bool → Bool) (kind_formed typed results locals result) (λ s. s.kind.1) d in
      let is_o = para-roll-TStmt Bool Bool (kind_obeys r) (λ s. s.kind.1) d in
      let is_t = fold-roll-TStmt Terms Terms kind_terms (λ s. s.kind) d in
      let is_l = para-roll-TStmt (List ForLoop) (List ForLoop) loops_here (λ s. s.kind.1) d in
      subst GoodLoops (sym is_l) (y.kind.1 looped (ap (λ z. z looped) (sym is_f) ∙ f) (sym is_o ∙ o) (subst (WholeTerms typed) is_t u))

  stmt_loops : (d : TStmt) → OfStmt d
  stmt_loops = stmt_induct OfKind OfStmt kind_step stmt_step

  -- the loops in the statements of a function
  pub good_loops : (ds : List TStmt) (looped : Bool) → list_all (λ d. formed typed results locals result d looped) ds ≡ true → stmts_obey r ds ≡ true
      → WholeTerms typed (terms_of ds) → GoodLoops (for_loops_in ds)
  good_loops [] looped f o u = tt
  good_loops (d ∷ ds) looped f o u =
      all_both (λ l. GoodBody l.body) (for_loops d) (for_loops_in ds)
      (stmt_loops d looped (both_left (Formed d looped) _ f) (both_left (stmt_obeys r d) _ o) (whole_left typed (terms d) _ u))
      (good_loops ds looped (both_right (Formed d looped) _ f) (both_right (stmt_obeys r d) _ o) (whole_right typed (terms d) _ u))
