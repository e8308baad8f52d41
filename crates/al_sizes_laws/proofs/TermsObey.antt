-- The numbers of a statement have 64 bits as soon as those of the terms in it have.
use Rattle.std.proofs.Common.{◌≡◌, ℕ, List, [], ◌∷◌, map, Option, Some, None, Bool, true, ◌&&◌, refl, sym, subst, ◌∙◌}
use Rattle.std.specs.List.{AllByRecursion}
use Rattle.al_core.specs.declared.typed_tree.TExpr.{TExpr, out-TExpr, map-TExpr, fold_out-TExpr}
use Rattle.al_core.specs.declared.typed_tree.TExpr.TheOpen.{TExpr-F}
use Rattle.al_core.specs.declared.typed_tree.TPlace.{TPlace}
use Rattle.al_core.specs.declared.typed_tree.TStmt.{TStmt, map-TStmt, out-TStmt, para-roll-TStmt, fold-roll-TStmt, fold_out-TStmt}
use Rattle.al_core.specs.declared.typed_tree.TKind.{TKind, map-TKind, out-TKind, fold-TKind, para-roll-TKind, fold-roll-TKind, fold_out-TKind}
use Rattle.al_core.specs.declared.typed_tree.TKind.TheViews.{roll-TStmt, roll-TKind}
use Rattle.al_core.specs.declared.typed_tree.TKind.TheOpen.{TStmt-F, TKind-F}
use Rattle.al_core.specs.Loops.{start_in, start_of, bound_in, right_side, bound_of}
use Rattle.al_core.specs.Accepted.{Terms, no_terms, one_expr, if_expr, both_terms, all_terms, kind_terms, terms, terms_of}
use Rattle.al_laws.proofs.Induction.{With, stmt_induct}
use Rattle.al_rules_laws.proofs.Logic.{and_parts, and_both}
use Rattle.al_graded_laws.specs.Rules.{expr_obeys, place_obeys, obeys, obeys_at, all_obey, any_obeys, bound_obeys, start_obeys, each_obeys, kind_obeys, stmt_obeys, stmt_kind_obeys, stmts_obey}
use Rattle.al_graded_laws.specs.InRange.{in_range}
use Rattle.al_graded_laws.proofs.Graded.{each_left, each_right}

abbrev pub ExprObeys : TExpr → Type 0
ExprObeys v = obeys in_range v ≡ true

abbrev pub PlaceObeys : TPlace → Type 0
PlaceObeys q = (obeys_at in_range q).0 ≡ true

-- terms that obey
pub record TermsObey (t : Terms) : Type 0 where
  pub exprs : AllByRecursion ExprObeys t.exprs
  pub places : AllByRecursion PlaceObeys t.places

left : (s t : Terms) → TermsObey (both_terms s t) → TermsObey s
left s t m = record { exprs = each_left ExprObeys s.exprs t.exprs m.exprs; places = each_left PlaceObeys s.places t.places m.places }

right : (s t : Terms) → TermsObey (both_terms s t) → TermsObey t
right s t m = record { exprs = each_right ExprObeys s.exprs t.exprs m.exprs; places = each_right PlaceObeys s.places t.places m.places }

exprs_obey : (es : List TExpr) → AllByRecursion ExprObeys es → all_obey in_range es ≡ true
exprs_obey [] m = refl
exprs_obey (e ∷ es) m = and_both m.0 (exprs_obey es m.1)

any_obey : (e : Option TExpr) → TermsObey (if_expr e) → any_obeys in_range e ≡ true
any_obey (Some e) m = m.exprs.0
any_obey None m = refl

-- ---- bounds and starts

abbrev layer_of : TExpr-F TExpr TPlace → Bool
layer_of y = expr_obeys in_range (map-TExpr TExpr TPlace Bool (Bool × Bool) (obeys in_range) (obeys_at in_range) y)

out_obeys : (v : TExpr) → obeys in_range v ≡ layer_of (out-TExpr v)
unfolding obeys obeys_at
out_obeys v = fold_out-TExpr Bool (Bool × Bool) (expr_obeys in_range) (place_obeys in_range) v

bound_in_obeys : (y : TExpr-F TExpr TPlace) → layer_of y ≡ true → bound_obeys in_range (bound_in y) ≡ true
bound_in_obeys (TExpr-F.Number m) h = h
bound_in_obeys (TExpr-F.Local k) h = refl
bound_in_obeys _ h = refl

right_side_obeys : (y : TExpr-F TExpr TPlace) → layer_of y ≡ true → bound_obeys in_range (right_side y) ≡ true
right_side_obeys (TExpr-F.Binary op a b) h =
    bound_in_obeys (out-TExpr b) (sym (out_obeys b) ∙ (and_parts (obeys in_range a) (obeys in_range b) h).1)
right_side_obeys _ h = refl

bound_of_obeys : (test : Option TExpr) → TermsObey (if_expr test) → bound_obeys in_range (bound_of test) ≡ true
bound_of_obeys (Some test) m = right_side_obeys (out-TExpr test) (sym (out_obeys test) ∙ m.exprs.0)
bound_of_obeys None m = refl

abbrev terms_in : TKind → Terms
terms_in = fold-TKind Terms Terms kind_terms (λ s. s.kind)

start_in_obeys : (line : ℕ) (y : TKind-F TKind TStmt) → TermsObey (kind_terms (map-TKind TKind TStmt Terms Terms terms_in terms y))
    → start_obeys in_range (start_in line y) ≡ true
start_in_obeys line (TKind-F.SetLocal k e) m = m.exprs.0
start_in_obeys line _ m = refl

start_of_obeys : (d : TStmt) → TermsObey (terms d) → start_obeys in_range (start_of (Some d)) ≡ true
unfolding terms
start_of_obeys d m =
    start_in_obeys (out-TStmt d).line (out-TKind (out-TStmt d).kind)
    (subst TermsObey (fold_out-TStmt Terms Terms kind_terms (λ s. s.kind) d ∙ fold_out-TKind Terms Terms kind_terms (λ s. s.kind) (out-TStmt d).kind) m)

-- ---- the induction

abbrev OfKind : TKind → Type 0
OfKind d = TermsObey (terms_in d) → stmt_kind_obeys in_range d ≡ true

abbrev OfStmt : TStmt → Type 0
OfStmt d = TermsObey (terms d) → stmt_obeys in_range d ≡ true

abbrev K : Type 0
K = With TKind OfKind

abbrev Z : Type 0
Z = With TStmt OfStmt

abbrev bare : TKind-F K Z → TKind-F TKind TStmt
bare y = map-TKind K Z TKind TStmt (λ e. e.0) (λ p. p.0) y

abbrev layer : TKind-F K Z → TKind-F (TKind × Bool) (TStmt × Bool)
layer y = map-TKind TKind TStmt (TKind × Bool) (TStmt × Bool) (λ d. (d, stmt_kind_obeys in_range d)) (λ d. (d, stmt_obeys in_range d)) (bare y)

block : (zs : List Z) → TermsObey (all_terms (map terms (map (λ e. e.0) zs)))
    → each_obeys (map (λ d. (d, stmt_obeys in_range d)) (map (λ e. e.0) zs)) ≡ true
block [] m = refl
block (z ∷ zs) m = and_both (z.1 (left (terms z.0) _ m)) (block zs (right (terms z.0) _ m))

-- a part of a `for`, or none
abbrev part : Option Z → Bool
part (Some z) = stmt_obeys in_range z.0
part None = true

abbrev part_terms : Option Z → Terms
part_terms (Some z) = terms z.0
part_terms None = no_terms

part_obeys : (z : Option Z) → TermsObey (part_terms z) → part z ≡ true
part_obeys (Some z) m = z.1 m
part_obeys None m = refl

abbrev bare_part : Option Z → Option TStmt
bare_part (Some z) = Some z.0
bare_part None = None

start_here : (first : Option Z) → TermsObey (part_terms first) → start_obeys in_range (start_of (bare_part first)) ≡ true
start_here (Some z) m = start_of_obeys z.0 m
start_here None m = refl

abbrev for_terms : Option Z → Option TExpr → Option Z → Z → Terms
for_terms first test third body = both_terms (part_terms first) (both_terms (if_expr test) (both_terms (part_terms third) (terms body.0)))

ordinary : (first : Option Z) (test : Option TExpr) (third : Option Z) (body : Z) → TermsObey (for_terms first test third body)
    → (part first && (any_obeys in_range test && (part third && stmt_obeys in_range body.0))) ≡ true
ordinary first test third body m =
    let m1 = right (part_terms first) _ m in
    let m2 = right (if_expr test) _ m1 in
    and_both (part_obeys first (left (part_terms first) _ m))
    (and_both (any_obey test (left (if_expr test) _ m1))
    (and_both (part_obeys third (left (part_terms third) (terms body.0) m2)) (body.1 (right (part_terms third) (terms body.0) m2))))

annotated : (first : Option Z) (test : Option TExpr) (third : Option Z) (body : Z) → TermsObey (for_terms first test third body)
    → (start_obeys in_range (start_of (bare_part first)) && (bound_obeys in_range (bound_of test) && stmt_obeys in_range body.0)) ≡ true
annotated first test third body m =
    let m1 = right (part_terms first) _ m in
    let m2 = right (if_expr test) _ m1 in
    and_both (start_here first (left (part_terms first) _ m))
    (and_both (bound_of_obeys test (left (if_expr test) _ m1)) (body.1 (right (part_terms third) (terms body.0) m2)))

does_layer : (y : TKind-F K Z) → TermsObey (kind_terms (map-TKind TKind TStmt Terms Terms terms_in terms (bare y)))
    → kind_obeys in_range (layer y) ≡ true
does_layer TKind-F.Empty m = refl
does_layer (TKind-F.SetLocal k e) m = m.exprs.0
does_layer (TKind-F.Store p e) m = and_both m.places.0 m.exprs.0
does_layer (TKind-F.UpdateLocal by k e) m = m.exprs.0
does_layer (TKind-F.UpdateAt by p e) m = and_both m.places.0 m.exprs.0
does_layer (TKind-F.Call e) m = m.exprs.0
does_layer (TKind-F.Print format es) m = exprs_obey es m.exprs
does_layer (TKind-F.If e a (Some b)) m =
    let m1 = right (one_expr e) _ m in
    and_both m.exprs.0 (and_both (a.1 (left (terms a.0) (terms b.0) m1)) (b.1 (right (terms a.0) (terms b.0) m1)))
does_layer (TKind-F.If e a None) m =
    let m1 = right (one_expr e) _ m in
    and_both m.exprs.0 (and_both (a.1 (left (terms a.0) no_terms m1)) refl)
does_layer (TKind-F.While e a) m = and_both m.exprs.0 (a.1 (right (one_expr e) (terms a.0) m))
does_layer (TKind-F.For (Some first) test (Some third) body None) m = ordinary (Some first) test (Some third) body m
does_layer (TKind-F.For (Some first) test None body None) m = ordinary (Some first) test None body m
does_layer (TKind-F.For None test (Some third) body None) m = ordinary None test (Some third) body m
does_layer (TKind-F.For None test None body None) m = ordinary None test None body m
does_layer (TKind-F.For (Some first) test (Some third) body (Some loop)) m = annotated (Some first) test (Some third) body m
does_layer (TKind-F.For (Some first) test None body (Some loop)) m = annotated (Some first) test None body m
does_layer (TKind-F.For None test (Some third) body (Some loop)) m = annotated None test (Some third) body m
does_layer (TKind-F.For None test None body (Some loop)) m = annotated None test None body m
does_layer (TKind-F.Block zs) m = block zs m
does_layer (TKind-F.Return e) m = any_obey e m
does_layer TKind-F.Break m = refl
does_layer TKind-F.Continue m = refl

kind_step : (y : TKind-F K Z) → OfKind (roll-TKind (bare y))
unfolding stmt_obeys stmt_kind_obeys terms
kind_step y m =
    para-roll-TKind Bool Bool (kind_obeys in_range) (λ s. s.kind.1) (bare y)
    ∙ does_layer y (subst TermsObey (fold-roll-TKind Terms Terms kind_terms (λ s. s.kind) (bare y)) m)

stmt_step : (y : TStmt-F K Z) → OfStmt (roll-TStmt (map-TStmt K Z TKind TStmt (λ e. e.0) (λ p. p.0) y))
unfolding stmt_obeys stmt_kind_obeys terms
stmt_step y m =
    let d = map-TStmt K Z TKind TStmt (λ e. e.0) (λ p. p.0) y in
    para-roll-TStmt Bool Bool (kind_obeys in_range) (λ s. s.kind.1) d ∙ y.kind.1 (subst TermsObey (fold-roll-TStmt Terms Terms kind_terms (λ s. s.kind) d) m)

stmt_of_terms : (d : TStmt) → OfStmt d
stmt_of_terms = stmt_induct OfKind OfStmt kind_step stmt_step

-- the statements of a function
pub stmts_of_terms : (ds : List TStmt) → TermsObey (terms_of ds) → stmts_obey in_range ds ≡ true
stmts_of_terms [] m = refl
stmts_of_terms (d ∷ ds) m = and_both (stmt_of_terms d (left (terms d) (terms_of ds) m)) (stmts_of_terms ds (right (terms d) (terms_of ds) m))
