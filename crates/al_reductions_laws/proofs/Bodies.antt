-- A body that mentions each reduction variable in updates alone obeys the rules of a loop's body: the induction.
use Rattle.std.proofs.Common.{◌≡◌, ℕ, List, [], ◌∷◌, Option, Some, None, Bool, true, false, ◌&&◌, refl, sym, ◌∙◌}
use Rattle.std.specs.Prelude.{not, map}
use Rattle.std.specs.List.{list_any, list_all}
use Rattle.al_core.specs.declared.choices.Bound.{Bound}
use Rattle.al_core.specs.declared.choices.Bound.TheVariants as bound
use Rattle.al_core.specs.declared.choices.Red.{Red}
use Rattle.al_core.specs.declared.values.Addr.TheVariants.{Word, Local}
use Rattle.al_core.specs.declared.values.Obj.TheVariants.{Global}
use Rattle.al_core.specs.declared.typed_tree.TExpr.{TExpr}
use Rattle.al_core.specs.declared.typed_tree.TPlace.{out-TPlace}
use Rattle.al_core.specs.declared.typed_tree.TStmt.{TStmt, map-TStmt, para-roll-TStmt}
use Rattle.al_core.specs.declared.typed_tree.TKind.{TKind, map-TKind, para-roll-TKind}
use Rattle.al_core.specs.declared.typed_tree.TKind.TheViews.{roll-TStmt, roll-TKind}
use Rattle.al_core.specs.declared.typed_tree.TKind.TheOpen.{TStmt-F, TKind-F}
use Rattle.al_core.specs.Access.{red_index}
use Rattle.al_core.specs.Loops.{start_of, bound_of}
use Rattle.al_core.specs.Accepted.{mentions, any_mentions, starts_other, kind_only_updates, only_updates}
use Rattle.al_laws.proofs.Induction.{With, stmt_induct}
use Rattle.al_graded_laws.specs.Rules.{Rules, obeys, any_obeys, bound_obeys, start_obeys, each_obeys, kind_obeys, stmt_obeys, stmt_kind_obeys}
use Rattle.al_graded_laws.specs.InRange.{in_range}
use Rattle.al_graded_laws.proofs.Graded.{both_left, both_right}
use Rattle.al_reductions_laws.proofs.BodyRules.{red_of_place, base, body_rules}
use Rattle.al_reductions_laws.proofs.Mentions.{both}
use Rattle.al_reductions_laws.proofs.Updating.{EachRed, IsAt, only_kind, only_layer, not_true, watched, bound_of_obeys, permits, expr_of, set_local, update_local, store_at, update_at, exprs_of, any_of, start_of_obeys}

module _ (reds : List Red) (called : ℕ → Type 0) (firsts : EachRed reds (λ r. (k w : ℕ) → r.at ≡ Word (Global k) w → w ≡ 0)) where
  abbrev B : Rules
  B = body_rules reds called

  abbrev OfKind : TKind → Type 0
  OfKind d = stmt_kind_obeys in_range d ≡ true → EachRed reds (λ r. only_kind r.op r.at d ≡ true) → stmt_kind_obeys B d ≡ true

  abbrev OfStmt : TStmt → Type 0
  OfStmt d = stmt_obeys in_range d ≡ true → EachRed reds (λ r. only_updates r.op r.at d ≡ true) → stmt_obeys B d ≡ true

  abbrev K : Type 0
  K = With TKind OfKind

  abbrev Z : Type 0
  Z = With TStmt OfStmt

  abbrev bare : TKind-F K Z → TKind-F TKind TStmt
  bare y = map-TKind K Z TKind TStmt (λ e. e.0) (λ p. p.0) y

  abbrev layer : Rules → TKind-F K Z → TKind-F (TKind × Bool) (TStmt × Bool)
  layer s y = map-TKind TKind TStmt (TKind × Bool) (TStmt × Bool) (λ d. (d, stmt_kind_obeys s d)) (λ d. (d, stmt_obeys s d)) (bare y)

  abbrev only : Red → TStmt → Bool
  only r d = only_updates r.op r.at d

  -- each of the reductions says both
  lefts : (f g : Red → Bool) → EachRed reds (λ r. (f r && g r) ≡ true) → EachRed reds (λ r. f r ≡ true)
  lefts f g h i r s = both_left (f r) (g r) (h i r s)

  rights : (f g : Red → Bool) → EachRed reds (λ r. (f r && g r) ≡ true) → EachRed reds (λ r. g r ≡ true)
  rights f g h i r s = both_right (f r) (g r) (h i r s)

  nots : (f : Red → Bool) → EachRed reds (λ r. not (f r) ≡ true) → EachRed reds (λ r. f r ≡ false)
  nots f h i r s = not_true (f r) (h i r s)

  bound_here : (test : Option TExpr) → bound_obeys in_range (bound_of test) ≡ true → EachRed reds (λ r. any_mentions r.at test ≡ false)
      → bound_obeys B (bound_of test) ≡ true
  bound_here test o m =
      sym (same (bound_of test))
      ∙ bound_of_obeys (IsAt reds) (base reds called) (permits reds called firsts) test o (watched reds called firsts (λ a. any_mentions a test) m)
    where
      same : (b : Bound) → bound_obeys (base reds called) b ≡ bound_obeys B b
      same (bound.Number n) = refl
      same (bound.Local k) = refl

  block : (zs : List Z) → each_obeys (map (λ d. (d, stmt_obeys in_range d)) (map (λ e. e.0) zs)) ≡ true
      → EachRed reds (λ r. list_all {X = TStmt × Bool} (λ s. s.1) (map (λ d. (d, only r d)) (map (λ e. e.0) zs)) ≡ true)
      → each_obeys (map (λ d. (d, stmt_obeys B d)) (map (λ e. e.0) zs)) ≡ true
  block [] o m = refl
  block (z ∷ zs) o m =
      let rest = λ (r : Red). list_all {X = TStmt × Bool} (λ s. s.1) (map (λ d. (d, only r d)) (map (λ e. e.0) zs)) in
      both (stmt_obeys B z.0) _ (z.1 (both_left (stmt_obeys in_range z.0) _ o) (lefts (λ r. only r z.0) rest m))
      (block zs (both_right (stmt_obeys in_range z.0) _ o) (rights (λ r. only r z.0) rest m))

  -- a part of a `for`, or none
  abbrev part : (TStmt → Bool) → Option Z → Bool
  part f (Some z) = f z.0
  part f None = true

  part_of : (z : Option Z) → part (stmt_obeys in_range) z ≡ true → EachRed reds (λ r. part (only r) z ≡ true) → part (stmt_obeys B) z ≡ true
  part_of (Some z) o m = z.1 o m
  part_of None o m = refl

  -- what the parts of a loop say
  record Parts (starts : Red → Bool) (f : Option Z) (t : Option TExpr) (g : Option Z) (b : Z) : Type 0 where
    pub plain : EachRed reds (λ r. starts r ≡ true)
    pub first : EachRed reds (λ r. part (only r) f ≡ true)
    pub test : EachRed reds (λ r. any_mentions r.at t ≡ false)
    pub third : EachRed reds (λ r. part (only r) g ≡ true)
    pub body : EachRed reds (λ r. only r b.0 ≡ true)

  parts : (plain : Red → Bool) (first : Option Z) (test : Option TExpr) (third : Option Z) (body : Z)
      → EachRed reds (λ r. ((((plain r && part (only r) first) && not (any_mentions r.at test)) && part (only r) third) && only r body.0) ≡ true)
      → Parts plain first test third body
  parts plain first test third body m =
      let p1 = λ (r : Red). plain r && part (only r) first in
      let p2 = λ (r : Red). p1 r && not (any_mentions r.at test) in
      let p3 = λ (r : Red). p2 r && part (only r) third in
      let m3 = lefts p3 (λ r. only r body.0) m in
      let m2 = lefts p2 (λ r. part (only r) third) m3 in
      let m1 = lefts p1 (λ r. not (any_mentions r.at test)) m2 in
      record {
        plain = lefts plain (λ r. part (only r) first) m1;
        first = rights plain (λ r. part (only r) first) m1;
        test = nots (λ r. any_mentions r.at test) (rights p1 (λ r. not (any_mentions r.at test)) m2);
        third = rights p2 (λ r. part (only r) third) m3;
        body = rights p3 (λ r. only r body.0) m;
      }

  -- an ordinary loop
  ordinary : (first : Option Z) (test : Option TExpr) (third : Option Z) (body : Z)
      → (part (stmt_obeys in_range) first && (any_obeys in_range test && (part (stmt_obeys in_range) third && stmt_obeys in_range body.0))) ≡ true
      → Parts (λ r. true) first test third body
      → (part (stmt_obeys B) first && (any_obeys B test && (part (stmt_obeys B) third && stmt_obeys B body.0))) ≡ true
  ordinary first test third body o p =
      let o1 = both_right (part (stmt_obeys in_range) first) _ o in
      let o2 = both_right (any_obeys in_range test) _ o1 in
      both (part (stmt_obeys B) first) _ (part_of first (both_left (part (stmt_obeys in_range) first) _ o) p.first)
      (both (any_obeys B test) _ (any_of reds called firsts test (both_left (any_obeys in_range test) _ o1) p.test)
      (both (part (stmt_obeys B) third) (stmt_obeys B body.0) (part_of third (both_left (part (stmt_obeys in_range) third) _ o2) p.third)
      (body.1 (both_right (part (stmt_obeys in_range) third) _ o2) p.body)))

  abbrev bare_part : Option Z → Option TStmt
  bare_part (Some z) = Some z.0
  bare_part None = None

  start_here : (first : Option Z) → start_obeys in_range (start_of (bare_part first)) ≡ true
      → EachRed reds (λ r. starts_other r.op r.at (start_of (bare_part first)) ≡ true)
      → EachRed reds (λ r. part (only r) first ≡ true) → start_obeys B (start_of (bare_part first)) ≡ true
  start_here (Some z) o h m = start_of_obeys reds called firsts z.0 o h m
  start_here None o h m = refl

  -- an annotated loop within the body
  annotated : (first : Option Z) (test : Option TExpr) (third : Option Z) (body : Z)
      → (start_obeys in_range (start_of (bare_part first)) && (bound_obeys in_range (bound_of test) && stmt_obeys in_range body.0)) ≡ true
      → Parts (λ r. starts_other r.op r.at (start_of (bare_part first))) first test third body
      → (start_obeys B (start_of (bare_part first)) && (bound_obeys B (bound_of test) && stmt_obeys B body.0)) ≡ true
  annotated first test third body o p =
      let o1 = both_right (start_obeys in_range (start_of (bare_part first))) _ o in
      both (start_obeys B (start_of (bare_part first))) _
      (start_here first (both_left (start_obeys in_range (start_of (bare_part first))) _ o) p.plain p.first)
      (both (bound_obeys B (bound_of test)) (stmt_obeys B body.0)
      (bound_here test (both_left (bound_obeys in_range (bound_of test)) _ o1) p.test)
      (body.1 (both_right (bound_obeys in_range (bound_of test)) _ o1) p.body))

  does_layer : (y : TKind-F K Z) → kind_obeys in_range (layer in_range y) ≡ true
      → EachRed reds (λ r. kind_only_updates r.op r.at (only_layer r.op r.at (bare y)) ≡ true) → kind_obeys B (layer B y) ≡ true
  does_layer TKind-F.Empty o m = refl
  does_layer (TKind-F.SetLocal k e) o m = set_local reds called firsts k e o m (red_index reds (Local k)) refl
  does_layer (TKind-F.Store p e) o m = store_at reds called firsts p e o m (red_of_place reds (out-TPlace p)) refl
  does_layer (TKind-F.UpdateLocal by k e) o m = update_local reds called firsts by k e o m (red_index reds (Local k)) refl
  does_layer (TKind-F.UpdateAt by p e) o m = update_at reds called firsts by p e o m (red_of_place reds (out-TPlace p)) refl
  does_layer (TKind-F.Call e) o m = expr_of reds called firsts e o (nots (λ r. mentions r.at e) m)
  does_layer (TKind-F.Print format es) o m = exprs_of reds called firsts es o (nots (λ r. list_any (mentions r.at) es) m)
  does_layer (TKind-F.If e a (Some b)) o m =
      let tests = λ (r : Red). not (mentions r.at e) in
      let m1 = lefts (λ r. tests r && only r a.0) (λ r. only r b.0) m in
      let o1 = both_right (obeys in_range e) _ o in
      both (obeys B e) _ (expr_of reds called firsts e (both_left (obeys in_range e) _ o) (nots (λ r. mentions r.at e) (lefts tests (λ r. only r a.0) m1)))
      (both (stmt_obeys B a.0) (stmt_obeys B b.0) (a.1 (both_left (stmt_obeys in_range a.0) _ o1) (rights tests (λ r. only r a.0) m1))
      (b.1 (both_right (stmt_obeys in_range a.0) _ o1) (rights (λ r. tests r && only r a.0) (λ r. only r b.0) m)))
  does_layer (TKind-F.If e a None) o m =
      let tests = λ (r : Red). not (mentions r.at e) in
      let m1 = lefts (λ r. tests r && only r a.0) (λ r. true) m in
      let o1 = both_right (obeys in_range e) _ o in
      both (obeys B e) _ (expr_of reds called firsts e (both_left (obeys in_range e) _ o) (nots (λ r. mentions r.at e) (lefts tests (λ r. only r a.0) m1)))
      (both (stmt_obeys B a.0) true (a.1 (both_left (stmt_obeys in_range a.0) _ o1) (rights tests (λ r. only r a.0) m1)) refl)
  does_layer (TKind-F.While e a) o m =
      both (obeys B e) (stmt_obeys B a.0)
      (expr_of reds called firsts e (both_left (obeys in_range e) _ o) (nots (λ r. mentions r.at e) (lefts (λ r. not (mentions r.at e)) (λ r. only r a.0) m)))
      (a.1 (both_right (obeys in_range e) _ o) (rights (λ r. not (mentions r.at e)) (λ r. only r a.0) m))
  does_layer (TKind-F.For (Some first) test (Some third) body None) o m =
      ordinary (Some first) test (Some third) body o (parts (λ r. true) (Some first) test (Some third) body m)
  does_layer (TKind-F.For (Some first) test None body None) o m =
      ordinary (Some first) test None body o (parts (λ r. true) (Some first) test None body m)
  does_layer (TKind-F.For None test (Some third) body None) o m =
      ordinary None test (Some third) body o (parts (λ r. true) None test (Some third) body m)
  does_layer (TKind-F.For None test None body None) o m =
      ordinary None test None body o (parts (λ r. true) None test None body m)
  does_layer (TKind-F.For (Some first) test (Some third) body (Some loop)) o m =
      annotated (Some first) test (Some third) body o (parts (λ r. starts_other r.op r.at (start_of (Some first.0))) (Some first) test (Some third) body m)
  does_layer (TKind-F.For (Some first) test None body (Some loop)) o m =
      annotated (Some first) test None body o (parts (λ r. starts_other r.op r.at (start_of (Some first.0))) (Some first) test None body m)
  does_layer (TKind-F.For None test (Some third) body (Some loop)) o m =
      annotated None test (Some third) body o (parts (λ r. true) None test (Some third) body m)
  does_layer (TKind-F.For None test None body (Some loop)) o m =
      annotated None test None body o (parts (λ r. true) None test None body m)
  does_layer (TKind-F.Block zs) o m = block zs o m
  does_layer (TKind-F.Return e) o m = any_of reds called firsts e o (nots (λ r. any_mentions r.at e) m)
  does_layer TKind-F.Break o m = refl
  does_layer TKind-F.Continue o m = refl

  kind_step : (y : TKind-F K Z) → OfKind (roll-TKind (bare y))
  unfolding stmt_obeys stmt_kind_obeys only_updates
  kind_step y o m =
      let is_o = λ (s : Rules). para-roll-TKind Bool Bool (kind_obeys s) (λ s. s.kind.1) (bare y) in
      is_o B ∙ does_layer y (sym (is_o in_range) ∙ o)
      (λ i r s. sym (para-roll-TKind Bool Bool (kind_only_updates r.op r.at) (λ s. s.kind.1) (bare y)) ∙ m i r s)

  stmt_step : (y : TStmt-F K Z) → OfStmt (roll-TStmt (map-TStmt K Z TKind TStmt (λ e. e.0) (λ p. p.0) y))
  unfolding stmt_obeys stmt_kind_obeys only_updates
  stmt_step y o m =
      let d = map-TStmt K Z TKind TStmt (λ e. e.0) (λ p. p.0) y in
      let is_o = λ (s : Rules). para-roll-TStmt Bool Bool (kind_obeys s) (λ s. s.kind.1) d in
      is_o B ∙ y.kind.1 (sym (is_o in_range) ∙ o) (λ i r s. sym (para-roll-TStmt Bool Bool (kind_only_updates r.op r.at) (λ s. s.kind.1) d) ∙ m i r s)

  -- a body with numbers of 64 bits
  pub updating_body_obeys : (d : TStmt) → OfStmt d
  updating_body_obeys = stmt_induct OfKind OfStmt kind_step stmt_step
