-- Functions that take the address of no shut global obey the rules that forbid it.
use Rattle.std.proofs.Common.{◌≡◌, ℕ, zero, suc, List, [], ◌∷◌, Some, Bool, true, false, ◌&&◌, ◌||◌, refl, sym, ap, ◌∙◌}
use Rattle.std.specs.Prelude.{not, ◌==◌, map, slice_get}
use Rattle.std.specs.List.{AllByRecursion, list_any}
use Rattle.std.proofs.Math.Bool.{true≢false}
use Rattle.std.proofs.lemmas.Bool.{eqb-false}
use Rattle.al_core.specs.declared.values.Addr.{Addr}
use Rattle.al_core.specs.declared.values.Addr.TheVariants.{Word}
use Rattle.al_core.specs.declared.values.Obj.TheVariants.{Global}
use Rattle.al_core.specs.declared.typed_tree.TExpr.{TExpr, map-TExpr, fold-roll-TExpr}
use Rattle.al_core.specs.declared.typed_tree.TExpr.TheViews.{roll-TExpr, roll-TPlace}
use Rattle.al_core.specs.declared.typed_tree.TPlace.{TPlace, map-TPlace, fold-roll-TPlace}
use Rattle.al_core.specs.declared.typed_tree.TExpr.TheOpen.{TExpr-F, TPlace-F}
use Rattle.al_core.specs.declared.typed_tree.TFunc.{TFunc}
use Rattle.al_core.specs.declared.typed_tree.TStmt.{TStmt}
use Rattle.al_core.specs.declared.typed_tree.Typed.{Typed}
use Rattle.al_core.specs.Accepted.{Terms, terms_of, expr_takes, place_takes, takes, takes_at, takes_in}
use Rattle.al_laws.proofs.Induction.{With, expr_induct, place_induct}
use Rattle.al_laws.proofs.Words.{same_some, some_none}
use Rattle.al_laws.proofs.Stays.{or_left, or_right}
use Rattle.al_rules.specs.WellFormed.{is_int_global}
use Rattle.al_graded_laws.specs.Rules.{Rules, every, expr_obeys, place_obeys, obeys, obeys_at, stmts_obey}
use Rattle.al_graded_laws.specs.InRange.{has_64_bits, in_range}
use Rattle.al_graded_laws.proofs.Graded.{both_left, both_right}
use Rattle.al_graded_laws.proofs.Watched.{outer_rules}
use Rattle.al_graded_laws.proofs.ObeyingTerms.{both, Spared, spared_obey}
use Rattle.al_kinds_laws.specs.Whole.{is_shut}

eq_itself : (e : ℕ) → (e == e) ≡ true
eq_itself e = elim (e == e) as (λ b. (e == e) ≡ b → b ≡ true) [ true ↦ λ t. refl | false ↦ λ t. absurd (eqb-false e e t refl) ] refl

true_or_false : (b : Bool) → (b ≡ false → ⊥) → b ≡ true
true_or_false true h = refl
true_or_false false h = absurd (h refl)

not_not : (b : Bool) → not b ≡ false → b ≡ true
not_not true h = refl
not_not false h = absurd (true≢false h)

first : {a b : Bool × Bool} → a ≡ b → a.0 ≡ b.0
first e = ap (λ z. z.0) e

second : {a b : Bool × Bool} → a ≡ b → a.1 ≡ b.1
second e = ap (λ z. z.1) e

module _ (shut : ℕ → Bool) where
  abbrev r : Rules
  r = outer_rules (λ k. not (shut k)) has_64_bits

  abbrev variable : ℕ → Addr
  variable k = Word (Global k) 0

  abbrev NoneOf : (ℕ → Bool) → Type 0
  NoneOf f = (k : ℕ) → shut k ≡ true → f k ≡ false

  abbrev pub Untaken : TExpr → Type 0
  Untaken e = NoneOf (λ k. takes (variable k) e)

  abbrev pub UntakenAt : TPlace → Type 0
  UntakenAt p = NoneOf (λ k. (takes_at (variable k) p).1)

  abbrev P : TExpr → Type 0
  P e = obeys in_range e ≡ true → Untaken e → obeys r e ≡ true

  -- a place whose address may not be taken lies in a shut global
  record LiesIn (taken : Bool) (lies : ℕ → Bool) : Type 0 where
    pub shuts : taken ≡ false → (k : ℕ) × (shut k ≡ true) × (lies k ≡ true)

  abbrev Q : TPlace → Type 0
  Q p = (obeys_at in_range p).0 ≡ true → UntakenAt p → ((obeys_at r p).0 ≡ true) × LiesIn (obeys_at r p).1 (λ k. (takes_at (variable k) p).0)

  abbrev E : Type 0
  E = With TExpr P

  abbrev Z : Type 0
  Z = With TPlace Q

  abbrev bare : TExpr-F E Z → TExpr-F TExpr TPlace
  bare y = map-TExpr E Z TExpr TPlace (λ e. e.0) (λ p. p.0) y

  abbrev bare_at : TPlace-F E Z → TPlace-F TExpr TPlace
  bare_at y = map-TPlace E Z TExpr TPlace (λ e. e.0) (λ p. p.0) y

  abbrev layer : Rules → TExpr-F E Z → TExpr-F Bool (Bool × Bool)
  layer s y = map-TExpr TExpr TPlace Bool (Bool × Bool) (obeys s) (obeys_at s) (bare y)

  abbrev taking : ℕ → TExpr-F E Z → TExpr-F Bool (Bool × Bool)
  taking k y = map-TExpr TExpr TPlace Bool (Bool × Bool) (takes (variable k)) (takes_at (variable k)) (bare y)

  abbrev layer_at : Rules → TPlace-F E Z → TPlace-F Bool (Bool × Bool)
  layer_at s y = map-TPlace TExpr TPlace Bool (Bool × Bool) (obeys s) (obeys_at s) (bare_at y)

  abbrev taking_at : ℕ → TPlace-F E Z → TPlace-F Bool (Bool × Bool)
  taking_at k y = map-TPlace TExpr TPlace Bool (Bool × Bool) (takes (variable k)) (takes_at (variable k)) (bare_at y)

  lefts : (f g : ℕ → Bool) → NoneOf (λ k. f k || g k) → NoneOf f
  lefts f g h k s = or_left (f k) (g k) (h k s)

  rights : (f g : ℕ → Bool) → NoneOf (λ k. f k || g k) → NoneOf g
  rights f g h k s = or_right (f k) (g k) (h k s)

  two : (x y : E) → (obeys in_range x.0 && obeys in_range y.0) ≡ true → NoneOf (λ k. takes (variable k) x.0 || takes (variable k) y.0)
      → (obeys r x.0 && obeys r y.0) ≡ true
  two x y o t =
      both (obeys r x.0) (obeys r y.0)
      (x.1 (both_left (obeys in_range x.0) (obeys in_range y.0) o) (lefts (λ k. takes (variable k) x.0) (λ k. takes (variable k) y.0) t))
      (y.1 (both_right (obeys in_range x.0) (obeys in_range y.0) o) (rights (λ k. takes (variable k) x.0) (λ k. takes (variable k) y.0) t))

  args : (es : List E) → every (map (obeys in_range) (map (λ e. e.0) es)) ≡ true
      → NoneOf (λ k. list_any (λ x. x) (map (takes (variable k)) (map (λ e. e.0) es))) → every (map (obeys r) (map (λ e. e.0) es)) ≡ true
  args [] o t = refl
  args (e ∷ es) o t =
      let rest = λ (k : ℕ). list_any (λ x. x) (map (takes (variable k)) (map (λ e. e.0) es)) in
      both (obeys r e.0) _ (e.1 (both_left (obeys in_range e.0) _ o) (lefts (λ k. takes (variable k) e.0) rest t))
      (args es (both_right (obeys in_range e.0) _ o) (rights (λ k. takes (variable k) e.0) rest t))

  -- where the address is taken the place lies in no shut global
  may_be_taken : (taken : Bool) (lies forms : ℕ → Bool) → LiesIn taken lies → NoneOf (λ k. lies k || forms k) → taken ≡ true
  may_be_taken taken lies forms l t =
      true_or_false taken (λ e. let k = l.shuts e in true≢false (sym k.2 ∙ or_left (lies k.0) (forms k.0) (t k.0 k.1)))

  expr_layer : (y : TExpr-F E Z) → expr_obeys in_range (layer in_range y) ≡ true → NoneOf (λ k. expr_takes (variable k) (taking k y))
      → expr_obeys r (layer r y) ≡ true
  expr_layer (TExpr-F.Number n) o t = o
  expr_layer (TExpr-F.Local k) o t = refl
  expr_layer (TExpr-F.Load want p) o t = (p.1 o t).0
  expr_layer (TExpr-F.Addr p) o t =
      let lies = λ (k : ℕ). (takes_at (variable k) p.0).0 in
      let forms = λ (k : ℕ). (takes_at (variable k) p.0).1 in
      let q = p.1 (both_left (obeys_at in_range p.0).0 (obeys_at in_range p.0).1 o) (rights lies forms t) in
      both (obeys_at r p.0).0 (obeys_at r p.0).1 q.0 (may_be_taken (obeys_at r p.0).1 lies forms q.1 t)
  expr_layer (TExpr-F.Unary op x) o t = x.1 o t
  expr_layer (TExpr-F.Binary op x y) o t = two x y o t
  expr_layer (TExpr-F.Same equal x y) o t = two x y o t
  expr_layer (TExpr-F.And x y) o t = two x y o t
  expr_layer (TExpr-F.Or x y) o t = two x y o t
  expr_layer (TExpr-F.Call f es) o t = args es o t
  expr_layer (TExpr-F.Input x) o t = x.1 o t
  expr_layer TExpr-F.Inputs o t = refl
  expr_layer (TExpr-F.Choose op x y) o t = two x y o t
  expr_layer (TExpr-F.Calloc x size) o t = x.1 o t
  expr_layer (TExpr-F.Free x) o t = x.1 o t

  place_layer : (y : TPlace-F E Z) → (place_obeys in_range (layer_at in_range y)).0 ≡ true → NoneOf (λ k. (place_takes (variable k) (taking_at k y)).1)
      → ((place_obeys r (layer_at r y)).0 ≡ true) × LiesIn (place_obeys r (layer_at r y)).1 (λ k. (place_takes (variable k) (taking_at k y)).0)
  place_layer (TPlace-F.Global j) o t = (refl, record { shuts = λ e. (j, not_not (shut j) e, eq_itself j) })
  place_layer (TPlace-F.At e) o t = (e.1 o t, record { shuts = λ f. absurd (true≢false f) })
  place_layer (TPlace-F.Plus p n) o t = p.1 o t
  place_layer (TPlace-F.Elem p e n) o t =
      let forms = λ (k : ℕ). (takes_at (variable k) p.0).1 in
      let q = p.1 (both_left (obeys_at in_range p.0).0 (obeys in_range e.0) o) (lefts forms (λ k. takes (variable k) e.0) t) in
      let i = e.1 (both_right (obeys_at in_range p.0).0 (obeys in_range e.0) o) (rights forms (λ k. takes (variable k) e.0) t) in
      (both (obeys_at r p.0).0 (obeys r e.0) q.0 i, q.1)

  expr_step : (y : TExpr-F E Z) → P (roll-TExpr (bare y))
  unfolding obeys obeys_at takes takes_at
  expr_step y o t =
      let d = bare y in
      fold-roll-TExpr Bool (Bool × Bool) (expr_obeys r) (place_obeys r) d
      ∙ expr_layer y (sym (fold-roll-TExpr Bool (Bool × Bool) (expr_obeys in_range) (place_obeys in_range) d) ∙ o)
      (λ k s. sym (fold-roll-TExpr Bool (Bool × Bool) (expr_takes (variable k)) (place_takes (variable k)) d) ∙ t k s)

  place_step : (y : TPlace-F E Z) → Q (roll-TPlace (bare_at y))
  unfolding obeys obeys_at takes takes_at
  place_step y o t =
      let d = bare_at y in
      let is = fold-roll-TPlace Bool (Bool × Bool) (expr_obeys r) (place_obeys r) d in
      let is_t = λ (k : ℕ). fold-roll-TPlace Bool (Bool × Bool) (expr_takes (variable k)) (place_takes (variable k)) d in
      let q = place_layer y (first (sym (fold-roll-TPlace Bool (Bool × Bool) (expr_obeys in_range) (place_obeys in_range) d)) ∙ o)
      (λ k s. second (sym (is_t k)) ∙ t k s) in (
        first is ∙ q.0,
        record { shuts = λ e. let k = q.1.shuts (second (sym is) ∙ e) in (k.0, k.1, first (is_t k.0) ∙ k.2) },
      )

  untaken_obeys : (e : TExpr) → P e
  untaken_obeys = expr_induct P Q expr_step place_step

  untaken_obeys_at : (p : TPlace) → Q p
  untaken_obeys_at = place_induct P Q expr_step place_step

  abbrev TakesNone : Terms → Type 0
  TakesNone = Spared r (λ k. refl) (λ n e. e) Untaken UntakenAt untaken_obeys (λ p o t. (untaken_obeys_at p o t).0)

  untaken_exprs : (es : List TExpr) → NoneOf (λ k. list_any (takes (variable k)) es) → AllByRecursion Untaken es
  untaken_exprs [] h = tt
  untaken_exprs (e ∷ es) h = (
    lefts (λ k. takes (variable k) e) (λ k. list_any (takes (variable k)) es) h,
    untaken_exprs es (rights (λ k. takes (variable k) e) (λ k. list_any (takes (variable k)) es) h),
  )

  untaken_places : (ps : List TPlace) → NoneOf (λ k. list_any (λ p. (takes_at (variable k) p).1) ps) → AllByRecursion UntakenAt ps
  untaken_places [] h = tt
  untaken_places (p ∷ ps) h =
      let this = λ (k : ℕ). (takes_at (variable k) p).1 in
      let rest = λ (k : ℕ). list_any (λ p. (takes_at (variable k) p).1) ps in
      (lefts this rest h, untaken_places ps (rights this rest h))

  takes_none : (t : Terms) → NoneOf (λ k. takes_in (variable k) t) → TakesNone t
  takes_none t h =
      let here = λ (k : ℕ). list_any (takes (variable k)) t.exprs in
      let there = λ (k : ℕ). list_any (λ p. (takes_at (variable k) p).1) t.places in
      record { exprs = untaken_exprs t.exprs (lefts here there h); places = untaken_places t.places (rights here there h) }

  pub untaken_obey : (ds : List TStmt) → stmts_obey in_range ds ≡ true → NoneOf (λ k. takes_in (variable k) (terms_of ds)) → stmts_obey r ds ≡ true
  untaken_obey ds o h =
      spared_obey r (λ k. refl) (λ n e. e) Untaken UntakenAt untaken_obeys (λ p o t. (untaken_obeys_at p o t).0) ds o (takes_none (terms_of ds) h)

-- ---- the shut globals of a program

none_at : (f : TFunc → Bool) (fs : List TFunc) (i : ℕ) (func : TFunc) → list_any f fs ≡ false → slice_get fs i ≡ Some func → f func ≡ false
none_at f [] i func h e = absurd (some_none func (sym e))
none_at f (g ∷ fs) zero func h e = ap f (sym (same_some g func e)) ∙ or_left (f g) (list_any f fs) h
none_at f (g ∷ fs) (suc i) func h e = none_at f fs i func (or_right (f g) (list_any f fs) h) e

not_true : (b : Bool) → not b ≡ true → b ≡ false
not_true true e = absurd (true≢false (sym e))
not_true false e = refl

module _ (typed : Typed) where
  abbrev any_takes : ℕ → Bool
  any_takes k = list_any (λ f. takes_in (Word (Global k) 0) (terms_of f.body)) typed.funcs

  pub shut_int : (k : ℕ) → is_shut typed k ≡ true → is_int_global (slice_get typed.globals k) ≡ true
  shut_int k s = both_left (is_int_global (slice_get typed.globals k)) (not (any_takes k)) s

  -- each function obeys
  pub functions_obey : (f : ℕ) (func : TFunc) → slice_get typed.funcs f ≡ Some func → stmts_obey in_range func.body ≡ true
      → stmts_obey (outer_rules (λ k. not (is_shut typed k)) has_64_bits) func.body ≡ true
  functions_obey f func is o =
      untaken_obey (is_shut typed) func.body o (λ k s.
      none_at (λ g. takes_in (Word (Global k) 0) (terms_of g.body)) typed.funcs f func
      (not_true (any_takes k) (both_right (is_int_global (slice_get typed.globals k)) (not (any_takes k)) s)) is)
