-- What mentions none of some addresses, with numbers of 64 bits, obeys rules that forbid no more.
use Rattle.std.proofs.Common.{◌≡◌, ℕ, List, [], ◌∷◌, Bool, true, false, ◌&&◌, ◌||◌, refl, sym, ap, ◌∙◌}
use Rattle.std.specs.Prelude.{ℤ, map}
use Rattle.std.specs.List.{list_any}
use Rattle.al_core.specs.declared.values.Addr.{Addr}
use Rattle.al_core.specs.declared.typed_tree.TExpr.{TExpr, map-TExpr, fold-roll-TExpr}
use Rattle.al_core.specs.declared.typed_tree.TExpr.TheViews.{roll-TExpr, roll-TPlace}
use Rattle.al_core.specs.declared.typed_tree.TPlace.{TPlace, map-TPlace, fold-roll-TPlace}
use Rattle.al_core.specs.declared.typed_tree.TExpr.TheOpen.{TExpr-F, TPlace-F}
use Rattle.al_core.specs.Accepted.{is_local, is_global, expr_mentions, place_mentions, mentions, mentions_at}
use Rattle.al_laws.proofs.Induction.{With, expr_induct, place_induct}
use Rattle.al_laws.proofs.Stays.{or_left, or_right}
use Rattle.al_graded_laws.specs.Rules.{Rules, every, expr_obeys, place_obeys, obeys, obeys_at}
use Rattle.al_graded_laws.specs.InRange.{has_64_bits, in_range}
use Rattle.al_graded_laws.proofs.Graded.{both_left, both_right}

pub both : (a b : Bool) → a ≡ true → b ≡ true → (a && b) ≡ true
both a b e f = ap (λ x. x && b) e ∙ f

-- the rules forbid no more than the addresses and other numbers
pub record Permits (Watched : Addr → Type 0) (r : Rules) : Type 0 where
  pub local : (k : ℕ) → ((a : Addr) → Watched a → is_local a k ≡ false) → r.local k ≡ true
  pub global : (k : ℕ) → ((a : Addr) → Watched a → is_global a k ≡ false) → r.global k ≡ true
  pub taken : (k : ℕ) → ((a : Addr) → Watched a → is_global a k ≡ false) → r.taken k ≡ true
  pub literal : (n : ℤ) → has_64_bits n ≡ true → r.literal n ≡ true

module _ (Watched : Addr → Type 0) (r : Rules) (permits : Permits Watched r) where
  abbrev pub Unmentioned : TExpr → Type 0
  Unmentioned e = (a : Addr) → Watched a → mentions a e ≡ false

  abbrev pub UnmentionedAt : TPlace → Type 0
  UnmentionedAt p = (a : Addr) → Watched a → mentions_at a p ≡ false

  abbrev P : TExpr → Type 0
  P e = obeys in_range e ≡ true → Unmentioned e → obeys r e ≡ true

  pub record ObeysAt (p : TPlace) : Type 0 where
    pub place : (obeys_at r p).0 ≡ true
    pub taken : (obeys_at r p).1 ≡ true

  abbrev Q : TPlace → Type 0
  Q p = (obeys_at in_range p).0 ≡ true → UnmentionedAt p → ObeysAt p

  abbrev E : Type 0
  E = With TExpr P

  abbrev Z : Type 0
  Z = With TPlace Q

  abbrev layer : Rules → TExpr-F E Z → TExpr-F Bool (Bool × Bool)
  layer s y = map-TExpr TExpr TPlace Bool (Bool × Bool) (obeys s) (obeys_at s) (map-TExpr E Z TExpr TPlace (λ e. e.0) (λ p. p.0) y)

  abbrev mentioned : Addr → TExpr-F E Z → TExpr-F Bool Bool
  mentioned a y = map-TExpr TExpr TPlace Bool Bool (mentions a) (mentions_at a) (map-TExpr E Z TExpr TPlace (λ e. e.0) (λ p. p.0) y)

  abbrev layer_at : Rules → TPlace-F E Z → TPlace-F Bool (Bool × Bool)
  layer_at s y = map-TPlace TExpr TPlace Bool (Bool × Bool) (obeys s) (obeys_at s) (map-TPlace E Z TExpr TPlace (λ e. e.0) (λ p. p.0) y)

  abbrev mentioned_at : Addr → TPlace-F E Z → TPlace-F Bool Bool
  mentioned_at a y = map-TPlace TExpr TPlace Bool Bool (mentions a) (mentions_at a) (map-TPlace E Z TExpr TPlace (λ e. e.0) (λ p. p.0) y)

  -- ---- a layer of an expression

  abbrev None : (Addr → Bool) → Type 0
  None f = (a : Addr) → Watched a → f a ≡ false

  lefts : (f g : Addr → Bool) → None (λ a. f a || g a) → None f
  lefts f g h a w = or_left (f a) (g a) (h a w)

  rights : (f g : Addr → Bool) → None (λ a. f a || g a) → None g
  rights f g h a w = or_right (f a) (g a) (h a w)

  two : (x y : E) → (obeys in_range x.0 && obeys in_range y.0) ≡ true → None (λ a. mentions a x.0 || mentions a y.0) → (obeys r x.0 && obeys r y.0) ≡ true
  two x y o m =
      both (obeys r x.0) (obeys r y.0) (x.1 (both_left (obeys in_range x.0) (obeys in_range y.0) o) (lefts (λ a. mentions a x.0) (λ a. mentions a y.0) m))
      (y.1 (both_right (obeys in_range x.0) (obeys in_range y.0) o) (rights (λ a. mentions a x.0) (λ a. mentions a y.0) m))

  args : (es : List E) → every (map (obeys in_range) (map (λ e. e.0) es)) ≡ true
      → None (λ a. list_any (λ x. x) (map (mentions a) (map (λ e. e.0) es))) → every (map (obeys r) (map (λ e. e.0) es)) ≡ true
  args [] o m = refl
  args (e ∷ es) o m =
      let rest = λ (a : Addr). list_any (λ x. x) (map (mentions a) (map (λ e. e.0) es)) in
      both (obeys r e.0) (every (map (obeys r) (map (λ e. e.0) es)))
      (e.1 (both_left (obeys in_range e.0) _ o) (lefts (λ a. mentions a e.0) rest m))
      (args es (both_right (obeys in_range e.0) _ o) (rights (λ a. mentions a e.0) rest m))

  expr_layer : (y : TExpr-F E Z) → expr_obeys in_range (layer in_range y) ≡ true → None (λ a. expr_mentions a (mentioned a y))
      → expr_obeys r (layer r y) ≡ true
  expr_layer (TExpr-F.Number n) o m = permits.literal n o
  expr_layer (TExpr-F.Local k) o m = permits.local k m
  expr_layer (TExpr-F.Load want p) o m = (p.1 o m).place
  expr_layer (TExpr-F.Addr p) o m =
      let k = p.1 (both_left (obeys_at in_range p.0).0 (obeys_at in_range p.0).1 o) m in
      both (obeys_at r p.0).0 (obeys_at r p.0).1 k.place k.taken
  expr_layer (TExpr-F.Unary op x) o m = x.1 o m
  expr_layer (TExpr-F.Binary op x y) o m = two x y o m
  expr_layer (TExpr-F.Same equal x y) o m = two x y o m
  expr_layer (TExpr-F.And x y) o m = two x y o m
  expr_layer (TExpr-F.Or x y) o m = two x y o m
  expr_layer (TExpr-F.Call f es) o m = args es o m
  expr_layer (TExpr-F.Input x) o m = x.1 o m
  expr_layer TExpr-F.Inputs o m = refl
  expr_layer (TExpr-F.Choose op x y) o m = two x y o m
  expr_layer (TExpr-F.Calloc x size) o m = x.1 o m
  expr_layer (TExpr-F.Free x) o m = x.1 o m

  record Layer (b : Bool × Bool) : Type 0 where
    pub place : b.0 ≡ true
    pub taken : b.1 ≡ true

  place_layer : (y : TPlace-F E Z) → (place_obeys in_range (layer_at in_range y)).0 ≡ true → None (λ a. place_mentions a (mentioned_at a y))
      → Layer (place_obeys r (layer_at r y))
  place_layer (TPlace-F.Global k) o m = record { place = permits.global k m; taken = permits.taken k m }
  place_layer (TPlace-F.At e) o m = record { place = e.1 o m; taken = refl }
  place_layer (TPlace-F.Plus p n) o m = let k = p.1 o m in record { place = k.place; taken = k.taken }
  place_layer (TPlace-F.Elem p e n) o m =
      let k = p.1 (both_left (obeys_at in_range p.0).0 (obeys in_range e.0) o) (lefts (λ a. mentions_at a p.0) (λ a. mentions a e.0) m) in
      let i = e.1 (both_right (obeys_at in_range p.0).0 (obeys in_range e.0) o) (rights (λ a. mentions_at a p.0) (λ a. mentions a e.0) m) in
      record { place = both (obeys_at r p.0).0 (obeys r e.0) k.place i; taken = k.taken }

  expr_step : (y : TExpr-F E Z) → P (roll-TExpr (map-TExpr E Z TExpr TPlace (λ e. e.0) (λ p. p.0) y))
  unfolding obeys obeys_at mentions mentions_at
  expr_step y o m =
      let d = map-TExpr E Z TExpr TPlace (λ e. e.0) (λ p. p.0) y in
      fold-roll-TExpr Bool (Bool × Bool) (expr_obeys r) (place_obeys r) d
      ∙ expr_layer y (sym (fold-roll-TExpr Bool (Bool × Bool) (expr_obeys in_range) (place_obeys in_range) d) ∙ o)
      (λ a w. sym (fold-roll-TExpr Bool Bool (expr_mentions a) (place_mentions a) d) ∙ m a w)

  place_step : (y : TPlace-F E Z) → Q (roll-TPlace (map-TPlace E Z TExpr TPlace (λ e. e.0) (λ p. p.0) y))
  unfolding obeys obeys_at mentions mentions_at
  place_step y o m =
      let d = map-TPlace E Z TExpr TPlace (λ e. e.0) (λ p. p.0) y in
      let is = fold-roll-TPlace Bool (Bool × Bool) (expr_obeys r) (place_obeys r) d in
      let k = place_layer y (ap (λ b. b.0) (sym (fold-roll-TPlace Bool (Bool × Bool) (expr_obeys in_range) (place_obeys in_range) d)) ∙ o)
      (λ a w. sym (fold-roll-TPlace Bool Bool (expr_mentions a) (place_mentions a) d) ∙ m a w) in
      record { place = ap (λ b. b.0) is ∙ k.place; taken = ap (λ b. b.1) is ∙ k.taken }

  pub unmentioned_obeys : (e : TExpr) → P e
  unmentioned_obeys = expr_induct P Q expr_step place_step

  pub unmentioned_obeys_at : (p : TPlace) → Q p
  unmentioned_obeys_at = place_induct P Q expr_step place_step
