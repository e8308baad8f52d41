-- What is asked of the uses of expressions and places is what the rules ask of them.
use Rattle.std.proofs.Common.{◌≡◌, ℕ, List, [], ◌∷◌, ◌++◌, map, Option, Some, None, refl, ap, ◌∙◌}
use Rattle.std.proofs.lemmas.List.{append-nil}
use Rattle.std.proofs.lemmas.List.Folds.{list_any-append}
use Rattle.std.proofs.lemmas.Grind.{flat_map-append}
use Rattle.std.specs.Prelude.{Bool, true, false, ◌||◌}
use Rattle.std.specs.List.{list_any, flat_map}
use Rattle.al_core.specs.declared.typed_tree.TExpr.{TExpr, map-TExpr, fold-TExpr, fold-roll-TExpr}
use Rattle.al_core.specs.declared.typed_tree.TPlace.{TPlace, map-TPlace, fold-TPlace, fold-roll-TPlace}
use Rattle.al_core.specs.declared.typed_tree.TExpr.TheOpen.{TExpr-F, TPlace-F}
use Rattle.al_core.specs.declared.typed_tree.TExpr.TheViews.{roll-TExpr, roll-TPlace}
use Rattle.al_core.specs.declared.values.Addr.{Addr}
use Rattle.al_core.specs.Accepted.{is_global, expr_mentions, place_mentions, mentions, mentions_at, expr_takes, place_takes, takes, takes_at, all_called, expr_calls, place_calls, calls, calls_at}
use Rattle.al_rules.specs.Candidates.{all_of, expr_names, place_names, names, names_at}
use Rattle.al_loop_notes.specs.declared.uses.Use.{Use}
use Rattle.al_loop_notes.specs.declared.uses.Use.TheVariants as one
use Rattle.al_loop_notes.specs.Uses.{Formed, address_in, expr_uses, place_uses, uses, uses_at, is_mention, is_address, variable_of, callee_of, callees}
use Rattle.al_loop_notes.proofs.Induction.{With, expr_induct, place_induct, expr_fused, place_fused}

or_false : (a : Bool) → (a || false) ≡ a
or_false true = refl
or_false false = refl

or_swap : (a b : Bool) → (a || b) ≡ (b || a)
or_swap true true = refl
or_swap true false = refl
or_swap false true = refl
or_swap false false = refl

-- the uses of a list of expressions
pub all_any : (t : Use → Bool) (xs : List (List Use)) → list_any t (all_of xs) ≡ list_any (λ b. b) (map (list_any t) xs)
all_any t [] = refl
all_any t (x ∷ xs) = list_any-append t x (all_of xs) ∙ ap (λ b. list_any t x || b) (all_any t xs)

pub all_picked : {A : Type 0} (h : Use → List A) (xs : List (List Use)) → flat_map h (all_of xs) ≡ all_of (map (flat_map h) xs)
all_picked h [] = refl
all_picked h (x ∷ xs) = flat_map-append h x (all_of xs) ∙ ap (λ l. flat_map h x ++ l) (all_picked h xs)

all_called_too : (xs : List (List Use)) → callees (all_of xs) ≡ all_called (map callees xs)
all_called_too [] = refl
all_called_too (x ∷ xs) = flat_map-append callee_of x (all_of xs) ∙ ap (λ l. callees x ++ l) (all_called_too xs)

-- ---- mentions

module _ (a : Addr) where
  abbrev pub any_mention : List Use → Bool
  any_mention = list_any (is_mention a)

  addressed_mentions : (us : List Use) (o : Option ℕ) → any_mention (us ++ address_in o) ≡ any_mention us
  addressed_mentions us None = list_any-append (is_mention a) us [] ∙ or_false (any_mention us)
  addressed_mentions us (Some k) = list_any-append (is_mention a) us (one.Address k ∷ []) ∙ or_false (any_mention us)

  mentions_expr : (x : TExpr-F (List Use) Formed)
      → any_mention (expr_uses x) ≡ expr_mentions a (map-TExpr (List Use) Formed Bool Bool any_mention (λ p. any_mention p.1) x)
  mentions_expr (TExpr-F.Number n) = refl
  mentions_expr (TExpr-F.Local k) = or_false (is_mention a (one.Local k))
  mentions_expr (TExpr-F.Load want p) = refl
  mentions_expr (TExpr-F.Addr p) = addressed_mentions p.1 p.0
  mentions_expr (TExpr-F.Unary op x) = refl
  mentions_expr (TExpr-F.Binary op x y) = list_any-append (is_mention a) x y
  mentions_expr (TExpr-F.Same equal x y) = list_any-append (is_mention a) x y
  mentions_expr (TExpr-F.And x y) = list_any-append (is_mention a) x y
  mentions_expr (TExpr-F.Or x y) = list_any-append (is_mention a) x y
  mentions_expr (TExpr-F.Call f xs) = all_any (is_mention a) xs
  mentions_expr (TExpr-F.Input x) = refl
  mentions_expr TExpr-F.Inputs = refl
  mentions_expr (TExpr-F.Choose op x y) = list_any-append (is_mention a) x y
  mentions_expr (TExpr-F.Calloc x size) = refl
  mentions_expr (TExpr-F.Free x) = refl

  mentions_place : (x : TPlace-F (List Use) Formed)
      → any_mention (place_uses x).1 ≡ place_mentions a (map-TPlace (List Use) Formed Bool Bool any_mention (λ p. any_mention p.1) x)
  mentions_place (TPlace-F.Global k) = or_false (is_mention a (one.Global k))
  mentions_place (TPlace-F.At x) = refl
  mentions_place (TPlace-F.Plus p n) = refl
  mentions_place (TPlace-F.Elem p x n) = list_any-append (is_mention a) p.1 x

  pub uses_mention : (e : TExpr) → any_mention (uses e) ≡ mentions a e
  unfolding uses mentions
  uses_mention = expr_fused expr_uses place_uses any_mention (λ p. any_mention p.1) (expr_mentions a) (place_mentions a) mentions_expr mentions_place

  pub uses_at_mention : (p : TPlace) → any_mention (uses_at p).1 ≡ mentions_at a p
  unfolding uses_at mentions_at
  uses_at_mention = place_fused expr_uses place_uses any_mention (λ p. any_mention p.1) (expr_mentions a) (place_mentions a) mentions_expr mentions_place

-- ---- addresses

module _ (a : Addr) where
  abbrev pub any_address : List Use → Bool
  any_address = list_any (is_address a)

  lies : Option ℕ → Bool
  lies (Some k) = is_global a k
  lies None = false

  abbrev formed : Formed → Bool × Bool
  formed p = (lies p.0, any_address p.1)

  addressed_takes : (us : List Use) (o : Option ℕ) → any_address (us ++ address_in o) ≡ (lies o || any_address us)
  unfolding lies
  addressed_takes us None = list_any-append (is_address a) us [] ∙ or_false (any_address us)
  addressed_takes us (Some k) =
      list_any-append (is_address a) us (one.Address k ∷ []) ∙ ap (λ b. any_address us || b) (or_false (is_global a k))
      ∙ or_swap (any_address us) (is_global a k)

  takes_expr : (x : TExpr-F (List Use) Formed)
      → any_address (expr_uses x) ≡ expr_takes a (map-TExpr (List Use) Formed Bool (Bool × Bool) any_address formed x)
  takes_expr (TExpr-F.Number n) = refl
  takes_expr (TExpr-F.Local k) = refl
  takes_expr (TExpr-F.Load want p) = refl
  takes_expr (TExpr-F.Addr p) = addressed_takes p.1 p.0
  takes_expr (TExpr-F.Unary op x) = refl
  takes_expr (TExpr-F.Binary op x y) = list_any-append (is_address a) x y
  takes_expr (TExpr-F.Same equal x y) = list_any-append (is_address a) x y
  takes_expr (TExpr-F.And x y) = list_any-append (is_address a) x y
  takes_expr (TExpr-F.Or x y) = list_any-append (is_address a) x y
  takes_expr (TExpr-F.Call f xs) = all_any (is_address a) xs
  takes_expr (TExpr-F.Input x) = refl
  takes_expr TExpr-F.Inputs = refl
  takes_expr (TExpr-F.Choose op x y) = list_any-append (is_address a) x y
  takes_expr (TExpr-F.Calloc x size) = refl
  takes_expr (TExpr-F.Free x) = refl

  takes_place : (x : TPlace-F (List Use) Formed)
      → formed (place_uses x) ≡ place_takes a (map-TPlace (List Use) Formed Bool (Bool × Bool) any_address formed x)
  unfolding lies
  takes_place (TPlace-F.Global k) = refl
  takes_place (TPlace-F.At x) = refl
  takes_place (TPlace-F.Plus p n) = refl
  takes_place (TPlace-F.Elem p x n) = ap (λ b. (lies p.0, b)) (list_any-append (is_address a) p.1 x)

  pub uses_take : (e : TExpr) → any_address (uses e) ≡ takes a e
  unfolding uses takes
  uses_take = expr_fused expr_uses place_uses any_address formed (expr_takes a) (place_takes a) takes_expr takes_place

  pub uses_at_take : (p : TPlace) → any_address (uses_at p).1 ≡ (takes_at a p).1
  unfolding uses_at takes_at
  uses_at_take p = ap (λ r. r.1) (place_fused expr_uses place_uses any_address formed (expr_takes a) (place_takes a) takes_expr takes_place p)

-- ---- calls

addressed_calls : (us : List Use) (o : Option ℕ) → callees (us ++ address_in o) ≡ callees us
addressed_calls us None = ap callees (append-nil us)
addressed_calls us (Some k) = flat_map-append callee_of us (one.Address k ∷ []) ∙ append-nil (callees us)

calls_expr : (x : TExpr-F (List Use) Formed)
    → callees (expr_uses x) ≡ expr_calls (map-TExpr (List Use) Formed (List ℕ) (List ℕ) callees (λ p. callees p.1) x)
calls_expr (TExpr-F.Number n) = refl
calls_expr (TExpr-F.Local k) = refl
calls_expr (TExpr-F.Load want p) = refl
calls_expr (TExpr-F.Addr p) = addressed_calls p.1 p.0
calls_expr (TExpr-F.Unary op x) = refl
calls_expr (TExpr-F.Binary op x y) = flat_map-append callee_of x y
calls_expr (TExpr-F.Same equal x y) = flat_map-append callee_of x y
calls_expr (TExpr-F.And x y) = flat_map-append callee_of x y
calls_expr (TExpr-F.Or x y) = flat_map-append callee_of x y
calls_expr (TExpr-F.Call f xs) = ap (λ l. f ∷ l) (all_called_too xs)
calls_expr (TExpr-F.Input x) = refl
calls_expr TExpr-F.Inputs = refl
calls_expr (TExpr-F.Choose op x y) = flat_map-append callee_of x y
calls_expr (TExpr-F.Calloc x size) = refl
calls_expr (TExpr-F.Free x) = refl

calls_place : (x : TPlace-F (List Use) Formed)
    → callees (place_uses x).1 ≡ place_calls (map-TPlace (List Use) Formed (List ℕ) (List ℕ) callees (λ p. callees p.1) x)
calls_place (TPlace-F.Global k) = refl
calls_place (TPlace-F.At x) = refl
calls_place (TPlace-F.Plus p n) = refl
calls_place (TPlace-F.Elem p x n) = flat_map-append callee_of p.1 x

pub uses_call : (e : TExpr) → callees (uses e) ≡ calls e
unfolding uses calls
uses_call = expr_fused expr_uses place_uses callees (λ p. callees p.1) expr_calls place_calls calls_expr calls_place

pub uses_at_call : (p : TPlace) → callees (uses_at p).1 ≡ calls_at p
unfolding uses_at calls_at
uses_at_call = place_fused expr_uses place_uses callees (λ p. callees p.1) expr_calls place_calls calls_expr calls_place

-- ---- variables

abbrev pub variables_of : List Use → List Addr
variables_of = flat_map variable_of

addressed_names : (us : List Use) (o : Option ℕ) → variables_of (us ++ address_in o) ≡ variables_of us
addressed_names us None = ap variables_of (append-nil us)
addressed_names us (Some k) = flat_map-append variable_of us (one.Address k ∷ []) ∙ append-nil (variables_of us)

names_expr : (x : TExpr-F (List Use) Formed)
    → variables_of (expr_uses x) ≡ expr_names (map-TExpr (List Use) Formed (List Addr) (List Addr) variables_of (λ p. variables_of p.1) x)
names_expr (TExpr-F.Number n) = refl
names_expr (TExpr-F.Local k) = refl
names_expr (TExpr-F.Load want p) = refl
names_expr (TExpr-F.Addr p) = addressed_names p.1 p.0
names_expr (TExpr-F.Unary op x) = refl
names_expr (TExpr-F.Binary op x y) = flat_map-append variable_of x y
names_expr (TExpr-F.Same equal x y) = flat_map-append variable_of x y
names_expr (TExpr-F.And x y) = flat_map-append variable_of x y
names_expr (TExpr-F.Or x y) = flat_map-append variable_of x y
names_expr (TExpr-F.Call f xs) = all_picked variable_of xs
names_expr (TExpr-F.Input x) = refl
names_expr TExpr-F.Inputs = refl
names_expr (TExpr-F.Choose op x y) = flat_map-append variable_of x y
names_expr (TExpr-F.Calloc x size) = refl
names_expr (TExpr-F.Free x) = refl

names_place : (x : TPlace-F (List Use) Formed)
    → variables_of (place_uses x).1 ≡ place_names (map-TPlace (List Use) Formed (List Addr) (List Addr) variables_of (λ p. variables_of p.1) x)
names_place (TPlace-F.Global k) = refl
names_place (TPlace-F.At x) = refl
names_place (TPlace-F.Plus p n) = refl
names_place (TPlace-F.Elem p x n) = flat_map-append variable_of p.1 x

pub uses_name : (e : TExpr) → variables_of (uses e) ≡ names e
unfolding uses names
uses_name = expr_fused expr_uses place_uses variables_of (λ p. variables_of p.1) expr_names place_names names_expr names_place

pub uses_at_name : (p : TPlace) → variables_of (uses_at p).1 ≡ names_at p
unfolding uses_at names_at
uses_at_name = place_fused expr_uses place_uses variables_of (λ p. variables_of p.1) expr_names place_names names_expr names_place

-- ---- what only statements do

-- a test that no use in an expression passes
pub record IsOfStatements (t : Use → Bool) : Type 0 where
  pub no_local : (k : ℕ) → t (one.Local k) ≡ false
  pub no_global : (k : ℕ) → t (one.Global k) ≡ false
  pub no_address : (k : ℕ) → t (one.Address k) ≡ false
  pub no_call : (f : ℕ) → t (one.Call f) ≡ false

module _ (t : Use → Bool) (outside : IsOfStatements t) where
  abbrev OfExpr : TExpr → Type 0
  OfExpr e = list_any t (fold-TExpr (List Use) Formed expr_uses place_uses e) ≡ false

  abbrev OfPlace : TPlace → Type 0
  OfPlace p = list_any t (fold-TPlace (List Use) Formed expr_uses place_uses p).1 ≡ false

  abbrev expr_it : TExpr → List Use
  expr_it = fold-TExpr (List Use) Formed expr_uses place_uses

  abbrev place_it : TPlace → Formed
  place_it = fold-TPlace (List Use) Formed expr_uses place_uses

  abbrev kept : TExpr-F (With TExpr OfExpr) (With TPlace OfPlace) → TExpr-F TExpr TPlace
  kept = map-TExpr (With TExpr OfExpr) (With TPlace OfPlace) TExpr TPlace (λ a. a.0) (λ a. a.0)

  abbrev kept_at : TPlace-F (With TExpr OfExpr) (With TPlace OfPlace) → TPlace-F TExpr TPlace
  kept_at = map-TPlace (With TExpr OfExpr) (With TPlace OfPlace) TExpr TPlace (λ a. a.0) (λ a. a.0)

  one_use : (u : Use) → t u ≡ false → list_any t (u ∷ []) ≡ false
  one_use u is = or_false (t u) ∙ is

  both : (x y : List Use) → list_any t x ≡ false → list_any t y ≡ false → list_any t (x ++ y) ≡ false
  both x y f g = list_any-append t x y ∙ ap (λ b. b || list_any t y) f ∙ g

  addressed : (us : List Use) (o : Option ℕ) → list_any t us ≡ false → list_any t (us ++ address_in o) ≡ false
  addressed us None is = both us [] is refl
  addressed us (Some k) is = both us (one.Address k ∷ []) is (one_use (one.Address k) (outside.no_address k))

  each : (xs : List (With TExpr OfExpr)) → list_any t (all_of (map expr_it (map (λ a. a.0) xs))) ≡ false
  each [] = refl
  each (x ∷ xs) = both (expr_it x.0) (all_of (map expr_it (map (λ a. a.0) xs))) x.1 (each xs)

  at_expr : (y : TExpr-F (With TExpr OfExpr) (With TPlace OfPlace))
      → list_any t (expr_uses (map-TExpr TExpr TPlace (List Use) Formed expr_it place_it (kept y))) ≡ false
  at_expr (TExpr-F.Number n) = refl
  at_expr (TExpr-F.Local k) = one_use (one.Local k) (outside.no_local k)
  at_expr (TExpr-F.Load want p) = p.1
  at_expr (TExpr-F.Addr p) = addressed (place_it p.0).1 (place_it p.0).0 p.1
  at_expr (TExpr-F.Unary op x) = x.1
  at_expr (TExpr-F.Binary op x y) = both (expr_it x.0) (expr_it y.0) x.1 y.1
  at_expr (TExpr-F.Same equal x y) = both (expr_it x.0) (expr_it y.0) x.1 y.1
  at_expr (TExpr-F.And x y) = both (expr_it x.0) (expr_it y.0) x.1 y.1
  at_expr (TExpr-F.Or x y) = both (expr_it x.0) (expr_it y.0) x.1 y.1
  at_expr (TExpr-F.Call f xs) = both (one.Call f ∷ []) (all_of (map expr_it (map (λ a. a.0) xs))) (one_use (one.Call f) (outside.no_call f)) (each xs)
  at_expr (TExpr-F.Input x) = x.1
  at_expr TExpr-F.Inputs = refl
  at_expr (TExpr-F.Choose op x y) = both (expr_it x.0) (expr_it y.0) x.1 y.1
  at_expr (TExpr-F.Calloc x size) = x.1
  at_expr (TExpr-F.Free x) = x.1

  at_place : (y : TPlace-F (With TExpr OfExpr) (With TPlace OfPlace))
      → list_any t (place_uses (map-TPlace TExpr TPlace (List Use) Formed expr_it place_it (kept_at y))).1 ≡ false
  at_place (TPlace-F.Global k) = one_use (one.Global k) (outside.no_global k)
  at_place (TPlace-F.At x) = x.1
  at_place (TPlace-F.Plus p n) = p.1
  at_place (TPlace-F.Elem p x n) = both (place_it p.0).1 (expr_it x.0) p.1 x.1

  expr_node : (y : TExpr-F (With TExpr OfExpr) (With TPlace OfPlace)) → OfExpr (roll-TExpr (kept y))
  expr_node y = ap (list_any t) (fold-roll-TExpr (List Use) Formed expr_uses place_uses (kept y)) ∙ at_expr y

  place_node : (y : TPlace-F (With TExpr OfExpr) (With TPlace OfPlace)) → OfPlace (roll-TPlace (kept_at y))
  place_node y = ap (λ (p : Formed). list_any t p.1) (fold-roll-TPlace (List Use) Formed expr_uses place_uses (kept_at y)) ∙ at_place y

  pub none_in_expr : (e : TExpr) → list_any t (uses e) ≡ false
  unfolding uses
  none_in_expr = expr_induct OfExpr OfPlace expr_node place_node

  pub none_at_place : (p : TPlace) → list_any t (uses_at p).1 ≡ false
  unfolding uses_at
  none_at_place = place_induct OfExpr OfPlace expr_node place_node
