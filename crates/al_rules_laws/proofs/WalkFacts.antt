-- What a walk that comes to an end says of its steps.
use Rattle.std.proofs.Common.{◌≡◌, ℕ, List, [], ◌∷◌, ◌++◌, map, length, Result, Ok, Err, slice_get, refl, sym, ap, ◌∙◌}
use Rattle.al_source.specs.Steps.{and_then}
use Rattle.al_source.specs.declared.source_tree.CType.{CType}
use Rattle.al_core.specs.declared.choices.Choice.{Choice}
use Rattle.al_rules.specs.declared.faults.TypeCause.{TypeCause}
use Rattle.al_rules.specs.declared.faults.TypeKind.{TypeKind}
use Rattle.al_rules.specs.Names.{Name}
use Rattle.al_rules.specs.Checks.{Checked}
use Rattle.al_rules.specs.Scopes.{Scope, nested, with_binding}
use Rattle.al_rules.specs.Walks.{Progress, Walk, at_line, bind, pure, checks, lift, fails, get_scope, set_scope, add_local, local_of, with_end, begin_loop, end_loop, within}
use Rattle.al_rules.specs.StatementRules as r
use Rattle.al_rules_laws.proofs.NameFacts.{field_of_binding}

-- a walk that ends with this value and this progress
abbrev pub Ends : {A : Type 0} → Result (A × Progress) TypeCause → A × Progress → Type 0
Ends {A = A} told r = told ≡ Ok r

-- ---- what a step leaves

abbrev pub added : Name → CType → Progress → Progress
added name a s = record s {
  scope = with_binding (record { name = name; number = length s.locals; ty = a }) s.scope;
  locals = s.locals ++ local_of name a ∷ [];
}

abbrev pub begun_loop : ℕ → ℕ → Choice → Progress → Progress
begun_loop func line own s = record s {
  loops = s.loops ++ record { func = func; line = line; own = own; first = length s.locals; last = length s.locals } ∷ [];
}

abbrev pub ended_loop : ℕ → Progress → Progress
ended_loop number s = record s { loops = with_end s.loops number (length s.locals) (slice_get s.loops number) }

abbrev pub scoped : Progress → Scope → Progress
scoped s scope = record s { scope = scope }

-- ---- steps

module _ {A B : Type 0} where
  pub bind_ends : (p : Walk A) (f : A → Walk B) (s : Progress) (r : B × Progress) → Ends (bind p f s) r → (q : A × Progress) × Ends (p s) q × Ends (f q.0 q.1) r
  unfolding bind
  bind_ends p f s r e = by (p s) refl e
    where
      by : (t : Result (A × Progress) TypeCause) → p s ≡ t → and_then t (λ q. f q.0 q.1) ≡ Ok r → (q : A × Progress) × Ends (p s) q × Ends (f q.0 q.1) r
      by (Ok q) is e = (q, is, e)
      by (Err x) is e = absurd cc

  pub checks_ends : (line : ℕ) (c : Scope → Checked A) (f : A → Walk B) (s : Progress) (r : B × Progress) → Ends (bind (checks line c) f s) r
      → (a : A) × (c s.scope ≡ Ok a) × Ends (f a s) r
  unfolding bind checks
  checks_ends line c f s r e = by (c s.scope) refl e
    where
      by : (t : Checked A) → c s.scope ≡ t → and_then (and_then {B = A × Progress} (at_line line t) (λ a. Ok (a, s))) (λ q. f q.0 q.1) ≡ Ok r
          → (a : A) × (c s.scope ≡ Ok a) × Ends (f a s) r
      by (Ok a) is e = (a, is, e)
      by (Err k) is e = absurd cc

  pub lift_ends : (line : ℕ) (c : Checked A) (f : A → Walk B) (s : Progress) (r : B × Progress) → Ends (bind (lift line c) f s) r
      → (a : A) × (c ≡ Ok a) × Ends (f a s) r
  lift_ends line c f s r e = checks_ends line (λ _. c) f s r e

  pub assoc : {C : Type 0} (p : Walk A) (f : A → Walk B) (k : B → Walk C) (s : Progress) → bind (bind p f) k s ≡ bind p (λ a. bind (f a) k) s
  unfolding bind
  assoc {C = C} p f k s = by (p s)
    where
      by : (t : Result (A × Progress) TypeCause)
          → and_then (and_then t (λ q. f q.0 q.1)) (λ q. k q.0 q.1) ≡ and_then t (λ q. and_then (f q.0 q.1) (λ q. k q.0 q.1))
      by (Ok q) = refl
      by (Err x) = refl

  pub pure_ends : (a : A) (f : A → Walk B) (s : Progress) → bind (pure a) f s ≡ f a s
  unfolding bind pure
  pure_ends a f s = refl

module _ {A : Type 0} where
  pub pure_is : (a : A) (s : Progress) (r : A × Progress) → Ends (pure a s) r → (a, s) ≡ r
  unfolding pure
  pure_is a s r e = cc

  pub bind_pure : (p : Walk A) (s : Progress) → bind p (λ a. pure a) s ≡ p s
  unfolding bind pure
  bind_pure p s = by (p s)
    where
      by : (t : Result (A × Progress) TypeCause) → and_then t (λ q. Ok (q.0, q.1)) ≡ t
      by (Ok q) = refl
      by (Err x) = refl

  pub check_is : (line : ℕ) (c : Scope → Checked A) (s : Progress) (r : A × Progress) → Ends (checks line c s) r → (c s.scope ≡ Ok r.0) × (s ≡ r.1)
  unfolding checks
  check_is line c s r e = by (c s.scope) refl e
    where
      by : (t : Checked A) → c s.scope ≡ t → and_then (at_line line t) (λ a. Ok (a, s)) ≡ Ok r → (c s.scope ≡ Ok r.0) × (s ≡ r.1)
      by (Ok a) is e =
          let same : (a, s) ≡ r = cc in
          (is ∙ ap (λ (q : A × Progress). Ok q.0) same, ap (λ (q : A × Progress). q.1) same)
      by (Err k) is e = absurd cc

  pub add_ends : (name : Name) (a : CType) (f : ℕ → Walk A) (s : Progress) → bind (add_local name a) f s ≡ f (length s.locals) (added name a s)
  unfolding bind add_local
  add_ends name a f s = refl

  pub begin_ends : (func line : ℕ) (own : Choice) (f : ℕ → Walk A) (s : Progress)
      → bind (begin_loop func line own) f s ≡ f (length s.loops) (begun_loop func line own s)
  unfolding bind begin_loop
  begin_ends func line own f s = refl

  pub end_ends : (number : ℕ) (f : Unit {0} → Walk A) (s : Progress) → bind (end_loop number) f s ≡ f tt (ended_loop number s)
  unfolding bind end_loop
  end_ends number f s = refl

  within_by : (p : Walk A) (s : Progress) → within p s ≡ and_then (p (scoped s (nested s.scope))) (λ q. Ok (q.0, scoped q.1 s.scope))
  unfolding bind get_scope set_scope pure
  within_by p s = refl

  -- in a scope of its own, and then in the scope before it
  pub within_ends : (p : Walk A) (s : Progress) (r : A × Progress) → Ends (within p s) r
      → (q : A × Progress) × Ends (p (scoped s (nested s.scope))) q × ((q.0, scoped q.1 s.scope) ≡ r)
  within_ends p s r e = by (p (scoped s (nested s.scope))) refl (sym (within_by p s) ∙ e)
    where
      by : (t : Result (A × Progress) TypeCause) → p (scoped s (nested s.scope)) ≡ t → and_then t (λ q. Ok (q.0, scoped q.1 s.scope)) ≡ Ok r
          → (q : A × Progress) × Ends (p (scoped s (nested s.scope))) q × ((q.0, scoped q.1 s.scope) ≡ r)
      by (Ok q) is e = (q, is, cc)
      by (Err x) is e = absurd cc

  pub within_by_end : (p : Walk A) (s : Progress) (q : A × Progress) → Ends (p (scoped s (nested s.scope))) q → Ends (within p s) (q.0, scoped q.1 s.scope)
  within_by_end p s q e = within_by p s ∙ ap (λ (t : Result (A × Progress) TypeCause). and_then t (λ q. Ok (q.0, scoped q.1 s.scope))) e

  pub never_ends : (line : ℕ) (k : TypeKind) (s : Progress) (r : A × Progress) → Ends (fails line k s) r → ⊥
  unfolding checks
  never_ends line k s r e = cc

-- ---- steps that are known to end

module _ {A B : Type 0} where
  pub bind_by : (p : Walk A) (f : A → Walk B) (s : Progress) (q : A × Progress) → Ends (p s) q → bind p f s ≡ f q.0 q.1
  unfolding bind
  bind_by p f s q e = ap (λ (t : Result (A × Progress) TypeCause). and_then t (λ q. f q.0 q.1)) e

  pub checks_by : (line : ℕ) (c : Scope → Checked A) (f : A → Walk B) (s : Progress) (a : A) → c s.scope ≡ Ok a → bind (checks line c) f s ≡ f a s
  unfolding bind checks
  checks_by line c f s a e =
      ap (λ (t : Checked A). and_then {B = B × Progress} (and_then {B = A × Progress} (at_line line t) (λ a. Ok (a, s))) (λ q. f q.0 q.1)) e

  pub lift_by : (line : ℕ) (c : Checked A) (f : A → Walk B) (s : Progress) (a : A) → c ≡ Ok a → bind (lift line c) f s ≡ f a s
  lift_by line c f s a e = checks_by line (λ _. c) f s a e

module _ {A : Type 0} where
  pub check_end : (line : ℕ) (c : Scope → Checked A) (s : Progress) (a : A) → c s.scope ≡ Ok a → Ends (checks line c s) (a, s)
  unfolding checks
  check_end line c s a e = ap (λ (t : Checked A). and_then (at_line line t) (λ a. Ok (a, s))) e

  pub pure_end : (a : A) (s : Progress) → Ends (pure a s) (a, s)
  unfolding pure
  pure_end a s = refl

-- ---- scopes

-- the locals in scope, as the rules have them
abbrev pub block : Scope → r.Block
block s = record { inner = map field_of_binding s.inner; outer = map field_of_binding s.outer }

pub map_append : {A B : Type 0} (f : A → B) (xs ys : List A) → map f (xs ++ ys) ≡ map f xs ++ map f ys
map_append f [] ys = refl
map_append f (x ∷ xs) ys = ap (λ zs. f x ∷ zs) (map_append f xs ys)

pub block_nested : (s : Scope) → block (nested s) ≡ r.within (block s)
block_nested s = ap (λ outer. record { inner = []; outer = outer }) (map_append field_of_binding s.inner s.outer)
