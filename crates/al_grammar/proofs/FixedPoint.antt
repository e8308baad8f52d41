-- The parser of expressions is a fixed point of its step, where the step may only go to what is smaller.
use Rattle.std.proofs.Common.{◌≡◌, ℕ, zero, suc, ◌<◌, Bool, true, false, nat_lt, if◌then◌else◌, Ok, Err, refl, ap, ◌∙◌, arith}
use Rattle.std.proofs.lemmas.Bool.{ltb-true, lt-ltb}
use Rattle.al_source.specs.declared.source_tree.Expr.{Expr}
use Rattle.al_grammar.specs.Phrases.{Tokens}
use Rattle.al_grammar.specs.Expressions.{State}
use Rattle.al_source.specs.Steps.{bind}
use Rattle.al_grammar.specs.Steps.{Read, Step}
use Rattle.al_grammar.specs.ExpressionParser.{Outcome, Parser, keep, lift, Job, step, measure, guard, go, parse}

-- ---- steps that may fail

-- two continuations that agree at what the first step gives
pub then_same : {A B : Type 0}
    → (r r' : Outcome A) (k k' : A → Parser B) → r ≡ r' → ((x : A) (s : State) → r ≡ Ok (x, s) → k x s ≡ k' x s) → bind r k ≡ bind r' k'
then_same r r' k k' e h = alike r h ∙ ap (λ q. bind q k') e
  where
    alike : (q : Outcome _) → ((x : _) (s : State) → q ≡ Ok (x, s) → k x s ≡ k' x s) → bind q k ≡ bind q k'
    alike (Ok p) g = g p.0 p.1 refl
    alike (Err d) g = refl

-- a step without operators leaves their number
pub lift_ok : {A : Type 0} (p : Step A) (s : State) (y : A × State) → lift p s ≡ Ok y → (q : A × Tokens) × (p s.1 ≡ Ok q) × ((q.0, (s.0, q.1)) ≡ y)
lift_ok p s y e = by (p s.1) refl e
  where
    by : (o : Read _) → p s.1 ≡ o → keep s.0 o ≡ Ok y → (q : _) × (p s.1 ≡ Ok q) × ((q.0, (s.0, q.1)) ≡ y)
    by (Ok q) d e = (q, d, cc)
    by (Err a) d e = absurd cc

if_same : {A : Type 0} → (b : Bool) (x y z : A) → (b ≡ true → x ≡ y) → (if b then x else z) ≡ (if b then y else z)
if_same true x y z h = h refl
if_same false x y z h = refl

if_true : {A : Type 0} → (b : Bool) (x z y : A) → (z ≡ y → ⊥) → (if b then x else z) ≡ y → x ≡ y
if_true true x z y h e = e
if_true false x z y h e = absurd (h e)

-- ---- the guard

guard_same : (N N' : Job → Parser Expr) (b : ℕ)
    → ((j : Job) (s : State) → measure j s < b → N j s ≡ N' j s) → (j : Job) (s : State) → guard N b j s ≡ guard N' b j s
unfolding guard
guard_same N N' b h j s = if_same (nat_lt (measure j s) b) _ _ _ (λ e. h j s (ltb-true _ _ e))

pub guarded : (N : Job → Parser Expr) (b : ℕ) (j : Job) (s : State) {y : Expr × State} → guard N b j s ≡ Ok y → N j s ≡ Ok y
unfolding guard
guarded N b j s e = if_true (nat_lt (measure j s) b) _ _ _ (λ d. cc) e

pub pass : (N : Job → Parser Expr) (b : ℕ) (j : Job) (s : State) → measure j s < b → guard N b j s ≡ N j s
unfolding guard
pass N b j s h = rw (lt-ltb _ _ h) refl

-- ---- as many steps as are needed

stable : (f f' : ℕ) (j : Job) (s : State) → measure j s < f → measure j s < f' → go f j s ≡ go f' j s
unfolding go
stable zero f' j s h h' = absurd (omega arith)
stable (suc f) zero j s h h' = absurd (omega arith)
stable (suc f) (suc f') j s h h' =
    ap (λ N. step N j s) (λ i j' s'. guard_same (go f) (go f') (measure j s) (λ k u l. stable f f' k u (omega arith) (omega arith)) j' s' i)

pub parse_step : (j : Job) (s : State) → parse j s ≡ step (guard parse (measure j s)) j s
unfolding go parse
parse_step j s =
    ap (λ N. step N j s)
    (λ i j' s'. guard_same (go (measure j s)) parse (measure j s) (λ k u l. stable (measure j s) (suc (measure k u)) k u l (omega arith)) j' s' i)
