-- What an action answers, where it does not trap.
use Rattle.std.proofs.Common.{◌≡◌, ℕ, suc, List, [], ◌∷◌, length, Result, Ok, Err, refl, ap, subst}
use Rattle.al_core.specs.declared.typed_tree.TExpr.{TExpr}
use Rattle.std.specs.Prelude.{ℤ}
use Rattle.al_core.specs.declared.values.Val.{Val}
use Rattle.al_core.specs.declared.values.Trap.{Trap}
use Rattle.al_core.specs.World.{World}
use Rattle.al_core.specs.Action.{State, Act, At, after, bind, ◌>>=◌, pure, all}
use Rattle.al_core.specs.Meaning.{Where, value, values}

module _ {S : Type 0} where
  pub record Yields {A : Type 0} (p : Act S A) (Q : A → Type 0) : Type 0 where
    pub by : (s : State S) (a : A) → (p s).0 ≡ Ok a → Q a

  pub yields_pure : {A : Type 0} (a : A) (Q : A → Type 0) → Q a → Yields (pure a) Q
  unfolding pure
  yields_pure a Q h = record { by = λ s b e. let same : a ≡ b = cc in subst Q same h }

  yields_after : {A B : Type 0} (r : Result A (Trap × ℕ)) (t : State S) (f : A → Act S B) (Q : A → Type 0) (P : B → Type 0) → ((a : A) → r ≡ Ok a → Q a)
      → ((a : A) → Q a → Yields (f a) P) → (b : B) → (after r t f).0 ≡ Ok b → P b
  yields_after (Ok a) t f Q P h k b e = (k a (h a refl)).by t b e
  yields_after (Err x) t f Q P h k b e = absurd (cc)

  pub yields_bind : {A B : Type 0} {p : Act S A} {f : A → Act S B} {Q : A → Type 0} {P : B → Type 0} → Yields p Q → ((a : A) → Q a → Yields (f a) P)
      → Yields (p >>= f) P
  unfolding bind
  yields_bind {p = p} {f = f} {Q = Q} {P = P} h k = record { by = λ s b e. yields_after (p s).0 (p s).1 f Q P (h.by s) k b e }

  pub yields_any : {A : Type 0} (p : Act S A) → Yields p (λ a. Unit {0})
  yields_any p = record { by = λ s a e. tt }

  pub all_count : {A : Type 0} (ps : List (Act S A)) → Yields (all ps) (λ vs. length vs ≡ length ps)
  all_count [] = yields_pure [] _ refl
  all_count (p ∷ ps) = yields_bind (yields_any p) (λ v _. yields_bind (all_count ps) (λ vs h. yields_pure (v ∷ vs) _ (ap suc h)))

  pub values_count : (world : World S) (here : Where) (input : List ℤ) (call : ℕ → List Val → At S Val) (es : List TExpr) (line : ℕ)
      → Yields (values world here input call es line) (λ vs. length vs ≡ length es)
  values_count world here input call [] line = yields_pure [] _ refl
  values_count world here input call (e ∷ es) line = yields_bind (yields_any (value world here input call e line))
      (λ v _. yields_bind (values_count world here input call es line) (λ vs h. yields_pure (v ∷ vs) _ (ap suc h)))
