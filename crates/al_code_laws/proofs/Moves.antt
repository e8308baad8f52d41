-- What an instruction does that may go to several places, or stop.
use Rattle.std.proofs.Common.{◌≡◌, ℕ, suc, List, Some, Ok, Err, refl, ◌∙◌, subst}
use Rattle.std.specs.Prelude.{ℤ}
use Rattle.al_core.specs.World.{World}
use Rattle.al_core.specs.Action.{State, Answer, Act, after, bind, ◌>>=◌, pure, visit}
use Rattle.al_core.specs.Meaning.{Where}
use Rattle.al_code.specs.declared.instructions.Instr.{Instr}
use Rattle.al_code.specs.declared.lowered.Code.{Code}
use Rattle.al_code.specs.Machine.{Spot, Move, Goes, Stops, does}
use Rattle.al_code.specs.Runs.{moved, exec}
use Rattle.al_code_laws.proofs.Leads.{Target, To, Real, Leads, StandsAt, opened, arrive}

module _ {S : Type 0} where
  after_assoc : {A B C : Type 0} (r : Answer A) (t : State S) (f : A → Act S B) (g : B → Act S C) → after (after r t f).0 (after r t f).1 g
      ≡ after r t (λ a. f a >>= g)
  unfolding bind
  after_assoc (Ok a) t f g = refl
  after_assoc (Err e) t f g = refl

  pub assoc : {A B C : Type 0} (p : Act S A) (f : A → Act S B) (g : B → Act S C) → ((p >>= f) >>= g) ≡ (p >>= (λ a. f a >>= g))
  unfolding bind
  assoc p f g = λ i s. after_assoc (p s).0 (p s).1 f g i

  pub pure_then : {A B : Type 0} (a : A) (g : A → Act S B) → (pure a >>= g) ≡ g a
  unfolding bind pure
  pure_then a g = refl

module _ {S : Type 0} (world : World S) (here : Where) (input : List ℤ) (code : Code) where
  -- From this state what the move m leads to is what p does, and comes to where p's answer leads.
  pub record Moves {A : Type 0} (s : State S) (m : Act S Move) (p : Act S A) (to : A → Target) : Type 0 where
    pub by : (k : ℕ) → (j : ℕ) × ((m >>= moved world here input code (exec world here input code j)) s ≡ (p >>=
        (λ a. arrive world here input code k (to a))) s)
    pub real : (a : A) → (p s).0 ≡ Ok a → Real (to a)

module _ {S : Type 0} {world : World S} {here : Where} {input : List ℤ} {code : Code} where
  pub moves_at : {A : Type 0} {s : State S} {c : Spot} (x : Instr) (line : ℕ) (m : Act S Move) {p : Act S A} {to : A → Target} → StandsAt code c x line
      → does world here input code (Some x) line c ≡ m → Moves world here input code s m p to → Leads world here input code s (To c) p to
  moves_at {s = s} {c = c} x line m at e l = record {
    by = λ k. let h = l.by k in (suc h.0, opened world here input code c x line h.0 s m at e ∙ h.1);
    real = λ r. l.real;
  }

  pub moves_goes : {A : Type 0} {s : State S} {d : Spot} {p : Act S A} {to : A → Target} → Leads world here input code s (To d) p to
      → Moves world here input code s (pure (Goes d)) p to
  unfolding bind pure
  moves_goes l = record { by = λ k. l.by k; real = l.real tt }

  pub moves_same : {A : Type 0} {s : State S} {m : Act S Move} (p q : Act S A) {to : A → Target} → p ≡ q → Moves world here input code s m p to
      → Moves world here input code s m q to
  moves_same {A = A} {s = s} {m = m} p q {to = to} e l = subst (λ (p : Act S A). Moves world here input code s m p to) e l

  by_at : {A B : Type 0} (r : Answer A) (t : State S) (g : A → Act S Move) (f : A → Act S B) (to : B → Target)
      → ((a : A) → r ≡ Ok a → Moves world here input code t (g a) (f a) to) → (k : ℕ) → (j : ℕ)
      × (after (after r t g).0 (after r t g).1 (moved world here input code (exec world here input code j))
      ≡ after (after r t f).0 (after r t f).1 (λ b. arrive world here input code k (to b)))
  unfolding bind
  by_at (Ok a) t g f to h k = (h a refl).by k
  by_at (Err e) t g f to h k = (0, refl)

  real_at : {A B : Type 0} (r : Answer A) (t : State S) (g : A → Act S Move) (f : A → Act S B) (to : B → Target)
      → ((a : A) → r ≡ Ok a → Moves world here input code t (g a) (f a) to) → (b : B) → (after r t f).0 ≡ Ok b → Real (to b)
  real_at (Ok a) t g f to h b is = (h a refl).real b is
  real_at (Err e) t g f to h b is = absurd (cc)

  pub moves_bind : {A B : Type 0} {s : State S} (q : Act S A) {g : A → Act S Move} {f : A → Act S B} {to : B → Target}
      → ((a : A) → (q s).0 ≡ Ok a → Moves world here input code (q s).1 (g a) (f a) to) → Moves world here input code s (q >>= g) (q >>= f) to
  unfolding bind
  moves_bind {s = s} q {g = g} {f = f} {to = to} h = record {
    by = by_at (q s).0 (q s).1 g f to h;
    real = real_at (q s).0 (q s).1 g f to h;
  }

  stop_at : {A B : Type 0} (r : Answer A) (t : State S) (d : Spot) (f : A → Act S B) (to : B → Target)
      → ((a : A) → r ≡ Ok a → Leads world here input code t (To d) (f a) to) → (k : ℕ) → (j : ℕ)
      × (after r t (λ u. exec world here input code j d) ≡ after (after r t f).0 (after r t f).1 (λ b. arrive world here input code k (to b)))
  unfolding bind
  stop_at (Ok a) t d f to h k = (h a refl).by k
  stop_at (Err e) t d f to h k = (0, refl)

  real_stop : {A B : Type 0} (r : Answer A) (t : State S) (d : Spot) (f : A → Act S B) (to : B → Target)
      → ((a : A) → r ≡ Ok a → Leads world here input code t (To d) (f a) to) → (b : B) → (after r t f).0 ≡ Ok b → Real (to b)
  real_stop (Ok a) t d f to h b is = (h a refl).real tt b is
  real_stop (Err e) t d f to h b is = absurd (cc)

  -- a loop that is handed on
  pub moves_stops : {B : Type 0} {s : State S} (k : ℕ) (lo hi : ℤ) (d : Spot) {f : Unit {0} → Act S B} {to : B → Target}
      → ((u : Unit {0}) → (visit world k lo hi s).0 ≡ Ok u → Leads world here input code (visit world k lo hi s).1 (To d) (f u) to)
      → Moves world here input code s (pure (Stops k lo hi d)) (visit world k lo hi >>= f) to
  unfolding bind pure
  moves_stops {s = s} k lo hi d {f = f} {to = to} h = record {
    by = stop_at (visit world k lo hi s).0 (visit world k lo hi s).1 d f to h;
    real = real_stop (visit world k lo hi s).0 (visit world k lo hi s).1 d f to h;
  }
