-- Runs after something else: they have one end, and what they answer is of no account for how they end.
use Rattle.std.proofs.Common.{◌≡◌, ℕ, ◌-◌, Option, Some, Ok, Err, refl}
use Rattle.al_core.specs.Access.{Content}
use Rattle.al_core.specs.Action.{State, Answer, Act, after, bind, ◌>>=◌, ◌>>◌, pure}
use Rattle.al_core.specs.Iteration.{Finished, ending_of}
use Rattle.al_code_laws.specs.Stops.{IsOver, Run, EndsOnce}

after_once : {S A B : Type 0} (run : Run S B) → EndsOnce run → (n m : ℕ) (r : Answer A) (t : State S) → IsOver (after r t (λ u. run n)).0
    → IsOver (after r t (λ u. run m)).0 → after r t (λ u. run n) ≡ after r t (λ u. run m)
after_once run h n m (Ok a) t o q = h n m t o q
after_once run h n m (Err e) t o q = refl

pub then_once : {S A B : Type 0} (p : Act S A) (run : Run S B) → EndsOnce run → EndsOnce (λ n. p >> run n)
unfolding bind
then_once p run h n m s o q = after_once run h n m (p s).0 (p s).1 o q

-- ---- what is over

after_over : {S A B : Type 0} (q : Act S (Option B)) → ((t : State S) → IsOver (q t).0) → (r : Answer A) (t : State S) → IsOver (after r t (λ u. q)).0
after_over q h (Ok a) t = h t
after_over q h (Err e) t = tt

pub then_over : {S A B : Type 0} (p : Act S A) (q : Act S (Option B)) → ((t : State S) → IsOver (q t).0) → (s : State S) → IsOver ((p >> q) s).0
unfolding bind
then_over p q h s = after_over q h (p s).0 (p s).1

answer_over : {S A B : Type 0} (f : A → B) (r : Answer A) (t : State S) → IsOver (after r t (λ a. pure (Some (f a)))).0
unfolding pure
answer_over f (Ok a) t = tt
answer_over f (Err e) t = tt

pub answered_over : {S A B : Type 0} (p : Act S A) (f : A → B) (s : State S) → IsOver ((p >>= (λ a. pure (Some (f a)))) s).0
unfolding bind
answered_over p f s = answer_over f (p s).0 (p s).1

-- ---- how a run ends

abbrev pub ended : {A : Type 0} → ℕ → Answer A × State Content → Finished
ended budget r = record { ending = ending_of r.0; steps = budget - r.1.budget; content = r.1.world }

answer_ended : {A B C : Type 0} (b : ℕ) (f : A → B) (g : A → C) (r : Answer A) (t : State Content)
    → ended b (after r t (λ a. pure (f a))) ≡ ended b (after r t (λ a. pure (g a)))
unfolding pure
answer_ended b f g (Ok a) t = refl
answer_ended b f g (Err e) t = refl

pub answered_ended : {A B C : Type 0} (b : ℕ) (p : Act Content A) (f : A → B) (g : A → C) (s : State Content)
    → ended b ((p >>= (λ a. pure (f a))) s) ≡ ended b ((p >>= (λ a. pure (g a))) s)
unfolding bind
answered_ended b p f g s = answer_ended b f g (p s).0 (p s).1

after_ended : {A B C : Type 0} (b : ℕ) (p : Act Content B) (q : Act Content C) → ((t : State Content) → ended b (p t) ≡ ended b (q t))
    → (r : Answer A) (t : State Content) → ended b (after r t (λ u. p)) ≡ ended b (after r t (λ u. q))
after_ended b p q h (Ok a) t = h t
after_ended b p q h (Err e) t = refl

pub then_ended : {A B C : Type 0} (b : ℕ) (a : Act Content A) (p : Act Content B) (q : Act Content C)
    → ((t : State Content) → ended b (p t) ≡ ended b (q t)) → (s : State Content) → ended b ((a >> p) s) ≡ ended b ((a >> q) s)
unfolding bind
then_ended b a p q h s = after_ended b p q h (a s).0 (a s).1
