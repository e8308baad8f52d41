-- Iterations in parts.
use Rattle.std.proofs.Common.{◌≡◌, ℕ, zero, suc, ◌+◌, refl, sym, ap, ◌∙◌, arith}
use Rattle.al_core.specs.declared.reports.Ending.{Ending}
use Rattle.al_core.specs.declared.reports.Ending.TheVariants as ending
use Rattle.al_core.specs.Access.{Content}
use Rattle.al_core.specs.Iteration.{Finished, add_steps, iteration, then_by, then_runs, iterations}
use Rattle.al_laws.specs.Iterations.{IterationsSplit}

pub steps_twice : (a b : ℕ) (r : Finished) → add_steps a (add_steps b r) ≡ add_steps (a + b) r
steps_twice a b r = ap (λ n. record r { steps = n }) (omega arith)

-- steps before, whatever comes next
pub add_then : (n : ℕ) (r : Finished) (g : Content → Finished) (e : Ending) → add_steps n (then_by e r g) ≡ then_by e (add_steps n r) g
add_then n r g ending.Done = steps_twice n r.steps (g r.content)
add_then n r g (ending.Trap t line) = refl

pub no_steps : (r : Finished) → add_steps 0 r ≡ r
no_steps r = ap (λ n. record r { steps = n }) (omega arith)

-- where the first ended so
pub then_runs_twice : (r : Finished) (f g : Content → Finished) (e : Ending) → r.ending ≡ e
    → then_runs (then_by e r f) g ≡ then_by e r (λ c. then_runs (f c) g)
then_runs_twice r f g ending.Done is = sym (add_then r.steps (f r.content) g (f r.content).ending)
then_runs_twice r f g (ending.Trap t line) is = ap (λ e. then_by e r g) is

pub iterations_split : IterationsSplit
iterations_split x zero n j c =
    let count : 0 + n ≡ n = omega arith in
    let start : j ≡ j + 0 = omega arith in
    ap (λ z. iterations x z j c) count ∙ ap (λ z. iterations x n z c) start ∙ sym (no_steps (iterations x n (j + 0) c))
iterations_split x (suc m) n j c =
    let r = iteration x j c in
    let count : suc m + n ≡ suc (m + n) = omega arith in
    let start : suc j + m ≡ j + suc m = omega arith in
    let more : iterations x (m + n) (suc j) ≡ (λ d. then_runs (iterations x m (suc j) d) (iterations x n (j + suc m))) =
    λ i d. (iterations_split x m n (suc j) d ∙ ap (λ z. then_runs (iterations x m (suc j) d) (iterations x n z)) start) i in
    ap (λ z. iterations x z j c) count
    ∙ ap (then_runs r) more
    ∙ sym (then_runs_twice r (iterations x m (suc j)) (iterations x n (j + suc m)) r.ending refl)
