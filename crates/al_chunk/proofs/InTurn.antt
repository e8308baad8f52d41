-- Iterations one after another.
use Rattle.std.proofs.Common.{◌≡◌, ℕ, suc, ◌+◌, sym, ap, ◌∙◌, arith}
use Rattle.al_core.specs.declared.reports.Ending.TheVariants as ending
use Rattle.al_core.specs.declared.values.Trap.{Trap}
use Rattle.al_core.specs.Access.{Content}
use Rattle.al_core.specs.Iteration.{Execution, Finished, iteration, iterations, then_by, then_runs, add_steps}
use Rattle.al_laws.proofs.Splits.{steps_twice}

-- the next iteration ends well
pub goes_on : (x : Execution) (k l j i : ℕ) (n : ℕ) (c : Content) (r : Finished) → k ≡ suc l → i ≡ suc j → r ≡ iteration x j c → r.ending ≡ ending.Done
    → add_steps n (iterations x k j c) ≡ add_steps (n + r.steps) (iterations x l i r.content)
goes_on x k l j i n c r ek ei er ed =
    ap (λ k. add_steps n (iterations x k j c)) ek
    ∙ ap (λ r. add_steps n (then_runs r (iterations x l (suc j)))) (sym er)
    ∙ ap (λ e. add_steps n (then_by e r (iterations x l (suc j)))) ed
    ∙ steps_twice n r.steps (iterations x l (suc j) r.content)
    ∙ ap (λ i. add_steps (n + r.steps) (iterations x l i r.content)) (sym ei)

-- it traps
pub stops : (x : Execution) (k l j : ℕ) (n : ℕ) (c : Content) (r : Finished) (t : Trap) (line : ℕ) → k ≡ suc l → r ≡ iteration x j c
    → r.ending ≡ ending.Trap t line → add_steps n (iterations x k j c) ≡ record { ending = r.ending; steps = n + r.steps; content = r.content }
stops x k l j n c r t line ek er et =
    ap (λ k. add_steps n (iterations x k j c)) ek
    ∙ ap (λ r. add_steps n (then_runs r (iterations x l (suc j)))) (sym er)
    ∙ ap (λ e. add_steps n (then_by e r (iterations x l (suc j)))) et

-- none is left
pub ends : (x : Execution) (k j n : ℕ) (c : Content) → k ≡ 0 → add_steps n (iterations x k j c) ≡ record { ending = ending.Done; steps = n; content = c }
ends x k j n c e =
    ap (λ k. add_steps n (iterations x k j c)) e ∙ (let z : n + 0 ≡ n = omega arith in λ t. record { ending = ending.Done; steps = z t; content = c })
