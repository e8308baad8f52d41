-- Iterations and rounds one after another.
use Rattle.std.proofs.Common.{◌≡◌, ℕ, suc, ◌+◌, List, [], ◌∷◌, ◌++◌, append_assoc, Some, None, refl, sym, ap, ◌∙◌, arith, add_assoc, zero-add}
use Rattle.std.specs.Prelude.{take}
use Rattle.al_core.specs.declared.choices.Choice.{Choice}
use Rattle.al_core.specs.declared.reports.Ending.{Ending}
use Rattle.al_core.specs.declared.reports.Ending.TheVariants as ending
use Rattle.al_core.specs.declared.values.Trap.{Trap}
use Rattle.al_core.specs.Access.{Content}
use Rattle.al_core.specs.Iteration.{Execution, Finished, iteration, iterations, then_by, then_runs, add_steps}
use Rattle.al_laws.proofs.Words.{some_none, same_some}
use Rattle.al_core.specs.Round.{Round, round}
use Rattle.al_core.specs.Lockstep.{Rounds, with_round, still_pending, unless_trapped, rounds_from, up_from}
use Rattle.al_plain.specs.Pending.{left_after, unless_trap}

pub none_added : (r : Finished) → add_steps 0 r ≡ r
none_added r = λ t. record r { steps = zero-add r.steps t }

added_twice : (n m : ℕ) (r : Finished) → add_steps n (add_steps m r) ≡ add_steps (n + m) r
added_twice n m r = λ t. record r { steps = sym (add_assoc n m r.steps) t }

-- the next iteration ends well
pub goes_on : (x : Execution) (k l j i : ℕ) (n : ℕ) (c : Content) (r : Finished) → k ≡ suc l → i ≡ suc j → r ≡ iteration x j c → r.ending ≡ ending.Done
    → add_steps n (iterations x k j c) ≡ add_steps (n + r.steps) (iterations x l i r.content)
goes_on x k l j i n c r ek ei er ed =
    ap (λ k. add_steps n (iterations x k j c)) ek
    ∙ ap (λ r. add_steps n (then_runs r (iterations x l (suc j)))) (sym er)
    ∙ ap (λ e. add_steps n (then_by e r (iterations x l (suc j)))) ed
    ∙ added_twice n r.steps (iterations x l (suc j) r.content)
    ∙ ap (λ i. add_steps (n + r.steps) (iterations x l i r.content)) (sym ei)

-- it traps
pub stops : (x : Execution) (k l j : ℕ) (n : ℕ) (c : Content) (r : Finished) (t : Trap) (line : ℕ) → k ≡ suc l → r ≡ iteration x j c
    → r.ending ≡ ending.Trap t line → add_steps n (iterations x k j c) ≡ record { ending = r.ending; steps = n + r.steps; content = r.content }
stops x k l j n c r t line ek er et =
    ap (λ k. add_steps n (iterations x k j c)) ek
    ∙ ap (λ r. add_steps n (then_runs r (iterations x l (suc j)))) (sym er)
    ∙ ap (λ e. add_steps n (then_by e r (iterations x l (suc j)))) et

-- none is left
pub ends : (x : Execution) (k j n : ℕ) (c : Content) → k ≡ 0 → add_steps n (iterations x k j c) ≡ record { ending = ending.Done; steps = n; content = c }
ends x k j n c e =
    ap (λ k. add_steps n (iterations x k j c)) e ∙ (let z : n + 0 ≡ n = omega arith in λ t. record { ending = ending.Done; steps = z t; content = c })

-- ---- chunks and rounds

pub chunk_next : (all : List ℕ) (k l c d : ℕ) → k ≡ suc l → d ≡ suc c → all ++ up_from k c ≡ (all ++ c ∷ []) ++ up_from l d
chunk_next all k l c d ek ed =
    ap (λ k. all ++ up_from k c) ek ∙ sym (append_assoc all (c ∷ []) (up_from l (suc c))) ∙ ap (λ d. (all ++ c ∷ []) ++ up_from l d) (sym ed)

module _ (x : Execution) (choice : Choice) (lanes : ℕ) (so_far : Rounds) where
  abbrev the_round : List ℕ → Round
  the_round pending = round x choice (take lanes pending) so_far.memory

  abbrev left_of : List ℕ → List ℕ
  left_of pending = still_pending lanes pending (the_round pending)

  abbrev after_round : ℕ → List ℕ → Rounds → Ending → Rounds
  after_round l pending new e = unless_trapped e new (rounds_from l x choice lanes (left_of pending) new)

  round_goes : (k l : ℕ) (pending : List ℕ) (new : Rounds) → k ≡ suc l → ¬ (pending ≡ []) → new ≡ with_round (the_round pending) so_far
      → rounds_from k x choice lanes pending so_far ≡ after_round l pending new (the_round pending).ending
  round_goes k l [] new ek some en = absurd (some refl)
  round_goes k l (c ∷ cs) new ek some en =
      ap (λ k. rounds_from k x choice lanes (c ∷ cs) so_far) ek
      ∙ ap (λ new. after_round l (c ∷ cs) new (the_round (c ∷ cs)).ending) (sym en)

  by_end : (e : Ending) (l : ℕ) (pending left : List ℕ) (new : Rounds) → Some left ≡ unless_trap e (left_of pending)
      → after_round l pending new e ≡ rounds_from l x choice lanes left new
  by_end (ending.Trap t line) l pending left new e = absurd (some_none left e)
  by_end ending.Done l pending left new e = ap (λ left. rounds_from l x choice lanes left new) (sym (same_some left (left_of pending) e))

  by_trap : (e : Ending) (l : ℕ) (pending : List ℕ) (new : Rounds) → None ≡ unless_trap e (left_of pending) → after_round l pending new e ≡ new
  by_trap (ending.Trap t line) l pending new e = refl
  by_trap ending.Done l pending new e = absurd (some_none (left_of pending) (sym e))

  pub round_next : (k l : ℕ) (pending left : List ℕ) (new : Rounds) → k ≡ suc l → ¬ (pending ≡ [])
      → Some left ≡ left_after lanes pending (the_round pending) → new ≡ with_round (the_round pending) so_far
      → rounds_from k x choice lanes pending so_far ≡ rounds_from l x choice lanes left new
  round_next k l pending left new ek some el en = round_goes k l pending new ek some en ∙ by_end (the_round pending).ending l pending left new el

  pub round_last : (k l : ℕ) (pending : List ℕ) (new : Rounds) → k ≡ suc l → ¬ (pending ≡ [])
      → None ≡ left_after lanes pending (the_round pending) → new ≡ with_round (the_round pending) so_far
      → rounds_from k x choice lanes pending so_far ≡ new
  round_last k l pending new ek some el en = round_goes k l pending new ek some en ∙ by_trap (the_round pending).ending l pending new el
