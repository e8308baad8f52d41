-- Rounds of an execution, one after another.
use Rattle.std.proofs.Common.{◌≡◌, ℕ, zero, suc, ◌-◌, List, [], ◌∷◌, refl, sym, ap, ◌∙◌, arith}
use Rattle.std.specs.Prelude.{take}
use Rattle.al_core.specs.declared.choices.Choice.{Choice}
use Rattle.al_core.specs.declared.reports.Ending.{Ending}
use Rattle.al_core.specs.declared.reports.Ending.TheVariants as ending
use Rattle.al_core.specs.declared.values.Trap.{Trap}
use Rattle.al_core.specs.Iteration.{Execution}
use Rattle.al_core.specs.Round.{Round, round}
use Rattle.al_core.specs.Chunk.{chunk_count}
use Rattle.al_core.specs.Lockstep.{Rounds, with_round, still_pending, unless_trapped, rounds_from, all_chunks, no_rounds, lockstep}
use Rattle.al_core.specs.Memory.{Memory}
use Rattle.al_engine.specs.Pending.{GoesOn}

module _ (x : Execution) (choice : Choice) (lanes : ℕ) (so_far : Rounds) where
  abbrev the_round : List ℕ → Round
  the_round pending = round x choice (take lanes pending) so_far.memory

  abbrev after_round : ℕ → List ℕ → Rounds → Ending → Rounds
  after_round l pending new e = unless_trapped e new (rounds_from l x choice lanes (still_pending lanes pending (the_round pending)) new)

  goes : (k l : ℕ) (pending : List ℕ) (new : Rounds) → k ≡ suc l → ¬ (pending ≡ []) → new ≡ with_round (the_round pending) so_far
      → rounds_from k x choice lanes pending so_far ≡ after_round l pending new (the_round pending).ending
  goes k l [] new ek some en = absurd (some refl)
  goes k l (c ∷ cs) new ek some en =
      ap (λ k. rounds_from k x choice lanes (c ∷ cs) so_far) ek
      ∙ ap (λ new. after_round l (c ∷ cs) new (the_round (c ∷ cs)).ending) (sym en)

  -- after a round without a trap
  pub round_next : (k l : ℕ) (pending left : List ℕ) (new : Rounds) → k ≡ suc l → ¬ (pending ≡ [])
      → GoesOn lanes pending (the_round pending) so_far new left → new.ending ≡ ending.Done
      → rounds_from k x choice lanes pending so_far ≡ rounds_from l x choice lanes left new
  round_next k l pending left new ek some h done =
      goes k l pending new ek some h.comes
      ∙ ap (after_round l pending new) (sym (ap (λ (r : Rounds). r.ending) h.comes) ∙ done)
      ∙ ap (λ left. rounds_from l x choice lanes left new) (sym h.stay)

  -- after a round with one
  pub round_last : (k l : ℕ) (pending left : List ℕ) (new : Rounds) (t : Trap) (line : ℕ) → k ≡ suc l → ¬ (pending ≡ [])
      → GoesOn lanes pending (the_round pending) so_far new left → new.ending ≡ ending.Trap t line
      → rounds_from k x choice lanes pending so_far ≡ new
  round_last k l pending left new t line ek some h trapped =
      goes k l pending new ek some h.comes
      ∙ ap (after_round l pending new) (sym (ap (λ (r : Rounds). r.ending) h.comes) ∙ trapped)

-- before the first round
pub first_round : (x : Execution) (choice : Choice) (lanes : ℕ) (m : Memory) (count : ℕ) (plan : List ℕ) (so_far : Rounds) → count ≡ chunk_count x
    → plan ≡ all_chunks x → so_far ≡ no_rounds m → rounds_from (count - 0) x choice lanes plan so_far ≡ lockstep x choice lanes m
unfolding lockstep
first_round x choice lanes m count plan so_far ec ep es =
    let none : count - 0 ≡ chunk_count x = omega (arith, ec) in
    λ t. rounds_from (none t) x choice lanes (ep t) (es t)

-- nothing is pending
pub none_left : (x : Execution) (choice : Choice) (lanes : ℕ) (so_far : Rounds) (k : ℕ) → rounds_from k x choice lanes [] so_far ≡ so_far
none_left x choice lanes so_far zero = refl
none_left x choice lanes so_far (suc k) = refl
