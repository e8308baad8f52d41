-- Rounds that are counted one after another.
use Rattle.std.proofs.Common.{◌≡◌, ◌+◌, List, [], ◌∷◌, ◌++◌, length, refl, ap, ◌∙◌, arith, append_assoc, zero-add}
use Rattle.std.specs.Prelude.{map}
use Rattle.al_core.specs.declared.reports.Event.TheVariants as event
use Rattle.al_core.specs.declared.reports.Judged.{Judged}
use Rattle.al_core.specs.Iteration.{Execution}
use Rattle.al_core.specs.Lockstep.{Rounds, not_committed}
use Rattle.al_core.specs.Run.{Counts, attempts_of, aborted_of, enter_event, no_counts, counts_of_rounds}
use Rattle.al_engine.specs.Counting.{entered, with_round, with_rounds, with_steps}

-- so many more
abbrev more : List (List Judged) → Counts → Counts
more rs n =
    record n {
      rounds = n.rounds + length rs;
      attempts = n.attempts + attempts_of rs;
      aborted = n.aborted + aborted_of rs;
      events = n.events ++ map
          (λ r. event.Round r) rs;
    }

append_none : {A : Type 0} (l : List A) → l ≡ l ++ []
append_none [] = refl
append_none (a ∷ l) = ap (λ l. a ∷ l) (append_none l)

with_rounds_more : (rs : List (List Judged)) (n : Counts) → with_rounds rs n ≡ more rs n
with_rounds_more [] n =
    let rounds : n.rounds ≡ n.rounds + 0 = omega arith in
    let attempts : n.attempts ≡ n.attempts + 0 = omega arith in
    let aborted : n.aborted ≡ n.aborted + 0 = omega arith in
    λ t. record n { rounds = rounds t; attempts = attempts t; aborted = aborted t; events = append_none n.events t }
with_rounds_more (r ∷ rs) n =
    let rounds : (n.rounds + 1) + length rs ≡ n.rounds + length (r ∷ rs) = omega arith in
    let attempts : (n.attempts + length r) + attempts_of rs ≡ n.attempts + attempts_of (r ∷ rs) = omega arith in
    let aborted : (n.aborted + length (not_committed r)) + aborted_of rs ≡ n.aborted + aborted_of (r ∷ rs) = omega arith in
    with_rounds_more rs (with_round r n)
    ∙ (λ t. record n {
      rounds = rounds t;
      attempts = attempts t;
      aborted = aborted t;
      events = append_assoc n.events (event.Round r ∷ [])
          (map (λ r. event.Round r) rs) t;
    })

pub counted : (x : Execution) (r : Rounds) → with_steps r.span (with_rounds r.rounds (entered (enter_event x) no_counts)) ≡ counts_of_rounds x r
counted x r =
    ap (with_steps r.span) (with_rounds_more r.rounds (entered (enter_event x) no_counts))
    ∙ (λ t. record {
      loops = 1;
      rounds = zero-add (length r.rounds) t;
      attempts = zero-add (attempts_of r.rounds) t;
      aborted = zero-add (aborted_of r.rounds) t;
      span = zero-add r.span t;
      events = enter_event x ∷ map (λ r. event.Round r) r.rounds;
    })
