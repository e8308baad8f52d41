-- What the changes of a round's chunks come to is the definition's round.
use Rattle.std.proofs.Common.{◌≡◌, ℕ, zero, suc, ◌≤◌, List, [], ◌∷◌, ◌++◌, length, true, refl, sym, ap, subst, ◌∙◌, append-nil, arith}
use Rattle.std.specs.Prelude.{map, slice_index}
use Rattle.al_core.specs.declared.choices.Choice.{Choice}
use Rattle.al_core.specs.declared.choices.Red.{Red}
use Rattle.al_core.specs.declared.reports.Ending.TheVariants as ending
use Rattle.al_core.specs.declared.reports.Verdict.{Verdict}
use Rattle.al_core.specs.Memory.{Memory}
use Rattle.al_core.specs.Iteration.{Execution}
use Rattle.al_core.specs.Chunk.{Outcome, outcome}
use Rattle.al_core.specs.Verdicts.{Judging, nothing_judged, verdict_of, judged, verdicts_from, verdicts, is_committed, committed}
use Rattle.al_core.specs.Applied.{all_applied}
use Rattle.al_core.specs.Round.{Round, with_chunks, all_printed, last_ending, outcomes, round_of, round}
use Rattle.al_laws.proofs.Commits.{first_committed}
use Rattle.al_board.specs.Fits.{AreFit}
use Rattle.al_round.specs.declared.report.RoundReport.{RoundReport}
use Rattle.al_round.specs.Rounds.{IsRound, HasLaidFirst, HasBegun, IsSettled}

-- ---- the outcomes of which pieces tell are those of their chunks

pub told_outcomes : {D : Type 0} (told : D → Outcome) (x : Execution) (reds : List Red) (m : Memory) (chunks : List ℕ) (ds : List D)
    → length ds ≡ length chunks → AreFit (λ lane d. told d ≡ outcome x reds m (slice_index chunks lane)) ds
    → map told ds ≡ outcomes x reds m chunks
told_outcomes {D} told x reds m [] [] e fit = refl
told_outcomes {D} told x reds m [] (d ∷ ds) e fit = absurd (omega arith)
told_outcomes {D} told x reds m (c ∷ chunks) [] e fit = absurd (omega arith)
told_outcomes {D} told x reds m (c ∷ chunks) (d ∷ ds) e fit =
    λ i. fit zero d refl i ∷ told_outcomes told x reds m chunks ds (omega arith) (λ lane p at. fit (suc lane) p at) i

-- ---- verdicts

from_length : (choice : Choice) (e : Judging) (os : List Outcome) → length (verdicts_from choice e os) ≡ length os
from_length choice e [] = refl
from_length choice e (o ∷ os) = ap suc_of (from_length choice (judged choice e o) os)
  where
    suc_of : ℕ → ℕ
    suc_of n = suc n

verdicts_length : (choice : Choice) (os : List Outcome) → length (verdicts choice os) ≡ length os
unfolding verdicts
verdicts_length choice os = from_length choice nothing_judged os

pub map_length : {D : Type 0} (told : D → Outcome) (ds : List D) → length (map told ds) ≡ length ds
map_length {D} told [] = refl
map_length {D} told (d ∷ ds) = ap suc_of (map_length told ds)
  where
    suc_of : ℕ → ℕ
    suc_of n = suc n

outcomes_length : (x : Execution) (reds : List Red) (m : Memory) (chunks : List ℕ) → length (outcomes x reds m chunks) ≡ length chunks
outcomes_length x reds m [] = refl
outcomes_length x reds m (c ∷ chunks) = ap suc_of (outcomes_length x reds m chunks)
  where
    suc_of : ℕ → ℕ
    suc_of n = suc n

-- there is a verdict for each
pub judged_length : {D : Type 0} (told : D → Outcome) (choice : Choice) (ds : List D) (vs : List Verdict) → vs ≡ verdicts choice (map told ds)
    → length vs ≡ length ds
judged_length told choice ds vs e = ap length e ∙ verdicts_length choice (map told ds) ∙ map_length told ds

-- the first one is committed
pub first_verdict : (choice : Choice) (os : List Outcome) (vs : List Verdict) → vs ≡ verdicts choice os → 1 ≤ length os
    → (v : Verdict) × (rest : List Verdict) × (vs ≡ v ∷ rest) × (is_committed v ≡ true)
unfolding verdicts
first_verdict choice [] vs e h = absurd (omega arith)
first_verdict choice (o ∷ os) vs e h =
    (verdict_of choice nothing_judged o, verdicts_from choice (judged choice nothing_judged o) os, e, first_committed choice o)

-- ---- the round

round_is : (x : Execution) (choice : Choice) (chunks : List ℕ) (m : Memory)
    → round x choice chunks m
    ≡ round_of choice chunks m (outcomes x choice.reds m chunks) (verdicts choice (outcomes x choice.reds m chunks))
unfolding round
round_is x choice chunks m = refl

module _ (x : Execution) (choice : Choice) (chunks : List ℕ) (m n : Memory) (os : List Outcome)
    (is : os ≡ outcomes x choice.reds m chunks) where
  -- the round of these outcomes
  round_told : round_of choice chunks m os (verdicts choice os) ≡ round x choice chunks m
  round_told = ap (λ z. round_of choice chunks m z (verdicts choice z)) is ∙ sym (round_is x choice chunks m)

  all_done : (done cs : List Outcome) → done ++ [] ≡ cs → done ≡ cs
  all_done done cs e = sym (append-nil done) ∙ e

  pub round_settled : (reds : List Red) (vs : List Verdict) (r : RoundReport) → reds ≡ choice.reds → vs ≡ verdicts choice os
      → IsSettled reds m n os vs r → IsRound x choice chunks m n r
  round_settled reds vs r by e s =
      let h = s.kept in
      let v = s.verdicts_are in
      let all = all_done h.done (committed os vs) h.whole ∙ ap (committed os) e in
      record {
        each = ap length (v ∙ e) ∙ verdicts_length choice os ∙ ap length is ∙ outcomes_length x choice.reds m chunks;
        verdicts = ap (with_chunks chunks) (v ∙ e) ∙ ap (λ (z : Round). z.verdicts) round_told;
        memory = h.memory ∙ (λ i. all_applied (by i) (all i) m) ∙ ap (λ (z : Round). z.memory) round_told;
        printed = h.bytes ∙ ap (λ z. all_printed z []) all ∙ ap (λ (z : Round). z.printed) round_told;
        ending = h.last ∙ ap (λ z. last_ending z ending.Done) all ∙ ap (λ (z : Round). z.ending) round_told;
        longest = s.most ∙ ap (λ (z : Round). z.longest) round_told;
      }

  pub round_begun : (reds : List Red) (vs : List Verdict) → reds ≡ choice.reds → vs ≡ verdicts choice os
      → HasLaidFirst reds m n (committed os vs) → HasBegun x choice chunks m n
  round_begun reds vs by e h =
      subst (λ (z : List Red × List Outcome). HasLaidFirst z.0 m n z.1)
      (λ i. (by i, (ap (committed os) e ∙ ap (λ z. committed z (verdicts choice z)) is) i)) h
