-- However an execution runs, its memory keeps values with the sizes of their types.
use Rattle.std.proofs.Common.{ℕ, zero, suc, List, [], ◌∷◌, take, true, false}
use Rattle.al_core.specs.declared.choices.Choice.{Choice}
use Rattle.al_core.specs.declared.choices.Red.{Red}
use Rattle.al_core.specs.declared.reports.Ending.TheVariants as ending
use Rattle.al_core.specs.declared.reports.Verdict.{Verdict}
use Rattle.al_core.specs.Memory.{Memory}
use Rattle.al_core.specs.Iteration.{Execution}
use Rattle.al_core.specs.Chunk.{outcome}
use Rattle.al_core.specs.Readiness.{HasValues}
use Rattle.al_core.specs.Verdicts.{is_committed, cons_if, committed, verdicts}
use Rattle.al_core.specs.Applied.{applied, all_applied}
use Rattle.al_core.specs.Round.{outcomes, round}
use Rattle.al_core.specs.Lockstep.{Rounds, with_round, still_pending, unless_trapped, rounds_from, all_chunks, no_rounds, lockstep}
use Rattle.al_core.specs.Run.{Mode, Plainly, InRounds, InChunks, by_mode, list_or_all}
use Rattle.al_laws.proofs.Commits.{next_round}
use Rattle.al_graded_laws.specs.InRange.{RunsInRange}
use Rattle.al_graded_laws.specs.Commits.{RoundsKeepValues, ModesKeepValues}
use Rattle.al_graded_laws.proofs.Values.{serial_keeps_values, plain_keeps_values}
use Rattle.al_graded_laws.proofs.Committed.{applied_values, outcomes_give_values}

module _ (x : Execution) (h : RunsInRange x) where
  committed_values : (reds : List Red) (m : Memory) → HasValues m → (cs : List ℕ) (vs : List Verdict) (n : Memory) → HasValues n
      → HasValues (all_applied reds (committed (outcomes x reds m cs) vs) n)
  committed_values reds m k [] vs n s = s
  committed_values reds m k (c ∷ cs) [] n s = s
  committed_values reds m k (c ∷ cs) (v ∷ vs) n s =
      let o = outcome x reds m c in
      elim (is_committed v) as (λ b. HasValues (all_applied reds (cons_if b o (committed (outcomes x reds m cs) vs)) n)) [
        | true ↦ committed_values reds m k cs vs (applied reds n o) (applied_values reds n o s (outcomes_give_values x h reds m c k))
        | false ↦ committed_values reds m k cs vs n s
      ]

  round_values : (choice : Choice) (cs : List ℕ) (m : Memory) → HasValues m → HasValues (round x choice cs m).memory
  unfolding round
  round_values choice cs m k = committed_values choice.reds m k cs (verdicts choice (outcomes x choice.reds m cs)) m k

  rounds_values : (n : ℕ) (choice : Choice) (lanes : ℕ) (pending : List ℕ) (s : Rounds) → HasValues s.memory
      → HasValues (rounds_from n x choice lanes pending s).memory
  rounds_values zero choice lanes pending s k = k
  rounds_values (suc n) choice lanes [] s k = k
  rounds_values (suc n) choice lanes (c ∷ cs) s k =
      let r = next_round x choice lanes (c ∷ cs) s in
      let more = rounds_from n x choice lanes (still_pending lanes (c ∷ cs) r) (with_round r s) in
      let now = round_values choice (take lanes (c ∷ cs)) s.memory k in
      elim r.ending as (λ e. HasValues (unless_trapped e (with_round r s) more).memory) [
        | ending.Done ↦ rounds_values n choice lanes (still_pending lanes (c ∷ cs) r) (with_round r s) now
        | ending.Trap t line ↦ now
      ]

  lockstep_values : (choice : Choice) (lanes : ℕ) (m : Memory) → HasValues m → HasValues (lockstep x choice lanes m).memory
  unfolding lockstep
  lockstep_values choice lanes m k = rounds_values _ choice lanes (all_chunks x) (no_rounds m) k

  mode_values : (lanes : ℕ) (m : Memory) (mode : Mode) → HasValues m → HasValues (by_mode x lanes m mode).memory
  mode_values lanes m Plainly k = plain_keeps_values x h m k
  mode_values lanes m (InRounds choice) k = lockstep_values choice lanes m k
  mode_values lanes m (InChunks cs) k = serial_keeps_values x h (list_or_all x cs) m k

pub rounds_keep_values : RoundsKeepValues
rounds_keep_values x h = round_values x h

pub modes_keep_values : ModesKeepValues
modes_keep_values x h = mode_values x h
