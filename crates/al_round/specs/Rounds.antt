-- Rounds, as code runs them.
use Rattle.std.specs.Prelude.{◌≡◌, ◌<◌, ℕ, List, [], ◌++◌, length, Some, slice_get, All, ℤ}
use Rattle.std.specs.Int.{div_ceil}
use Rattle.al_core.specs.declared.choices.Choice.{Choice}
use Rattle.al_core.specs.declared.choices.LoopInfo.{LoopInfo}
use Rattle.al_core.specs.declared.choices.Red.{Red}
use Rattle.al_core.specs.declared.reports.Ending.{Ending}
use Rattle.al_core.specs.declared.reports.Ending.TheVariants as ends
use Rattle.al_core.specs.declared.reports.Verdict.{Verdict}
use Rattle.al_core.specs.Memory.{Memory}
use Rattle.al_core.specs.Iteration.{Execution}
use Rattle.al_core.specs.Chunk.{Outcome, outcome}
use Rattle.al_core.specs.Verdicts.{verdicts, committed}
use Rattle.al_core.specs.Applied.{all_applied}
use Rattle.al_core.specs.Round.{with_chunks, all_printed, last_ending, most_steps, outcomes, round}
use Rattle.al_code.specs.declared.lowered.Code.{Code}
use Rattle.al_code.specs.Valid.{IsValid}
use Rattle.al_snap.specs.declared.change.Change.{Change}
use Rattle.al_snap.specs.Changes.{IsOutcome}
use Rattle.al_chunk.specs.declared.env.LoopEnv.{LoopEnv}
use Rattle.al_chunk.specs.Loops.{IsBounded, InEachTree}
use Rattle.al_round.specs.declared.report.RoundReport.{RoundReport}

-- the loop is one of the valid code, its execution is within the limits, and each chunk is one of the execution
pub record MayRun (code : Code) (info : LoopInfo) (env : LoopEnv) (chunks : List ℕ) : Type 0 where
  pub valid : IsValid code
  pub one : slice_get code.loops info.number ≡ Some info
  pub bounded : IsBounded env
  pub there : All (λ c. c < div_ceil env.trips env.chunk) chunks

-- the change is what a chunk does to a memory
abbrev pub IsChunkOf : Code → LoopInfo → List ℤ → LoopEnv → List Red → Memory → ℕ → Change → Type 0
IsChunkOf code info input env reds m chunk change =
    InEachTree code info input env (λ x. IsOutcome change (outcome x reds m chunk))

-- the definition's round of these chunks, from the memory m, leaves the memory n and comes to this
pub record IsRound (x : Execution) (choice : Choice) (chunks : List ℕ) (m n : Memory) (r : RoundReport) : Type 0 where
  pub each : length r.verdicts ≡ length chunks
  pub verdicts : with_chunks chunks r.verdicts ≡ (round x choice chunks m).verdicts
  pub memory : n ≡ (round x choice chunks m).memory
  pub printed : r.printed ≡ (round x choice chunks m).printed
  pub ending : r.ending ≡ (round x choice chunks m).ending
  pub longest : r.longest ≡ (round x choice chunks m).longest

-- the memory n is the memory m with the first of these outcomes laid over it
pub record HasLaidFirst (reds : List Red) (m n : Memory) (os : List Outcome) : Type 0 where
  pub done : List Outcome
  pub left : List Outcome
  pub whole : done ++ left ≡ os
  pub memory : n ≡ all_applied reds done m

-- the first of the committed chunks of a round were laid over the memory
abbrev pub HasBegun : Execution → Choice → List ℕ → Memory → Memory → Type 0
HasBegun x choice chunks m n =
    let os = outcomes x choice.reds m chunks in
    HasLaidFirst choice.reds m n (committed os (verdicts choice os))

-- some outcomes are kept, and these are left: the memory, the bytes and the ending are those of the kept ones
pub record IsKept (reds : List Red) (m : Memory) (os left : List Outcome) (n : Memory) (printed : List ℕ)
    (ending : Ending) : Type 0 where
  pub done : List Outcome
  pub whole : done ++ left ≡ os
  pub memory : n ≡ all_applied reds done m
  pub bytes : printed ≡ all_printed done []
  pub last : ending ≡ last_ending done ends.Done

-- of outcomes with these verdicts the committed ones are kept
pub record IsSettled (reds : List Red) (m n : Memory) (os : List Outcome) (vs : List Verdict) (r : RoundReport)
    : Type 0 where
  pub verdicts_are : r.verdicts ≡ vs
  pub most : r.longest ≡ most_steps os 0
  pub kept : IsKept reds m (committed os vs) [] n r.printed r.ending
