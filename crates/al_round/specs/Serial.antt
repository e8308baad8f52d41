-- What a round comes to, chunk after chunk.
use Rattle.std.specs.Prelude.{◌≡◌, ℕ, true, List, ◌++◌, IsPermutation}
use Rattle.al_core.specs.declared.choices.Choice.{Choice}
use Rattle.al_core.specs.Applied.{all_applied}
use Rattle.al_core.specs.Iteration.{Execution}
use Rattle.al_core.specs.Lockstep.{commits, not_committed}
use Rattle.al_core.specs.Memory.{Memory}
use Rattle.al_core.specs.Readiness.{IsFresh, HasValues}
use Rattle.al_core.specs.Round.{outcomes, with_chunks}
use Rattle.al_core.specs.Serial.{serial}
use Rattle.al_core.specs.Verdicts.{is_in_order}
use Rattle.al_rounds_laws.specs.Loops.{LoopEnd, end_of, Each, Pairwise, AreDistinct, LooksAtReads, LooksAtWrites}
use Rattle.al_rounds_laws.specs.Writes.{TouchApart}
use Rattle.al_reductions_laws.specs.Reducible.{IsReducible}
use Rattle.al_reductions_laws.specs.Serial.{RunsReducing}
use Rattle.al_round.specs.declared.report.RoundReport.{RoundReport}

-- what a round that left this memory came to
abbrev pub end_of_report : Memory → RoundReport → LoopEnd
end_of_report n r = record { memory = n; printed = r.printed; ending = r.ending }

abbrev pub committed_in : List ℕ → RoundReport → List ℕ
committed_in chunks r = commits (with_chunks chunks r.verdicts)

-- a round of these chunks, from the memory m to the memory n
module _ (x : Execution) (choice : Choice) (chunks : List ℕ) (m n : Memory) (r : RoundReport) where
  -- Under a policy that looks at reads, as RAW and FULL do, memory, bytes and ending are those of the committed chunks
  -- one after another, where each chunk may run with the reductions.
  abbrev pub IsSerialRound : Type 0
  IsSerialRound =
      RunsReducing x choice.reds → LooksAtReads choice.policy → AreDistinct chunks
      → Each (IsReducible x choice.reds m) chunks
      → end_of_report n r ≡ end_of (serial x (committed_in chunks r) m)

  -- In order the committed chunks are the first ones.
  abbrev pub CommitsFirst : Type 0
  CommitsFirst =
      is_in_order choice.order ≡ true
      → chunks ≡ committed_in chunks r ++ not_committed (with_chunks chunks r.verdicts)

  -- Under a policy that looks at writes, as WAW and FULL do, two committed chunks touch no address in common, each on
  -- the memory at the round's start.
  abbrev pub CommitsApart : Type 0
  CommitsApart = LooksAtWrites choice.policy → Pairwise (TouchApart x choice m) (committed_in chunks r)

  -- Then the memory is the one at the start with the committed outcomes laid over it in any order, reductions included.
  abbrev pub CommitsInAnyOrder : Type 0
  CommitsInAnyOrder =
      RunsReducing x choice.reds → LooksAtWrites choice.policy → HasValues m → AreDistinct chunks
      → Each (IsFresh x m) chunks → (ds : List ℕ) → IsPermutation (committed_in chunks r) ds
      → n ≡ all_applied choice.reds (outcomes x choice.reds m ds) m
