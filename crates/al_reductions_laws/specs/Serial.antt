-- Rounds of a loop with reductions are serial: what its chunks come to, each with its accumulators, is what they come
-- to one after another on a memory in which the reduction variables lie.
use Rattle.std.specs.Prelude.{◌≡◌, ◌≢◌, ℕ, ◌<◌, true, List}
use Rattle.al_core.specs.declared.choices.Choice.{Choice}
use Rattle.al_core.specs.declared.choices.Red.{Red}
use Rattle.al_core.specs.Memory.{Memory}
use Rattle.al_core.specs.Iteration.{Execution}
use Rattle.al_core.specs.Chunk.{outcome, chunk_runs}
use Rattle.al_core.specs.Applied.{applied}
use Rattle.al_core.specs.Accepted.{IsAccepted}
use Rattle.al_core.specs.Verdicts.{is_in_order}
use Rattle.al_core.specs.Round.{round}
use Rattle.al_core.specs.Lockstep.{commits, all_chunks, lockstep, commits_of}
use Rattle.al_core.specs.Serial.{direct, plain_loop, serial}
use Rattle.al_laws.specs.DirectRuns.{RunsAs}
use Rattle.al_graded_laws.specs.InRange.{RunsInRange}
use Rattle.al_rounds_laws.specs.Loops.{end_of, end_of_round, end_of_rounds, Each, AreDistinct, LooksAtReads}
use Rattle.al_reductions_laws.specs.Reducible.{IsReducible}

-- the numbers of an execution have their sizes, and these reductions are accepted for its loop
pub record RunsReducing (x : Execution) (reds : List Red) : Type 0 where
  pub numbers : RunsInRange x
  pub accepted : IsAccepted x.typed x.loop reds

-- ---- a chunk

-- With the accumulators joined to the reduction variables, a chunk comes to what its iterations come to on the memory
-- itself.
abbrev pub ChunkIsDirectRun : Type 0
ChunkIsDirectRun =
    (x : Execution) (reds : List Red) (m : Memory) (c : ℕ) → RunsReducing x reds → IsReducible x reds m c
    → RunsAs reds m (outcome x reds m c) (chunk_runs x c (direct x m))

-- Once it is committed, any other chunk may still run.
abbrev pub OthersStayReducible : Type 0
OthersStayReducible =
    (x : Execution) (reds : List Red) (m : Memory) (c d : ℕ) → RunsReducing x reds → c ≢ d
    → IsReducible x reds m c → IsReducible x reds m d → IsReducible x reds (applied reds m (outcome x reds m c)) d

-- ---- one round

-- The memory, the bytes and the ending of a round are those of its committed chunks run one after another.
abbrev pub RoundIsSerial : Type 0
RoundIsSerial =
    (x : Execution) (choice : Choice) (m : Memory) (cs : List ℕ)
    → RunsReducing x choice.reds → LooksAtReads choice.policy → AreDistinct cs
    → Each (IsReducible x choice.reds m) cs
    → end_of_round (round x choice cs m) ≡ end_of (serial x (commits (round x choice cs m).verdicts) m)

-- After it, each chunk that was not committed may still run.
abbrev pub RoundKeepsReducible : Type 0
RoundKeepsReducible =
    (x : Execution) (choice : Choice) (m : Memory) (cs : List ℕ)
    → RunsReducing x choice.reds → LooksAtReads choice.policy → AreDistinct cs
    → Each (IsReducible x choice.reds m) cs → (d : ℕ) → Each (λ c. c ≢ d) (commits (round x choice cs m).verdicts)
    → IsReducible x choice.reds m d → IsReducible x choice.reds (round x choice cs m).memory d

-- ---- all rounds

-- Those of all rounds of an execution are those of its chunks run one after another in commit order.
abbrev pub LockstepIsSerial : Type 0
LockstepIsSerial =
    (x : Execution) (choice : Choice) (lanes : ℕ) (m : Memory)
    → RunsReducing x choice.reds → LooksAtReads choice.policy → Each (IsReducible x choice.reds m) (all_chunks x)
    → end_of_rounds (lockstep x choice lanes m) ≡ end_of (serial x (commits_of (lockstep x choice lanes m).rounds) m)

-- In order throughout they are those of the plain loop.
abbrev pub LockstepIsPlain : Type 0
LockstepIsPlain =
    (x : Execution) (choice : Choice) (lanes : ℕ) (m : Memory)
    → RunsReducing x choice.reds → LooksAtReads choice.policy → is_in_order choice.order ≡ true
    → 0 < lanes → 0 < x.factor → Each (IsReducible x choice.reds m) (all_chunks x)
    → end_of_rounds (lockstep x choice lanes m) ≡ end_of (plain_loop x m)
