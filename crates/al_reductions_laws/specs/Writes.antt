-- Outcomes of one round that wrote at different addresses, where a loop has reductions.
use Rattle.std.specs.Prelude.{◌≡◌, ◌≢◌, ℕ, List, IsPermutation}
use Rattle.al_core.specs.declared.choices.Choice.{Choice}
use Rattle.al_core.specs.declared.choices.Red.{Red}
use Rattle.al_core.specs.Memory.{Memory}
use Rattle.al_core.specs.Iteration.{Execution}
use Rattle.al_core.specs.Chunk.{outcome}
use Rattle.al_core.specs.Readiness.{IsFresh, HasValues}
use Rattle.al_core.specs.Applied.{applied, all_applied}
use Rattle.al_core.specs.Round.{outcomes, round}
use Rattle.al_core.specs.Lockstep.{commits}
use Rattle.al_rounds_laws.specs.Loops.{Each, AreDistinct, LooksAtWrites}
use Rattle.al_rounds_laws.specs.Writes.{AreApart}
use Rattle.al_reductions_laws.specs.Serial.{RunsReducing}

-- It does not matter which of two outcomes that touch no address in common is laid over a memory first, whatever that
-- memory: a reduction variable is joined with both accumulators.
abbrev pub OutcomesCommute : Type 0
OutcomesCommute =
    (x : Execution) (reds : List Red) (m : Memory) (c d : ℕ) → RunsReducing x reds → HasValues m → c ≢ d
    → IsFresh x m c → IsFresh x m d → AreApart (outcome x reds m c).touched (outcome x reds m d).touched
    → (n : Memory) → HasValues n
    → applied reds (applied reds n (outcome x reds m c)) (outcome x reds m d)
    ≡ applied reds (applied reds n (outcome x reds m d)) (outcome x reds m c)

-- So the committed chunks of a round may be laid over the memory at its start in any order.
abbrev pub AnyOrderIsSame : Type 0
AnyOrderIsSame =
    (x : Execution) (choice : Choice) (m : Memory) (cs ds : List ℕ)
    → RunsReducing x choice.reds → LooksAtWrites choice.policy → HasValues m → AreDistinct cs
    → Each (IsFresh x m) cs → IsPermutation (commits (round x choice cs m).verdicts) ds
    → (round x choice cs m).memory ≡ all_applied choice.reds (outcomes x choice.reds m ds) m
