-- Rounds are serial: what chunks that run at the same time come to is what they come to one after another.
use Rattle.std.specs.Prelude.{◌≡◌, ℕ, ◌<◌, true, false, List, []}
use Rattle.al_core.specs.declared.choices.Choice.{Choice}
use Rattle.al_core.specs.declared.values.Obj.{Obj}
use Rattle.al_core.specs.Memory.{Memory, has_object}
use Rattle.al_core.specs.Iteration.{Execution}
use Rattle.al_core.specs.Readiness.{IsNameFrom, IsFresh}
use Rattle.al_core.specs.Verdicts.{is_in_order}
use Rattle.al_core.specs.Round.{round}
use Rattle.al_core.specs.Lockstep.{commits, all_chunks, lockstep, commits_of}
use Rattle.al_core.specs.Serial.{plain_loop, serial}
use Rattle.al_rounds_laws.specs.Loops.{end_of, end_of_round, end_of_rounds, Each, AreDistinct, LooksAtReads}

-- ---- names

-- no object has a name that the iterations of the execution may give
abbrev pub IsUnnamed : Execution → Memory → Type 0
IsUnnamed x m = (o : Obj) → IsNameFrom x.number 0 x.trips o → has_object m o ≡ false

abbrev pub UnnamedIsFresh : Type 0
UnnamedIsFresh = (x : Execution) (m : Memory) → IsUnnamed x m → Each (IsFresh x m) (all_chunks x)

-- ---- one round

-- The memory, the bytes and the ending of a round are those of its committed chunks run one after another.
abbrev pub RoundIsSerial : Type 0
RoundIsSerial =
    (x : Execution) (choice : Choice) (m : Memory) (cs : List ℕ)
    → choice.reds ≡ [] → LooksAtReads choice.policy → AreDistinct cs → Each (IsFresh x m) cs
    → end_of_round (round x choice cs m) ≡ end_of (serial x (commits (round x choice cs m).verdicts) m)

-- ---- all rounds

-- Those of all rounds of an execution are those of its chunks run one after another in commit order.
abbrev pub LockstepIsSerial : Type 0
LockstepIsSerial =
    (x : Execution) (choice : Choice) (lanes : ℕ) (m : Memory)
    → choice.reds ≡ [] → LooksAtReads choice.policy → Each (IsFresh x m) (all_chunks x)
    → end_of_rounds (lockstep x choice lanes m) ≡ end_of (serial x (commits_of (lockstep x choice lanes m).rounds) m)

-- In order throughout they are those of the plain loop.
abbrev pub LockstepIsPlain : Type 0
LockstepIsPlain =
    (x : Execution) (choice : Choice) (lanes : ℕ) (m : Memory)
    → choice.reds ≡ [] → LooksAtReads choice.policy → is_in_order choice.order ≡ true
    → 0 < lanes → 0 < x.factor → Each (IsFresh x m) (all_chunks x)
    → end_of_rounds (lockstep x choice lanes m) ≡ end_of (plain_loop x m)

-- ---- the plain loop

-- All chunks one after another are the plain loop, steps included.
abbrev pub SerialIsPlain : Type 0
SerialIsPlain = (x : Execution) (m : Memory) → 0 < x.factor → serial x (all_chunks x) m ≡ plain_loop x m
