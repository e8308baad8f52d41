-- The values of outcomes, and of memories that outcomes are laid over.
use Rattle.std.specs.Prelude.{◌≡◌, ℕ, List, Some, slice_get, FitsSigned}
use Rattle.std.specs.Int.{w64}
use Rattle.std.specs.List.{AllByRecursion}
use Rattle.std.specs.FinMap as map
use Rattle.al_core.specs.declared.choices.Red.{Red}
use Rattle.al_core.specs.declared.values.Obj.{Obj}
use Rattle.al_core.specs.declared.values.Val.{Val}
use Rattle.al_core.specs.declared.values.Addr.{Addr}
use Rattle.al_core.specs.Memory.{Memory}
use Rattle.al_core.specs.Iteration.{Execution}
use Rattle.al_core.specs.Chunk.{Outcome, outcome}
use Rattle.al_core.specs.Readiness.{IsVal, HasValues}
use Rattle.al_core.specs.Applied.{all_applied}
use Rattle.al_core.specs.Round.{round}
use Rattle.al_core.specs.Run.{Mode, by_mode}
use Rattle.al_core.specs.declared.choices.Choice.{Choice}
use Rattle.al_graded_laws.specs.InRange.{RunsInRange}

-- what a chunk wrote, made and gathered has the sizes of its types
pub record GivesValues (o : Outcome) : Type 0 where
  pub writes : (a : Addr) (v : Val) → map.get o.writes a ≡ Some v → IsVal v
  pub made : (q : Obj) (ws : List Val) (w : ℕ) (v : Val) → map.get o.made q ≡ Some ws → slice_get ws w ≡ Some v
      → IsVal v
  pub sums : AllByRecursion (λ n. FitsSigned w64 n) o.accumulators

abbrev pub OutcomesGiveValues : Type 0
OutcomesGiveValues =
    (x : Execution) → RunsInRange x → (reds : List Red) (m : Memory) (c : ℕ) → HasValues m
    → GivesValues (outcome x reds m c)

-- whichever outcomes are committed, and in whichever order
abbrev pub CommitsKeepValues : Type 0
CommitsKeepValues =
    (reds : List Red) (os : List Outcome) (m : Memory) → AllByRecursion GivesValues os → HasValues m
    → HasValues (all_applied reds os m)

-- ---- whole executions

abbrev pub RoundsKeepValues : Type 0
RoundsKeepValues =
    (x : Execution) → RunsInRange x → (choice : Choice) (cs : List ℕ) (m : Memory) → HasValues m
    → HasValues (round x choice cs m).memory

-- plain, in rounds, or chunk after chunk
abbrev pub ModesKeepValues : Type 0
ModesKeepValues =
    (x : Execution) → RunsInRange x → (lanes : ℕ) (m : Memory) (mode : Mode) → HasValues m
    → HasValues (by_mode x lanes m mode).memory
