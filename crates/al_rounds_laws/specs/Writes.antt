-- Outcomes of one round that wrote at different addresses.
use Rattle.std.specs.Prelude.{◌≡◌, ◌≢◌, ℕ, true, List, [], IsPermutation}
use Rattle.std.specs.FinSet as set
use Rattle.std.specs.FinSet.{FinSet}
use Rattle.al_core.specs.declared.choices.Choice.{Choice}
use Rattle.al_core.specs.declared.reports.Ending.TheVariants as ending
use Rattle.al_core.specs.Orders.{addr_cmp}
use Rattle.al_core.specs.declared.values.Addr.{Addr}
use Rattle.al_core.specs.Memory.{Memory}
use Rattle.al_core.specs.Iteration.{Execution}
use Rattle.al_core.specs.Chunk.{outcome}
use Rattle.al_core.specs.Readiness.{IsFresh}
use Rattle.al_core.specs.Applied.{applied, all_applied}
use Rattle.al_core.specs.Round.{all_printed, last_ending, outcomes, round}
use Rattle.al_core.specs.Lockstep.{commits}
use Rattle.al_rounds_laws.specs.Loops.{LoopEnd, end_of_round, Each, Pairwise, AreDistinct, LooksAtWrites}

-- What chunks come to that all ran on one memory and are laid over it one after another.
abbrev pub laid_over : Execution → Choice → Memory → List ℕ → LoopEnd
laid_over x choice m cs =
    let os = outcomes x choice.reds m cs in
    record {
      memory = all_applied choice.reds os m;
      printed = all_printed os [];
      ending = last_ending os ending.Done;
    }

-- Under every policy a round comes to what its committed chunks come to on the memory at its start.
abbrev pub RoundIsLaidOver : Type 0
RoundIsLaidOver =
    (x : Execution) (choice : Choice) (m : Memory) (cs : List ℕ)
    → end_of_round (round x choice cs m) ≡ laid_over x choice m (commits (round x choice cs m).verdicts)

-- no address is in both
abbrev pub AreApart : FinSet addr_cmp → FinSet addr_cmp → Type 0
AreApart s t = (a : Addr) → set.contains s a ≡ true → set.contains t a ≡ true → ⊥

-- two chunks on one memory touch no address in common
abbrev pub TouchApart : Execution → Choice → Memory → ℕ → ℕ → Type 0
TouchApart x choice m c d = AreApart (outcome x choice.reds m c).touched (outcome x choice.reds m d).touched

-- Where the policy looks at writes this is so of each two committed chunks of a round.
abbrev pub CommittedTouchApart : Type 0
CommittedTouchApart =
    (x : Execution) (choice : Choice) (m : Memory) (cs : List ℕ) → LooksAtWrites choice.policy
    → Pairwise (TouchApart x choice m) (commits (round x choice cs m).verdicts)

-- Without reductions it does not matter which of two such outcomes is laid over a memory first, whatever that memory.
abbrev pub OutcomesCommute : Type 0
OutcomesCommute =
    (x : Execution) (m : Memory) (c d : ℕ) → c ≢ d → IsFresh x m c → IsFresh x m d
    → AreApart (outcome x [] m c).touched (outcome x [] m d).touched
    → (n : Memory)
    → applied [] (applied [] n (outcome x [] m c)) (outcome x [] m d)
    ≡ applied [] (applied [] n (outcome x [] m d)) (outcome x [] m c)

-- So the committed chunks of a round may be laid over the memory at its start in any order.
abbrev pub AnyOrderIsSame : Type 0
AnyOrderIsSame =
    (x : Execution) (choice : Choice) (m : Memory) (cs ds : List ℕ)
    → choice.reds ≡ [] → LooksAtWrites choice.policy → AreDistinct cs → Each (IsFresh x m) cs
    → IsPermutation (commits (round x choice cs m).verdicts) ds
    → (round x choice cs m).memory ≡ all_applied [] (outcomes x [] m ds) m
