-- Chunks that are committed in order.
use Rattle.std.specs.Prelude.{◌≡◌, ℕ, ◌<◌, true, List, [], ◌∷◌, ◌++◌}
use Rattle.al_core.specs.declared.choices.Choice.{Choice}
use Rattle.al_core.specs.declared.reports.Ending.{Ending}
use Rattle.al_core.specs.declared.reports.Ending.TheVariants as ending
use Rattle.al_core.specs.declared.reports.Judged.{Judged}
use Rattle.al_core.specs.Memory.{Memory}
use Rattle.al_core.specs.Iteration.{Execution}
use Rattle.al_core.specs.Verdicts.{is_in_order}
use Rattle.al_core.specs.Round.{round}
use Rattle.al_core.specs.Lockstep.{not_committed, commits, all_chunks, lockstep, commits_of}
use Rattle.al_rounds_laws.specs.Loops.{Pairwise}

-- of a list of chunks the first ones, and all of them where what they come to has no trap
pub record IsPrefix (all firsts : List ℕ) (e : Ending) : Type 0 where
  pub left : List ℕ
  pub split : all ≡ firsts ++ left
  pub all_done : e ≡ ending.Done → left ≡ []

-- In order the committed chunks of a round come before its other ones.
abbrev pub RoundIsInOrder : Type 0
RoundIsInOrder =
    (x : Execution) (choice : Choice) (m : Memory) (cs : List ℕ) → is_in_order choice.order ≡ true
    → cs ≡ commits (round x choice cs m).verdicts ++ not_committed (round x choice cs m).verdicts

-- Over all rounds they are the first ones of all chunks in ascending order, and all of them where there was no trap.
abbrev pub LockstepIsInOrder : Type 0
LockstepIsInOrder =
    (x : Execution) (choice : Choice) (lanes : ℕ) (m : Memory) → is_in_order choice.order ≡ true → 0 < lanes
    → IsPrefix (all_chunks x) (commits_of (lockstep x choice lanes m).rounds) (lockstep x choice lanes m).ending

-- ---- in every order

-- each is below each later one
abbrev pub Ascend : List ℕ → Type 0
Ascend = Pairwise (λ c d. c < d)

-- Where the chunks of a round ascend, so do its committed ones.
abbrev pub RoundAscends : Type 0
RoundAscends =
    (x : Execution) (choice : Choice) (m : Memory) (cs : List ℕ) → Ascend cs
    → Ascend (commits (round x choice cs m).verdicts)

abbrev pub EachRound : (List Judged → Type 0) → List (List Judged) → Type 0
EachRound P [] = Unit {0}
EachRound P (r ∷ rs) = P r × EachRound P rs

-- In each round of an execution they do.
abbrev pub RoundsAscend : Type 0
RoundsAscend =
    (x : Execution) (choice : Choice) (lanes : ℕ) (m : Memory)
    → EachRound (λ js. Ascend (commits js)) (lockstep x choice lanes m).rounds
