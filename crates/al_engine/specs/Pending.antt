-- The chunks that are pending, and what a round leaves.
use Rattle.std.specs.Prelude.{◌≡◌, ℕ, ◌<◌, List}
use Rattle.std.specs.List.{AllByRecursion}
use Rattle.al_core.specs.Memory.{Memory}
use Rattle.al_core.specs.Round.{Round, with_chunks}
use Rattle.al_core.specs.Lockstep.{Rounds, with_round, still_pending}
use Rattle.al_round.specs.declared.report.RoundReport.{RoundReport}

-- chunks of so many
abbrev pub ArePending : ℕ → List ℕ → Type 0
ArePending count chunks = AllByRecursion (λ c. c < count) chunks

-- a round of these chunks that left this memory
abbrev pub report_of : List ℕ → Memory → RoundReport → Round
report_of chunks m r = record {
  verdicts = with_chunks chunks r.verdicts;
  memory = m;
  printed = r.printed;
  ending = r.ending;
  longest = r.longest;
}

-- the round comes after the earlier ones, and its committed chunks are taken away
pub record GoesOn (lanes : ℕ) (pending : List ℕ) (r : Round) (so_far new : Rounds) (left : List ℕ) : Type 0 where
  pub comes : new ≡ with_round r so_far
  pub stay : left ≡ still_pending lanes pending r
