use Rattle.std.proofs.Common.{ℕ, ◌≡◌, ◌<◌, ◌^◌, None, length, slice_index_or}
use Rattle.al_infer.specs.declared.outcomes.Outcome.{Outcome}
use Rattle.al_infer.proofs.search.plain_runs.Given as goal

abbrev pub invariant-loop-test : goal.invariant-loop-test
invariant-loop-test g l =
    (length l.plains.items ≡ l.test)
    × ((t : ℕ) (d : Outcome) → t < l.test → slice_index_or l.plains.items t d ≡ g.T.Trial.told l.trial None t)
    × ((t : ℕ) (d : Outcome) → t < l.test → (slice_index_or l.plains.items t d).span < 2 ^ 100)
