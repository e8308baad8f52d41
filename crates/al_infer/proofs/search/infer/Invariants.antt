use Rattle.std.proofs.Common.{ℕ, ◌≡◌, ◌<◌, IfOk, length, slice_index_or}
use Rattle.al_infer.specs.Findings.{IsFinding}
use Rattle.al_infer.proofs.search.infer.Given as goal

abbrev pub invariant-loop-test : goal.invariant-loop-test
invariant-loop-test g l =
    (length l.rows.items ≡ l.candidates)
    × ((k : ℕ) (d : _) → k < l.candidates → IfOk (slice_index_or l.rows.items k d) (IsFinding (g.T.Trial.told l.trial) l.test k))
