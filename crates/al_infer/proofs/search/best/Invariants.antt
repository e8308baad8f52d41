use Rattle.std.proofs.Common.{◌≡◌, ◌≤◌, length, drop}
use Rattle.al_infer.specs.Findings.{best_from}
use Rattle.al_infer.proofs.search.best.Given as goal

abbrev pub invariant-loop-k : goal.invariant-loop-k
invariant-loop-k l = (l.k ≤ length l.rows) × (l.best ≡ best_from l.k (drop l.k l.rows))

abbrev pub decreases-loop-k : goal.decreases-loop-k
decreases-loop-k l = l.k
