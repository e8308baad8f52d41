use Rattle.std.proofs.Common.{◌≡◌, drop}
use Rattle.al_engine.specs.Counting.{with_rounds}
use Rattle.al_engine.specs.Executions.{counts_of}
use Rattle.al_engine.proofs.counts.Counts.count_each.Given as goal

abbrev pub invariant-loop-round : goal.invariant-loop-round
invariant-loop-round l = with_rounds (drop l.round-index l.rounds) (counts_of l.self) ≡ with_rounds l.rounds (counts_of l.fn.self)
