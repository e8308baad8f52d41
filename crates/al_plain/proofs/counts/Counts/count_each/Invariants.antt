use Rattle.std.proofs.Common.{◌≡◌, drop}
use Rattle.al_plain.specs.Counting.{with_rounds}
use Rattle.al_plain.proofs.counts.Counts.count_each.Given as goal

abbrev pub invariant-loop-round : goal.invariant-loop-round
invariant-loop-round l = with_rounds (drop l.round-index l.rounds) l.self ≡ with_rounds l.rounds l.fn.self
