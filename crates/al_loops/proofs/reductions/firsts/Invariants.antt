use Rattle.std.proofs.Common.{◌≡◌, [], drop}
use Rattle.al_rules.specs.Candidates.{firsts}
use Rattle.al_loops.proofs.Chosen.{firsts_after}
use Rattle.al_loops.proofs.reductions.firsts.Given as goal

abbrev pub invariant-loop-a : goal.invariant-loop-a
invariant-loop-a l = firsts_after l.seen (drop l.a-index l.names) ≡ firsts [] l.names
