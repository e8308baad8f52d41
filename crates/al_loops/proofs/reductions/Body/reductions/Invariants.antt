use Rattle.std.proofs.Common.{◌≡◌, ◌≤◌, [], drop, length}
use Rattle.al_source.specs.declared.limits.TheConstants.{TRIED_REDUCTIONS}
use Rattle.al_rules.specs.Candidates.{reduction_of}
use Rattle.al_loops.proofs.Chosen.{counted}
use Rattle.al_loops.proofs.reductions.Body.reductions.Given as goal

abbrev pub invariant-loop-a : goal.invariant-loop-a
invariant-loop-a l =
    (length l.reds ≤ TRIED_REDUCTIONS)
    × (counted (reduction_of l.self.program.now.typed.now l.self.info.now l.self.stmt.now) TRIED_REDUCTIONS l.reds (drop l.a-index l.names)
    ≡ counted (reduction_of l.self.program.now.typed.now l.self.info.now l.self.stmt.now) TRIED_REDUCTIONS [] l.names)
