use Rattle.std.proofs.Common.{◌+◌, ◌*◌, List, ℤ}
use Rattle.al_exec.specs.Running.{weight, Further}
use Rattle.al_exec.proofs.active.Active.often_here.Given as goal

abbrev pub invariant-often : goal.invariant-often
invariant-often g l =
    (input : List ℤ)
    → Further input l.code l.initial.self (g.V.View.content l.initial.view) l.self (g.V.View.content l.view)

abbrev pub decreases-often : goal.decreases-often
decreases-often g l = weight l.code (2 * l.self.budget + 0) l.self.place
