use Rattle.std.proofs.Common.{◌+◌, ◌*◌}
use Rattle.al_exec.specs.Running.{weight, Further}
use Rattle.al_exec.proofs.active.Active.run.Given as goal

abbrev pub invariant-run : goal.invariant-run
invariant-run g l = Further l.input l.code l.initial.self (g.V.View.content l.initial.view) l.self (g.V.View.content l.view)

abbrev pub decreases-run : goal.decreases-run
decreases-run g l = weight l.code (2 * l.self.budget + 0) l.self.place
