use Rattle.al_exec.specs.Machines.{total}
use Rattle.al_exec.proofs.Ongoing.{InGo}
use Rattle.al_exec.proofs.machine.Machine.run_on.Given as goal

abbrev pub invariant-go : goal.invariant-go
invariant-go g l = InGo l.input l.code l.initial.self (g.V.View.content l.initial.view) l.self (g.V.View.content l.view)

abbrev pub decreases-go : goal.decreases-go
decreases-go g l = total l.code l.self
