use Rattle.al_exec.specs.Machines.{Stands}
use Rattle.al_case_loops.proofs.memories.walk_to.Given as goal

abbrev pub invariant-loop-execution : goal.invariant-loop-execution
invariant-loop-execution l = Stands l.code l.machine
