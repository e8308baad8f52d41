use Rattle.al_exec.specs.Machines.{Stands}
use Rattle.al_case_loops.proofs.stores.store_to_loop.Given as goal

abbrev pub invariant-loop-execution : goal.invariant-loop-execution
invariant-loop-execution g l = Stands l.code l.machine
