use Rattle.al_exec.specs.Machines.{Stands}
use Rattle.chunk_speed.proofs.run.Given as goal

abbrev pub invariant-loop-execution : goal.invariant-loop-execution
invariant-loop-execution g l = Stands l.code l.machine
