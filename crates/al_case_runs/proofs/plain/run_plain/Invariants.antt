use Rattle.al_exec.specs.Machines.{Stands}
use Rattle.al_case_runs.proofs.plain.run_plain.Given as goal

abbrev pub invariant-loop-execution : goal.invariant-loop-execution
invariant-loop-execution g l = Stands l.code l.machine
