use Rattle.al_exec.specs.Starts.{HasRoom}
use Rattle.al_case_runs.proofs.plain.iterations.Given as goal

abbrev pub invariant-loop-j : goal.invariant-loop-j
invariant-loop-j g l = HasRoom l.code l.info l.machine
