use Rattle.std.proofs.Common.{◌≡◌, ◌-◌, ◌*◌, ◌≤◌}
use Rattle.al_core.specs.Iteration.{iterations, add_steps}
use Rattle.al_plain.specs.Executions.{execution_of}
use Rattle.al_plain.proofs.iterations.iterations.Given as goal

abbrev pub invariant-loop-j : goal.invariant-loop-j
invariant-loop-j l = record {
  runs : add_steps l.steps (iterations (execution_of l.x) (l.j-end - l.j) l.j l.content) ≡ iterations (execution_of l.x) l.fn.count l.fn.first l.fn.content;
  few : l.steps ≤ (l.j - l.fn.first) * 18446744073709551616;
}
