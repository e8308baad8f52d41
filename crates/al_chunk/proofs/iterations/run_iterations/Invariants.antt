use Rattle.std.proofs.Common.{◌≡◌, ◌-◌, ◌*◌, ◌≤◌}
use Rattle.al_core.specs.Iteration.{iterations, add_steps}
use Rattle.al_exec.specs.Starts.{HasRoom}
use Rattle.al_chunk.specs.Loops.{InEachTree}
use Rattle.al_chunk.proofs.iterations.run_iterations.Given as goal

abbrev pub invariant-loop-j : goal.invariant-loop-j
invariant-loop-j g l =
    let content = g.V.View.content in
    record {
      exact : InEachTree l.code l.info l.input l.env (λ x.
          add_steps l.steps (iterations x (l.j-end - l.j) l.j (content l.view)) ≡ iterations x l.count l.first (content l.fn.view));
      few : l.steps ≤ (l.j - l.first) * l.env.iter_steps;
      room : HasRoom l.code l.info l.machine;
    }
