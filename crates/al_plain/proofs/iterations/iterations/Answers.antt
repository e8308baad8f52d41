use Rattle.std.proofs.Common.{◌≡◌, ◌+◌, ◌-◌, suc, sym, ap, arith, ◌∙◌}
use Rattle.al_core.specs.Iteration.{Finished}
use Rattle.al_plain.specs.Executions.{execution_of}
use Rattle.al_plain.proofs.InTurn.{goes_on}
use Rattle.al_plain.proofs.iterations.iterations.Goals as goal

pub loop-j-preserved : goal.loop-j-preserved
loop-j-preserved c =
    let l = c.loop-j in
    let end = c.args.first + c.args.count in
    let r : Finished = record { ending = c.r.inside.ending; steps = c.r.inside.steps; content = c.r.inside.content } in
    let more : end - l.j ≡ suc (end - (l.j + 1)) = omega arith in
    let next : l.j + 1 ≡ suc l.j = omega arith in
    record {
      runs =
          sym (goes_on (execution_of c.args.x.now) (end - l.j) (end - (l.j + 1)) l.j (l.j + 1) l.steps l.content r more next
          (c.r.view_is ∙ c.in_ok-r.ensures.exact) c.in-Done.is) ∙ l.invariant.runs;
      few = omega (arith, l.invariant.few, c.in_ok-r.ensures.few, ap (λ (f : Finished). f.steps) c.r.view_is);
    }
