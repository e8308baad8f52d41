use Rattle.std.proofs.Common.{◌++◌, map, sym, ap, ◌∙◌}
use Rattle.al_core.specs.Loops.{placed, for_loops_in}
use Rattle.al_core.proofs.LoopNodes.{next_func}
use Rattle.al_core.proofs.for_loops.program_loops.Goals as goal

pub loop-func-preserved : goal.loop-func-preserved
loop-func-preserved c =
    let f = c.func-item.result in
    let next = next_func c.as_slice-func-items.result.now c.loop-func.func-index f c.loop-func-test.true c.func-item.is in
    let more = rw c.as_slice-func-items.ensures at next in
    c.in_ok-in_func.ensures ∙ ap (λ ls. ls ++ map (placed f) (for_loops_in f.body)) c.loop-func.invariant ∙ sym more
