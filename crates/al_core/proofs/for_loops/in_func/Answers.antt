use Rattle.std.proofs.Common.{◌≡◌, ◌++◌, take, map, ap, ◌∙◌, arith}
use Rattle.std.proofs.lemmas.Grind.{common_steps}
use Rattle.al_core.specs.Loops.{placed}
use Rattle.al_core.specs.LoopsInPlace.{loop_of, placed_of}
use Rattle.al_core.proofs.LoopNodes.{loops_in}
use Rattle.al_core.proofs.for_loops.in_func.Goals as goal

pub returns : goal.returns
returns c =
    let all : take c.loop-parts.parts-index c.as_slice-parts-items.result.now ≡ c.as_slice-parts-items.result.now = grind (arith, common_steps) in
    let found = rw (c.new-loops.ensures, c.as_slice.ensures, ← loops_in) at c.in_ok-in_stmts.ensures in
    c.loop-parts.invariant
    ∙ ap (λ xs. map placed_of c.args.out.now ++ map (placed c.args.func.now) (map loop_of xs)) (all ∙ c.as_slice-parts-items.ensures)
    ∙ ap (λ ls. map placed_of c.args.out.now ++ map (placed c.args.func.now) ls) found
