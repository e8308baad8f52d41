use Rattle.std.proofs.Common.{◌≡◌, ◌++◌, map, take}
use Rattle.al_core.specs.Loops.{placed}
use Rattle.al_core.specs.LoopsInPlace.{loop_of, placed_of}
use Rattle.al_core.proofs.for_loops.in_func.Given as goal

abbrev pub invariant-loop-parts : goal.invariant-loop-parts
invariant-loop-parts l =
    map placed_of l.out ≡ map placed_of l.fn.out ++ map (placed l.func) (map loop_of (take l.parts-index l.parts-items))
