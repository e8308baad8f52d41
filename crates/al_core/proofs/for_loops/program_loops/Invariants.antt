use Rattle.std.proofs.Common.{◌≡◌, map, take}
use Rattle.al_core.specs.Loops.{placed_loops}
use Rattle.al_core.specs.LoopsInPlace.{placed_of}
use Rattle.al_core.proofs.for_loops.program_loops.Given as goal

abbrev pub invariant-loop-func : goal.invariant-loop-func
invariant-loop-func l = map placed_of l.loops ≡ placed_loops (take l.func-index l.typed.funcs)
