use Rattle.std.proofs.Common.{◌≡◌, ◌++◌, take, map}
use Rattle.std.specs.List.{flat_map}
use Rattle.al_core.specs.Loops.{for_loops}
use Rattle.al_core.specs.LoopsInPlace.{loop_of}
use Rattle.al_core.proofs.for_loops.+statements.Given as goal

abbrev pub invariant-in_stmts-loop-s : goal.invariant-in_stmts-loop-s
invariant-in_stmts-loop-s l = map loop_of l.out ≡ map loop_of l.fn.out ++ flat_map for_loops (take l.s-index l.ss)
