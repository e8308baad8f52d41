use Rattle.std.proofs.Common.{◌≡◌, take}
use Rattle.al_ast.proofs.copies.+expressions.Given as goal

abbrev pub invariant-copy_exprs-loop-x : goal.invariant-copy_exprs-loop-x
invariant-copy_exprs-loop-x l = l.copy ≡ take l.x-index l.xs
