use Rattle.std.proofs.Common.{◌≡◌, take}
use Rattle.al_ast.proofs.copies.+statements.Given as goal

abbrev pub invariant-copy_stmts-loop-s : goal.invariant-copy_stmts-loop-s
invariant-copy_stmts-loop-s l = l.copy ≡ take l.s-index l.ss
