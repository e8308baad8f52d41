use Rattle.std.proofs.Common.{◌≡◌, ◌++◌, take}
use Rattle.std.specs.List.{flat_map}
use Rattle.al_loop_notes.specs.Uses.{stmt_uses}
use Rattle.al_loop_notes.proofs.uses.+statements.Given as goal

abbrev pub invariant-in_stmts-loop-s : goal.invariant-in_stmts-loop-s
invariant-in_stmts-loop-s l = l.out ≡ l.fn.out ++ flat_map stmt_uses (take l.s-index l.ss)
