use Rattle.std.proofs.Common.{◌≡◌, take}
use Rattle.al_ast.proofs.copies.copy_note.Given as goal

abbrev pub invariant-loop-red : goal.invariant-loop-red
invariant-loop-red l = l.reduce ≡ take l.red-index l.note.reduce
