use Rattle.std.proofs.Common.{◌≡◌, take}
use Rattle.al_ast.proofs.copies.copy_format.Given as goal

abbrev pub invariant-loop-piece : goal.invariant-loop-piece
invariant-loop-piece l = l.copy ≡ take l.piece-index l.format
