use Rattle.std.proofs.Common.{length}
use Rattle.al_book.proofs.shelf.+clashes_with_one.Given as goal

abbrev pub decreases-clashes_with_one : goal.decreases-clashes_with_one
decreases-clashes_with_one g l = length l.pieces.now
