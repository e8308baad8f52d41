use Rattle.std.proofs.Common.{◌≡◌, ◌*◌, ◌+◌}
use Rattle.al_board.proofs.Heaps.{pile_grows}
use Rattle.al_board_tests.proofs.marks.MarkPiece.lay.Goals as goal

pub returns-clause-stands : goal.returns-clause-stands
returns-clause-stands c = pile_grows (λ lane piece. piece.value ≡ 2 * lane + 1) c.args.task.now c.args.shelf.now c.lay.new.self c.args.piece
    c.requires.stands c.requires.fits c.lay.ensures.laid c.lay.ensures.room
