use Rattle.std.proofs.Common.{length}
use Rattle.al_board.proofs.Heaps.{pile_grows}
use Rattle.al_batch.specs.Answers.{FitsAt}
use Rattle.al_batch.proofs.jobs.DonePiece.lay.Goals as goal

pub returns-clause-stands : goal.returns-clause-stands
returns-clause-stands g c =
    pile_grows (λ lane done. FitsAt g.W.Work.fits c.args._task.now.now lane done.answer) (length c.args._task.now.now) c.args.shelf.now
    c.lay.new.self c.args.piece c.requires.stands c.requires.fits c.lay.ensures.laid c.lay.ensures.room
