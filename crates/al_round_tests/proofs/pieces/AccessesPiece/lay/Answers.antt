use Rattle.std.proofs.Common.{◌≡◌}
use Rattle.al_book.proofs.Shelves.{shelf_grows}
use Rattle.al_round_tests.specs.Outcomes.{accessed}
use Rattle.al_round_tests.proofs.pieces.AccessesPiece.lay.Goals as goal

pub returns-clause-stands : goal.returns-clause-stands
returns-clause-stands c =
    let task = c.args.task.now in
    shelf_grows (λ a. accessed a.reads.members a.touched.members a.ending) (λ lane a. lane ≡ lane) task.choice task.lanes c.args.shelf.now c.lay.new.self
    c.args.piece c.requires.stands c.requires.fits c.lay.ensures.sound c.lay.ensures.laid c.lay.ensures.same
