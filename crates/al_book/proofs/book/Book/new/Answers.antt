use Rattle.std.proofs.Common.{sym, ◌∙◌}
use Rattle.al_book.proofs.Shelves.{shelf_starts}
use Rattle.al_book.proofs.book.Book.new.Goals as goal

pub with_shelf-requires-clause-shelf : goal.with_shelf-requires-clause-shelf
with_shelf-requires-clause-shelf g c κs within =
    let shelf = c.in_ok-shelf.shelf in
    let law = g.met.T.BookPiece g.world.𝓛 g.world.𝓜 g.world.𝓡 ((λ s x. x), (λ x. x), (λ x. x), λ x. x) in
    let told = c.in_ok-shelf.ensures in (
      (law.stands_where c.args.task shelf).1
          (shelf_starts g.T.Weigh.outcome (g.T.Piece.fits c.args.task) c.choice_of.result.now (g.T.BookPiece.choice c.args.task)
          c.args.lanes (g.T.Piece.lanes c.args.task) shelf c.choice_of.ensures c.requires.lanes.2 told.sound told.made told.empty),
      law.lays shelf ∙ told.empty,
    )
