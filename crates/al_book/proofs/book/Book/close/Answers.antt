use Rattle.al_board.specs.Seen.{task_of}
use Rattle.al_book.proofs.Books.{judged_round}
use Rattle.al_book.proofs.book.Book.close.Goals as goal

pub returns : goal.returns
returns g c =
    let shelf = c.close_shelf.result in
    let law = g.met.T.BookPiece g.world.𝓛 g.world.𝓜 g.world.𝓡 ((λ s x. x), (λ x. x), (λ x. x), λ x. x) in
    let told = c.close_shelf.ensures in
    let stands = (law.stands_where (task_of c.args.self.board) shelf).0 told.stands in
    record {
      judged = judged_round g.T.Piece.fits g.T.Weigh.outcome g.T.BookPiece.choice c.args.self.board c.args.pass _ shelf (g.T.Piece.laid shelf)
          (law.lays shelf) stands told.each told.fit told.history told.given;
    }
