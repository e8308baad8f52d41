use Rattle.std.proofs.Common.{refl}
use Rattle.al_book.proofs.Shelves.{sound_next}
use Rattle.al_book.proofs.shelf.Bookshelf.lay.Goals as goal

pub returns-clause-sound : goal.returns-clause-sound
returns-clause-sound g c =
    sound_next g.T.Weigh.outcome c.args.self.now c.args.piece c.requires.sound _ c.verdict-verdict.result c.verdict-verdict.ensures refl refl
    c.push_reserved-2.ensures.capacity c.push_reserved.ensures.capacity c.push_reserved-2.ensures.items c.push_reserved.ensures.items
    c.failed_after-self.ensures c.trapped_after-self.ensures
