use Rattle.std.proofs.Common.{rules, refl}
use Rattle.al_book.proofs.Shelves.{sound_new}
use Rattle.al_book.proofs.shelf.Bookshelf.new.Goals as goal

pub returns-clause-sound : goal.returns-clause-sound
returns-clause-sound g c =
    sound_new g.T.Weigh.outcome _ c.requires (search rules) (search rules) c.in_ok-pieces.ensures.items c.in_ok-verdicts.ensures.items refl refl
