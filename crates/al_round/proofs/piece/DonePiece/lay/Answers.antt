use Rattle.std.proofs.Common.{length, slice_index}
use Rattle.al_snap.specs.Changes.{told}
use Rattle.al_book.proofs.Shelves.{shelf_grows}
use Rattle.al_round.specs.Rounds.{IsChunkOf}
use Rattle.al_round.proofs.piece.DonePiece.lay.Goals as goal

pub returns-clause-stands : goal.returns-clause-stands
returns-clause-stands g c =
    let t = c.args.task.now in
    shelf_grows (λ d. told d.change)
    (λ lane d. IsChunkOf t.plan.code.now t.plan.info.now t.plan.input.now t.plan.env.now t.plan.choice.now.reds
    (g.S.Store.memory t.store.value) (slice_index t.plan.chunks.now lane) d.change)
    t.plan.choice.now (length t.plan.chunks.now) c.args.shelf.now c.lay.new.self
    c.args.piece c.requires.stands c.requires.fits c.lay.ensures.sound c.lay.ensures.laid c.lay.ensures.same
