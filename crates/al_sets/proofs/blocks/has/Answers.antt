use Rattle.std.proofs.Common.{ap, sym, subst, ◌∙◌}
use Rattle.al_planes.specs.Masks.{bit_in}
use Rattle.al_sets.specs.Places.{place_of}
use Rattle.al_sets.specs.Blocks.{IsAt, IsGapFor}
use Rattle.al_sets.proofs.Found.{address_in_block, no_address}
use Rattle.al_sets.proofs.blocks.has.Goals as goal

pub returns-in-Ok : goal.returns-in-Ok
returns-in-Ok c =
    let at : IsAt c.args.blocks.now (place_of c.args.at) c.in-Ok.i =
    subst (λ p. IsAt c.args.blocks.now p c.in-Ok.i) c.place.ensures.exact c.in-Ok.ensures.found in
    c.has_bit.ensures
    ∙ ap (bit_in _) c.offset.ensures.exact
    ∙ sym (address_in_block c.args.blocks.now c.args.at c.requires c.in-Ok.i _ at)

pub returns-in-Err : goal.returns-in-Err
returns-in-Err c =
    sym (no_address c.args.blocks.now c.args.at _
    (subst (λ p. IsGapFor c.args.blocks.now p c.in-Err.field-0) c.place.ensures.exact c.in-Err.ensures.absent))
