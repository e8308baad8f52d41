use Rattle.std.proofs.Common.{◌||◌, nat_eq, List, ap, sym, subst, ◌∙◌}
use Rattle.al_planes.specs.Masks.{bit_in}
use Rattle.al_sets.specs.declared.blocks.Block.{Block}
use Rattle.al_sets.specs.Blocks.{IsAscending, IsAt, IsGapFor, has_address}
use Rattle.al_sets.proofs.Edits.{address_set, address_inserted, ascending_set, ascending_inserted}
use Rattle.al_sets.proofs.blocks.insert.Goals as goal

pub returns-in-Ok-clause-ascending : goal.returns-in-Ok-clause-ascending
returns-in-Ok-clause-ascending c =
    let bs : List Block = c.args.blocks.now.items in
    let at : IsAt bs c.place.result c.in-Ok.i =
    subst (λ l. IsAt l c.place.result c.in-Ok.i) c.as_slice.ensures.value c.in-Ok.ensures.found in
    ascending_set bs c.place.result c.in-Ok.i _
    (ap (λ (b : Block). b.place) c.index_mut.ensures.value ∙ at.same c.index_mut.result.now) at c.requires

pub returns-in-Ok-clause-ok : goal.returns-in-Ok-clause-ok
returns-in-Ok-clause-ok c =
    let bs : List Block = c.args.blocks.now.items in
    let at : IsAt bs c.place.result c.in-Ok.i =
    subst (λ l. IsAt l c.place.result c.in-Ok.i) c.as_slice.ensures.value c.in-Ok.ensures.found in
    address_set bs c.args.at c.in-Ok.i _ c.index_mut.result.now (subst (λ p. IsAt bs p c.in-Ok.i) c.place.ensures.exact at)
    (ap (λ (b : Block). b.place) c.index_mut.ensures.value) _ c.offset.ensures.exact
    (λ j. c.set_bit.ensures j ∙ ap (λ (b : Block). nat_eq j c.offset.result || bit_in b.masks j) c.index_mut.ensures.value)

pub returns-in_ok-insert-in-Err-clause-ascending : goal.returns-in_ok-insert-in-Err-clause-ascending
returns-in_ok-insert-in-Err-clause-ascending c =
    let bs : List Block = c.args.blocks.now.items in
    let gap : IsGapFor bs c.place.result c.in-Err.i =
    subst (λ l. IsGapFor l c.place.result c.in-Err.i) c.as_slice.ensures.value c.in-Err.ensures.absent in
    subst IsAscending (sym c.in_ok-insert-in-Err.ensures.items)
    (ascending_inserted bs c.place.result c.in-Err.i c.single.result (c.single.ensures.place ∙ sym c.place.ensures.exact)
    gap c.requires)

pub returns-in_ok-insert-in-Err-clause-ok : goal.returns-in_ok-insert-in-Err-clause-ok
returns-in_ok-insert-in-Err-clause-ok c a =
    ap (λ l. has_address l a) c.in_ok-insert-in-Err.ensures.items
    ∙ address_inserted c.args.blocks.now.items c.args.at c.in-Err.i c.single.result
    c.single.ensures.place c.single.ensures.bits a
