use Rattle.std.proofs.Common.{subst}
use Rattle.al_sets.specs.Blocks.{IsAt, IsGapFor}
use Rattle.al_sets.proofs.RowLemmas.{found_here, not_here, nothing_got}
use Rattle.al_sets.proofs.maps.AddrMap.get.Goals as goal

pub returns-then-has_bit : goal.returns-then-has_bit
returns-then-has_bit c =
    found_here c.self.inside.blocks.items c.self.inside.rows.items c.args.self.now c.self.view_is c.self.invariant.0
    c.self.invariant.1 c.args.at _ c.place.ensures.exact c.in-Ok.i c.index.result.now
    (subst (λ l. IsAt l c.place.result c.in-Ok.i) c.as_slice.ensures.value c.in-Ok.ensures.found) c.index.ensures
    c.index-then-has_bit.result.now c.index-then-has_bit.ensures _ _ c.offset.ensures.exact
    c.offset-then-has_bit.ensures.exact c.if-has_bit.ensures _ c.value.ensures

pub returns-else-has_bit : goal.returns-else-has_bit
returns-else-has_bit c =
    not_here c.self.inside.blocks.items c.self.inside.rows.items c.args.self.now c.self.view_is c.self.invariant.0
    c.self.invariant.1 c.args.at _ c.place.ensures.exact c.in-Ok.i c.index.result.now
    (subst (λ l. IsAt l c.place.result c.in-Ok.i) c.as_slice.ensures.value c.in-Ok.ensures.found) c.index.ensures
    _ c.offset.ensures.exact c.if-has_bit.ensures

pub returns-in-Err : goal.returns-in-Err
returns-in-Err c =
    nothing_got c.self.inside.blocks.items c.self.inside.rows.items c.args.self.now c.self.view_is c.args.at _ c.place.ensures.exact _
    (subst (λ l. IsGapFor l c.place.result c.in-Err.field-0) c.as_slice.ensures.value c.in-Err.ensures.absent)
