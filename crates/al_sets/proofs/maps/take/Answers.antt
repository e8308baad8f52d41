use Rattle.std.proofs.Common.{◌&&◌, not, nat_eq, [], Some, None, cond, refl, sym, ap, ◌∙◌, arith}
use Rattle.al_core.specs.declared.values.Addr.{Addr}
use Rattle.al_core.specs.Orders.{addr_eq}
use Rattle.al_planes.specs.Masks.{bit_in}
use Rattle.al_sets.specs.declared.blocks.Block.{Block}
use Rattle.al_sets.specs.Blocks.{IsAt}
use Rattle.al_sets.specs.Rows.{value_in, value_in_row}
use Rattle.al_sets.proofs.Edits.{ascending_set}
use Rattle.al_sets.proofs.Meeting.{same_default}
use Rattle.al_sets.proofs.Taken.{value_taken, value_there}
use Rattle.al_sets.proofs.maps.take.Goals as goal

pub returns-clause-ascending : goal.returns-clause-ascending
returns-clause-ascending c =
    let bs = c.args.blocks.now.items in
    let p : Addr = c.index.result.now.place in
    let there : IsAt bs p c.args.i = record {
      in_range = c.requires.there;
      same = λ d. ap (λ (b : Block). b.place)
          (same_default bs c.args.i c.args.i d c.index.result.now refl c.requires.there ∙ sym c.index.ensures);
    } in
    ascending_set bs p c.args.i _ (ap (λ (b : Block). b.place) c.index_mut.ensures.value ∙ there.same c.index_mut.result.now)
    there c.requires.ascending

pub returns-clause-found : goal.returns-clause-found
returns-clause-found c =
    let bs = c.args.blocks.now.items in
    let p : Addr = c.index.result.now.place in
    let there : IsAt bs p c.args.i = record {
      in_range = c.requires.there;
      same = λ d. ap (λ (b : Block). b.place)
          (same_default bs c.args.i c.args.i d c.index.result.now refl c.requires.there ∙ sym c.index.ensures);
    } in
    ap (value_in bs c.args.rows.now) c.address-at.ensures
    ∙ value_there bs c.args.rows.now c.requires.ascending c.requires.long c.args.i c.args.n
    (record { place = c.index_mut.result.now.place; masks = c.clear_bit.new.m }) c.index_mut.result.now p there c.requires.within
    (ap (λ (b : Block). b.place) c.index_mut.ensures.value ∙ there.same c.index_mut.result.now)
    (λ j. c.clear_bit.ensures j ∙ (λ t. not (nat_eq j c.args.n) && bit_in (c.index_mut.ensures.value t).masks j))
    (c.requires.one c.index_mut.result.now)
    ∙ ap (λ v. Some v)
    (ap (λ r. value_in_row r c.args.n) (same_default c.args.rows.now c.args.i c.args.i [] c.index-rows-i.result refl
    (omega (arith, c.requires.there, c.requires.long)) ∙ sym c.index-rows-i.is) ∙ sym c.value.ensures)

pub returns-clause-rest : goal.returns-clause-rest
returns-clause-rest c a =
    let bs = c.args.blocks.now.items in
    let p : Addr = c.index.result.now.place in
    let there : IsAt bs p c.args.i = record {
      in_range = c.requires.there;
      same = λ d. ap (λ (b : Block). b.place)
          (same_default bs c.args.i c.args.i d c.index.result.now refl c.requires.there ∙ sym c.index.ensures);
    } in
    value_taken bs c.args.rows.now c.requires.ascending c.requires.long c.args.i c.args.n
    (record { place = c.index_mut.result.now.place; masks = c.clear_bit.new.m }) c.index_mut.result.now p there c.requires.within
    (ap (λ (b : Block). b.place) c.index_mut.ensures.value ∙ there.same c.index_mut.result.now)
    (λ j. c.clear_bit.ensures j ∙ (λ t. not (nat_eq j c.args.n) && bit_in (c.index_mut.ensures.value t).masks j)) a
    ∙ ap (λ b. cond (addr_eq a b) None (value_in bs c.args.rows.now a)) (sym c.address-at.ensures)
