use Rattle.std.proofs.Common.{◌≡◌, List, None, cond, sym, ap, ◌∙◌}
use Rattle.std.specs.FinMap as map
use Rattle.al_core.specs.declared.values.Val.{Val}
use Rattle.al_core.specs.declared.values.Addr.{Addr}
use Rattle.al_core.specs.Orders.{addr_eq}
use Rattle.al_sets.specs.declared.blocks.Block.{Block}
use Rattle.al_sets.specs.Rows.{value_in, values_of}
use Rattle.al_sets.proofs.RowLemmas.{values_have, values_kept}
use Rattle.al_sets.proofs.Taken.{values_removed}
use Rattle.al_sets.proofs.maps.AddrMap.pop.Goals as goal

pub returns-in-Some-clause-some : goal.returns-in-Some-clause-some
returns-in-Some-clause-some c =
    let bs : List Block = c.self.inside.blocks.items in
    let rows : List (List Val) = c.self.inside.rows.items in
    let cs : List Block = c.trim.new.blocks.items in
    let more : List (List Val) = c.trim.new.rows.items in
    let at : Addr = c.take.result.0 in (
      ap (λ m. map.get m at) (sym c.self.view_is)
          ∙ values_have bs rows at
          ∙ sym (c.trim.ensures.kept.values at)
          ∙ ap (λ l. value_in cs l at) (sym c.as_slice.ensures.value)
          ∙ c.take.ensures.found,
      values_removed bs c.take.new.blocks.items rows more at (λ a.
          ap (λ l. value_in c.take.new.blocks.items l a) (sym c.as_slice.ensures.value)
          ∙ c.take.ensures.rest a
          ∙ ap (cond (addr_eq a at) None) (ap (λ l. value_in cs l a) c.as_slice.ensures.value ∙ c.trim.ensures.kept.values a))
          ∙ ap (λ m. map.remove m at) c.self.view_is,
    )

pub returns-in-None-clause-none : goal.returns-in-None-clause-none
returns-in-None-clause-none c =
    let bs : List Block = c.self.inside.blocks.items in
    let rows : List (List Val) = c.self.inside.rows.items in
    let cs : List Block = c.trim.new.blocks.items in
    let more : List (List Val) = c.trim.new.rows.items in
    let none : values_of cs more ≡ map.empty = ap (λ l. values_of l more) c.in-None.ensures.none in
    (sym c.self.view_is ∙ sym (values_kept bs cs rows more c.trim.ensures.kept.values) ∙ none, none)
