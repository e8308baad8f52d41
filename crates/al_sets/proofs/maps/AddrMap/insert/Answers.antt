use Rattle.std.proofs.Common.{◌≡◌, cond, Some, sym, ap, ◌∙◌}
use Rattle.std.proofs.lemmas.Bool.{eq-eqb}
use Rattle.al_core.specs.Orders.{addr_eq}
use Rattle.al_sets.specs.Places.{offset_of}
use Rattle.al_sets.specs.Rows.{value_in, value_in_row}
use Rattle.std.specs.FinMap as map
use Rattle.al_sets.proofs.Truth.{on_any_err}
use Rattle.al_sets.proofs.RowLemmas.{values_insert, values_kept}
use Rattle.al_sets.proofs.maps.AddrMap.insert.Goals as goal

pub returns-in_ok-put-in-Ok-clause-ok : goal.returns-in_ok-put-in-Ok-clause-ok
returns-in_ok-put-in-Ok-clause-ok c =
    values_insert c.self.inside.blocks.items c.put.new.blocks.items c.self.inside.rows.items c.put.new.rows.items c.args.at
    c.args.value c.in_ok-put-in-Ok.ensures.values
    ∙ ap (λ m. map.insert m c.args.at c.args.value) c.self.view_is

pub returns-in_ok-add-in-Err-clause-ok : goal.returns-in_ok-add-in-Err-clause-ok
returns-in_ok-add-in-Err-clause-ok c =
    let k = offset_of c.args.at in
    let put : value_in_row c.put-in-Err.new.self k ≡ c.args.value =
    c.in_ok-put-in-Err.ensures.ok k
    ∙ ap (λ b. cond b c.args.value (value_in_row c.new-row.result k)) (eq-eqb k c.offset-n.result (sym c.offset-n.ensures.exact)) in
    values_insert c.self.inside.blocks.items c.add.new.blocks.items c.self.inside.rows.items c.add.new.rows.items c.args.at
    c.args.value (λ a. c.in_ok-add-in-Err.ensures.values a
    ∙ (λ t. cond (addr_eq a c.args.at) (Some (put t)) (value_in c.self.inside.blocks.items c.self.inside.rows.items a)))
    ∙ ap (λ m. map.insert m c.args.at c.args.value) c.self.view_is

pub returns-in_err-put-in-Ok-clause-err : goal.returns-in_err-put-in-Ok-clause-err
returns-in_err-put-in-Ok-clause-err c =
    on_any_err c.from_residual.result _
    (values_kept c.self.inside.blocks.items c.put.new.blocks.items c.self.inside.rows.items c.put.new.rows.items
    c.in_err-put-in-Ok.ensures.err ∙ c.self.view_is)

pub returns-in_err-add-in-Err-clause-err : goal.returns-in_err-add-in-Err-clause-err
returns-in_err-add-in-Err-clause-err c =
    on_any_err c.from_residual-in_err-add-in-Err.result _
    (values_kept c.self.inside.blocks.items c.add.new.blocks.items c.self.inside.rows.items c.add.new.rows.items
    c.in_err-add-in-Err.ensures.err ∙ c.self.view_is)
