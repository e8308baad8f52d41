use Rattle.std.proofs.Common.{◌≡◌, map, false, ap, ap₂, sym, ◌∙◌}
use Rattle.std.proofs.lemmas.List.{map_push}
use Rattle.al_rules.specs.Names.{any_named}
use Rattle.al_type_names.specs.NameLists.{with_name}
use Rattle.al_type_names.proofs.NameLookups.{with_new}
use Rattle.al_type_names.proofs.table.Table.with.Goals as goal

pub invariant_of-result : goal.invariant_of-result
invariant_of-result g c =
    let name_of = g.T.Named.name_of in
    let item = c.args.item in
    let before = map (λ x. x.now) c.self.inside.all in
    let none : any_named name_of (name_of item.now) before ≡ false = ap (λ xs. any_named name_of (name_of item.now) xs) c.self.view_is ∙ c.requires in
    (
    c.in_ok-add.ensures.1 ∙ ap₂ with_name c.name.ensures c.self.invariant ∙ with_new name_of before item.now none
    ∙ ap (λ xs. map name_of xs) (sym (map_push (λ x. x.now) c.self.inside.all item) ∙ ap (λ xs. map (λ x. x.now) xs) (sym c.in_ok-push.ensures.ok))
    )
