use Rattle.std.proofs.Common.{map, ap, sym, ◌∙◌}
use Rattle.al_rules.specs.Names.{Name, any_named}
use Rattle.al_type_names.proofs.NameLookups.{any_of_names}
use Rattle.al_type_names.proofs.table.Table.has.Goals as goal

pub returns : goal.returns
returns g c =
    let name = c.args.name.now in
    let name_of = g.T.Named.name_of in
    c.has.ensures ∙ ap (λ ns. any_named {A = Name} (λ n. n) name ns) (c.self.invariant ∙ ap (λ xs. map name_of xs) c.self.view_is)
    ∙ sym (any_of_names name_of name c.args.self.now)
