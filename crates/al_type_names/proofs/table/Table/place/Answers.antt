use Rattle.std.proofs.Common.{map, ap, sym, ◌∙◌}
use Rattle.al_rules.specs.Names.{Name, place_named}
use Rattle.al_type_names.proofs.NameLookups.{place_of_names}
use Rattle.al_type_names.proofs.table.Table.place.Goals as goal

pub returns : goal.returns
returns g c =
    let name = c.args.name.now in
    let name_of = g.T.Named.name_of in
    c.place.ensures ∙ ap (λ ns. place_named {A = Name} (λ n. n) name ns) (c.self.invariant ∙ ap (λ xs. map name_of xs) c.self.view_is)
    ∙ sym (place_of_names name_of name c.args.self.now)
