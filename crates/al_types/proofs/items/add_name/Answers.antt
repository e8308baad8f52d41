use Rattle.std.proofs.Common.{◌||◌, ◌∷◌, ap, sym, ◌∙◌}
use Rattle.al_rules.specs.Names.{Name}
use Rattle.al_rules.specs.Scopes.{is_struct, structs_in}
use Rattle.al_type_names.specs.NameLists.{named_in, with_name}
use Rattle.al_types.proofs.ItemLemmas.{with_name_or}
use Rattle.al_types.proofs.items.add_name.Goals as goal

pub returns-in_ok-add-in-Struct : goal.returns-in_ok-add-in-Struct
returns-in_ok-add-in-Struct c =
    let names = c.args.names.now in
    λ q rest.
    ap (λ ns. named_in ns q || is_struct (structs_in rest) q) (c.in_ok-add-in-Struct.ensures.1 ∙ ap (λ (n : Name). with_name n names) c.as_slice.ensures)
    ∙ with_name_or c.in-Struct.s.name q names (is_struct (structs_in rest) q)
    ∙ ap (λ i. named_in names q || is_struct (structs_in (i ∷ rest)) q) (sym c.in-Struct.is)
