use Rattle.std.proofs.Common.{List, Result, ap, ap₂, subst, ◌∙◌}
use Rattle.al_source.specs.declared.source_tree.Item.{Item}
use Rattle.al_rules.specs.declared.faults.TypeCause.{TypeCause}
use Rattle.al_rules.specs.Faults.{typed}
use Rattle.al_source.specs.Answers.{Gives}
use Rattle.al_rules.specs.Scopes.{Known, is_struct, structs_in}
use Rattle.al_type_names.specs.Definitions.{items_by}
use Rattle.al_type_names.specs.NameLists.{named_in}
use Rattle.al_types.proofs.ItemLemmas.{definitions_as}
use Rattle.al_types.proofs.items.definitions.Goals as goal

pub returns : goal.returns
returns c =
    let names = c.in_ok-anywhere.anywhere in
    let items = c.as_slice-items.ensures in
    subst (λ (told : Result Known TypeCause). Gives typed told c.with_items.result)
    (ap₂ (λ (k : Known) (is : List Item). items_by k (named_in names) is) c.new.ensures items
    ∙ definitions_as c.args.layout.now c.args.program.now.items (named_in names)
    (λ q. c.in_ok-anywhere.ensures q ∙ ap (λ is. is_struct (structs_in is) q) items))
    c.with_items.ensures
