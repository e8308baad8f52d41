use Rattle.std.proofs.Common.{not, ap, sym, subst, ◌∙◌}
use Rattle.al_rules.specs.declared.faults.TypeKind.TheVariants.{Twice}
use Rattle.al_source.specs.Steps.{and_then}
use Rattle.al_rules.specs.Checks.{Checked, ensure}
use Rattle.al_rules.specs.Names.{Name, any_named}
use Rattle.al_rules.specs.Scopes.{is_struct}
use Rattle.al_rules.specs.Types.{type_checked}
use Rattle.al_type_names.specs.NameLists.{named_in}
use Rattle.al_type_names.specs.Roles.{allowed_for}
use Rattle.al_source.specs.Answers.{Gives}
use Rattle.al_type_names.specs.Steps.{kind_of}
use Rattle.al_types.proofs.items.check_field.Goals as goal

pub returns-clause-checked : goal.returns-clause-checked
returns-clause-checked c =
    let of_type = type_checked (is_struct c.args.known.now.structs) (named_in c.args.anywhere.now) (allowed_for c.args.role) c.args.field.now.ty in
    subst (λ (told : Checked (Unit {0})). Gives kind_of told c.check_item_type.result)
    (sym (ap (λ (r : Checked (Unit {0})). and_then r (λ _. of_type))
    (ap (λ (n : Name). ensure (not (any_named {A = Name} (λ m. m) n c.args.names.now)) Twice) (sym c.as_slice.ensures)
    ∙ c.in_ok-add_new.ensures.checked)))
    c.check_item_type.ensures
