use Rattle.std.proofs.Common.{Bool, ap, subst, ◌∙◌}
use Rattle.al_rules.specs.Names.{Name}
use Rattle.al_rules.specs.Types.{type_checked}
use Rattle.al_rules.specs.Scopes.{Known, is_struct}
use Rattle.al_type_names.specs.NameLists.{named_in}
use Rattle.al_type_names.specs.Roles.{allowed_for}
use Rattle.al_source.specs.Answers.{Gives}
use Rattle.al_type_names.specs.Steps.{kind_of}
use Rattle.al_type_names.proofs.NameLookups.{structs_named}
use Rattle.al_type_names.proofs.known.Known.check_item_type.Goals as goal

pub returns : goal.returns
returns c =
    subst (λ (known : Name → Bool).
    Gives kind_of (type_checked known (named_in c.args.anywhere.now) (allowed_for c.args.role) c.args.ty.now) c.check_type.result)
    (ap named_in c.names.ensures ∙ (structs_named c.self.inside.structs ∙ ap (λ (k : Known). is_struct k.structs) c.self.view_is)) c.check_type.ensures
