use Rattle.std.proofs.Common.{ap, ◌∙◌}
use Rattle.al_rules.specs.Names.{Name, any_named}
use Rattle.al_type_names.proofs.NameLookups.{any_key}
use Rattle.al_type_names.proofs.names.Names.has.Goals as goal

pub returns : goal.returns
returns c =
    c.contains.ensures ∙ any_key c.args.name.now c.self.inside.names.keys
    ∙ ap (λ ns. any_named {A = Name} (λ n. n) c.args.name.now ns) c.self.view_is
