use Rattle.std.proofs.Common.{ap, ◌∙◌, not, map}
use Rattle.al_rules.specs.Names.{Name, any_named}
use Rattle.al_type_names.specs.NameLists.{with_name}
use Rattle.al_type_names.proofs.NameLookups.{any_key, with_key}
use Rattle.al_type_names.proofs.names.Names.add.Goals as goal

pub returns : goal.returns
returns c =
    let name = c.args.name in
    let keys = c.self.inside.names.keys in (
      c.in_ok-insert.ensures.added ∙ ap not (any_key name.now keys ∙ ap (λ ns. any_named {A = Name} (λ n. n) name.now ns) c.self.view_is),
      ap (λ ks. map (λ k. k.now) ks) c.in_ok-insert.ensures.keys ∙ with_key name keys ∙ ap (λ ns. with_name name.now ns) c.self.view_is,
    )
