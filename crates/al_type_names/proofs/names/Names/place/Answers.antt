use Rattle.std.proofs.Common.{ap, ◌∙◌}
use Rattle.al_rules.specs.Names.{Name, place_named}
use Rattle.al_type_names.proofs.NameLookups.{place_key}
use Rattle.al_type_names.proofs.names.Names.place.Goals as goal

pub returns-in_err-get_index_of : goal.returns-in_err-get_index_of
returns-in_err-get_index_of c =
    c.from_residual.ensures ∙ c.in_err-get_index_of.ensures.index ∙ place_key c.args.name.now c.self.inside.names.keys
    ∙ ap (λ ns. place_named {A = Name} (λ n. n) c.args.name.now ns) c.self.view_is

pub returns : goal.returns
returns c =
    c.in_ok-get_index_of.ensures.index ∙ place_key c.args.name.now c.self.inside.names.keys
    ∙ ap (λ ns. place_named {A = Name} (λ n. n) c.args.name.now ns) c.self.view_is
