use Rattle.std.proofs.Common.{ap, ◌∙◌}
use Rattle.al_rules.specs.Scopes.{nested}
use Rattle.al_type_names.proofs.ScopeLists.{seen, seen_inside}
use Rattle.al_type_names.proofs.scope.Scope.enter.Goals as goal

pub returns-clause-inside : goal.returns-clause-inside
returns-clause-inside c =
    ap (λ n. seen c.self.inside.bindings.items n) (c.len-self-inside.ensures ∙ c.self.inside.bindings.ok.0)
    ∙ seen_inside c.self.inside.bindings.items c.self.inside.start ∙ ap nested c.self.view_is
