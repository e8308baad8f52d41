use Rattle.std.proofs.Common.{ap, reverse, ◌∙◌}
use Rattle.std.specs.Prelude.{option_map}
use Rattle.std.specs.List.{find}
use Rattle.std.specs.Str.{bytes_eq}
use Rattle.al_rules.specs.Scopes.{Scope, Binding, in_scope}
use Rattle.al_type_names.specs.Bindings.{binding_of}
use Rattle.al_type_names.proofs.ScopeLists.{find_seen}
use Rattle.al_type_names.proofs.scope.Scope.named.Goals as goal

pub returns : goal.returns
returns c =
    let test = λ (b : Binding). bytes_eq b.name c.args.name.now in
    ap (λ r. option_map binding_of r) (c.last_named.ensures ∙ ap (λ l. find (λ b. test (binding_of b)) (reverse l)) c.as_slice.ensures.value)
    ∙ find_seen test c.self.inside.bindings.items c.self.inside.start ∙ ap (λ (s : Scope). find test (in_scope s)) c.self.view_is
