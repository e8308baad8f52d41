use Rattle.std.proofs.Common.{◌-◌, length, drop, ap, ◌∙◌, arith, length-drop}
use Rattle.std.specs.List.{list_any}
use Rattle.std.specs.Str.{bytes_eq}
use Rattle.std.proofs.lemmas.List.{take_all}
use Rattle.al_rules.specs.Scopes.{Binding, is_declared}
use Rattle.al_type_names.specs.Bindings.{binding_of}
use Rattle.al_type_names.proofs.ScopeLists.{any_seen}
use Rattle.al_type_names.proofs.scope.Scope.declares.Goals as goal

pub returns : goal.returns
returns c =
    let test = λ (b : Binding). bytes_eq b.name c.args.name.now in
    let start = c.self.inside.start in
    let items = c.self.inside.bindings.items in
    let all = c.deref.result.now in
    (
    c.any_named.ensures
    ∙ ap (λ l. list_any (λ b. test (binding_of b)) l)
    (take_all (length all - start) (drop start all) (omega (arith, length-drop start all)) ∙ ap (λ l. drop start l) c.deref.ensures.value)
    ∙ any_seen test items start ∙ ap (λ s. is_declared c.args.name.now s) c.self.view_is
    )
