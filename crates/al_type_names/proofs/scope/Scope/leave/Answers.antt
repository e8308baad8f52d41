use Rattle.std.proofs.Common.{◌≤◌, length, ap, sym, subst, ◌∙◌}
use Rattle.al_rules.specs.Scopes.{Scope}
use Rattle.al_type_names.specs.Bindings.{without_inner}
use Rattle.al_type_names.proofs.ScopeLists.{seen, seen_outside}
use Rattle.al_type_names.proofs.scope.Scope.leave.Goals as goal

pub returns : goal.returns
returns c =
    let within = subst (λ (s : Scope). c.args.mark ≤ length s.outer) (sym c.self.view_is) c.requires in
    ap (λ xs. seen xs c.args.mark) c.truncate.ensures.items
    ∙ seen_outside c.self.inside.bindings.items c.self.inside.start c.args.mark within ∙ ap (λ s. without_inner c.args.mark s) c.self.view_is
