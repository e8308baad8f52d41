use Rattle.std.proofs.Common.{refl}
use Rattle.std.proofs.lemmas.Result.{err_from_is_err_and}
use Rattle.al_rules.specs.Expressions as x
use Rattle.al_rules.specs.Scopes.{in_scope}
use Rattle.al_rules.specs.Walks.{bind}
use Rattle.al_rules.proofs.StatementNodes.{walks-Call}
use Rattle.al_types.proofs.Walked.{stopped_scope}
use Rattle.al_types.proofs.checker.Checker.call.Goals as goal

pub returns-in_err-x : goal.returns-in_err-x
unfolding bind
returns-in_err-x c =
    let p = err_from_is_err_and c.from_residual.result c.from_residual.ensures.1 in
    let known = c.args.self.now.known.now in
    λ looped.
    rw (p.1, p.2)
    (stopped_scope c.args.line
    (λ scope. x.call_alone known (in_scope scope) c.args.name.now (x.operands known (in_scope scope) c.args.args.now)) _
    c.scope.result.now c.args.p.now c.call_alone.result c.in_err-x.field-0.0 c.scope.ensures c.call_alone.ensures c.in_err-x.ensures
    (λ d is. rw (walks-Call, is) refl))
