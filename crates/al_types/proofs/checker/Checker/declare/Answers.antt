use Rattle.std.proofs.Common.{Ok, not, refl}
use Rattle.std.proofs.lemmas.Result.{err_from_is_err_and}
use Rattle.al_rules.specs.declared.faults.TypeKind.TheVariants.{Twice}
use Rattle.al_rules.specs.Checks.{ensure}
use Rattle.al_rules.specs.Scopes.{Scope, is_struct, is_declared}
use Rattle.al_rules.specs.Types.{type_checked, is_scalar}
use Rattle.al_rules.specs.Walks.{bind}
use Rattle.al_source.specs.Answers.{Gives}
use Rattle.al_type_names.specs.Steps.{kind_of}
use Rattle.al_types.proofs.Walked.{walked, stopped, stopped_scope}
use Rattle.al_types.proofs.checker.Checker.declare.Goals as goal

pub returns-in_err-at_line-clause-walks : goal.returns-in_err-at_line-clause-walks
unfolding bind
returns-in_err-at_line-clause-walks c =
    let p = err_from_is_err_and c.from_residual.result c.from_residual.ensures.1 in
    let check = λ (scope : Scope). ensure (not (is_declared c.args.name.now scope)) Twice in
    let checked : Gives kind_of (check c.args.p.now.scope) c.ensure.result =
    rw (← c.as_slice.ensures, ← c.scope.ensures, ← c.declares-is_new.ensures) c.ensure.ensures in
    rw (p.1, p.2)
    (stopped_scope c.args.line check _ c.args.p.now.scope c.args.p.now c.ensure.result c.in_err-at_line.field-0.0 refl checked c.in_err-at_line.ensures
    (λ d is. rw is refl))

pub returns-in_err-at_line-2-clause-walks : goal.returns-in_err-at_line-2-clause-walks
unfolding bind
returns-in_err-at_line-2-clause-walks c =
    let p = err_from_is_err_and c.from_residual-in_err-at_line-2.result c.from_residual-in_err-at_line-2.ensures.1 in
    let check = λ (scope : Scope). ensure (not (is_declared c.args.name.now scope)) Twice in
    let checked : Gives kind_of (check c.args.p.now.scope) c.ensure.result =
    rw (← c.as_slice.ensures, ← c.scope.ensures, ← c.declares-is_new.ensures) c.ensure.ensures in
    let passed = walked c.args.line check c.args.p.now (Ok c.in_ok-at_line.field-0) (c.in_ok-at_line.ensures (check c.args.p.now.scope) checked) in
    let structs = is_struct c.args.self.now.known.now.structs in
    rw (p.1, p.2)
    (stopped c.args.line (type_checked structs structs is_scalar c.args.ty.now) _ c.args.p.now c.check_type.result c.in_err-at_line-2.field-0.0
    c.check_type.ensures c.in_err-at_line-2.ensures (λ d is. rw (passed, is) refl))
