use Rattle.std.proofs.Common.{Ok, not, refl}
use Rattle.std.proofs.lemmas.Result.{err_from_is_err_and}
use Rattle.al_rules.specs.declared.faults.TypeKind.TheVariants.{Return}
use Rattle.al_rules.specs.Checks.{ensure}
use Rattle.al_rules.specs.Operands.{fitting}
use Rattle.al_rules.specs.Statements.{is_void}
use Rattle.al_rules.specs.Walks.{bind}
use Rattle.al_source.specs.Answers.{Gives}
use Rattle.al_type_names.specs.Steps.{kind_of}
use Rattle.al_types.proofs.Walked.{walked, stopped}
use Rattle.al_types.proofs.checker.Checker.returned.Goals as goal

pub returns-in_err-at_line-in-None : goal.returns-in_err-at_line-in-None
unfolding bind
returns-in_err-at_line-in-None c =
    let p = err_from_is_err_and c.from_residual.result c.from_residual.ensures.1 in
    let check = ensure (is_void c.args.self.now.gives.now) Return in
    let checked : Gives kind_of check c.ensure.result = rw (← c.is_void.ensures) c.ensure.ensures in
    rw (p.1, p.2, c.in-None.is)
    (stopped c.args.line check _ c.args.p.now c.ensure.result c.in_err-at_line-in-None.field-0.0 checked c.in_err-at_line-in-None.ensures
    (λ d is. rw is refl))

pub returns-in_err-at_line-in-Some : goal.returns-in_err-at_line-in-Some
unfolding bind
returns-in_err-at_line-in-Some c =
    let p = err_from_is_err_and c.from_residual-in_err-at_line-in-Some.result c.from_residual-in_err-at_line-in-Some.ensures.1 in
    let check = ensure (not (is_void c.args.self.now.gives.now)) Return in
    let checked : Gives kind_of check c.ensure-in-Some.result = rw (← c.is_void-in-Some.ensures) c.ensure-in-Some.ensures in
    rw (p.1, p.2, c.in-Some.is)
    (stopped c.args.line check _ c.args.p.now c.ensure-in-Some.result c.in_err-at_line-in-Some.field-0.0 checked c.in_err-at_line-in-Some.ensures
    (λ d is. rw (c.in_ok-y-in-Some.ensures, is) refl))

pub returns-in_err-x-in-Some : goal.returns-in_err-x-in-Some
unfolding bind
returns-in_err-x-in-Some c =
    let p = err_from_is_err_and c.from_residual-in_err-x-in-Some.result c.from_residual-in_err-x-in-Some.ensures.1 in
    let check = ensure (not (is_void c.args.self.now.gives.now)) Return in
    let checked : Gives kind_of check c.ensure-in-Some.result = rw (← c.is_void-in-Some.ensures) c.ensure-in-Some.ensures in
    let passed = walked c.args.line (λ _. check) c.args.p.now (Ok c.in_ok-at_line-in-Some.field-0) (c.in_ok-at_line-in-Some.ensures check checked) in
    rw (p.1, p.2, c.in-Some.is)
    (stopped c.args.line (fitting c.args.self.now.gives.now c.in_ok-y-in-Some.y) _ c.args.p.now c.fitting.result c.in_err-x-in-Some.field-0.0 c.fitting.ensures
    c.in_err-x-in-Some.ensures (λ d is. rw (c.in_ok-y-in-Some.ensures, passed, is) refl))
