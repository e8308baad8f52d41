use Rattle.std.proofs.Common.{Bool, Ok, refl, ap, subst, ◌∙◌}
use Rattle.al_rules.specs.declared.faults.TypeKind.TheVariants.{NotPlace}
use Rattle.al_rules.specs.Checks.{ensure}
use Rattle.al_rules.specs.Statements.{assigned, is_place}
use Rattle.al_rules.specs.Walks.{bind}
use Rattle.al_rules.proofs.StatementNodes.{walks-Assign}
use Rattle.al_source.specs.Answers.{Gives}
use Rattle.al_type_names.specs.Steps.{kind_of}
use Rattle.al_types.proofs.Walked.{walked, walked_last, stopped}
use Rattle.std.proofs.lemmas.Result.{err_from_is_err_and}
use Rattle.al_types.proofs.checker.Checker.assign.Goals as goal

pub returns : goal.returns
unfolding bind
returns c =
    let to = c.in_ok-to.to in
    let is_place_there =
    subst (λ (b : Bool). Gives kind_of (ensure b NotPlace) c.ensure.result) (c.is_place.ensures ∙ ap is_place c.get.ensures) c.ensure.ensures in
    let placed =
    walked c.args.line (λ _. ensure (is_place to) NotPlace) c.args.p.now (Ok c.in_ok-at_line.field-0)
    (c.in_ok-at_line.ensures (ensure (is_place to) NotPlace) is_place_there) in
    λ looped.
    walked_last c.args.line (assigned to c.in_ok-value.value) _ c.args.p.now c.assigned.result c.at_line-2.result
    (rw (walks-Assign, c.in_ok-to.ensures, placed, c.in_ok-value.ensures) refl)
    c.assigned.ensures c.at_line-2.ensures

pub returns-in_err-at_line : goal.returns-in_err-at_line
unfolding bind
returns-in_err-at_line c =
    let p = err_from_is_err_and c.from_residual-in_err-at_line.result c.from_residual-in_err-at_line.ensures.1 in
    let to = c.in_ok-to.to in
    let is_place_there =
    subst (λ (b : Bool). Gives kind_of (ensure b NotPlace) c.ensure.result) (c.is_place.ensures ∙ ap is_place c.get.ensures) c.ensure.ensures in
    λ looped.
    rw (p.1, p.2)
    (stopped c.args.line (ensure (is_place to) NotPlace) _ c.args.p.now c.ensure.result c.in_err-at_line.field-0.0 is_place_there c.in_err-at_line.ensures
    (λ d is. rw (walks-Assign, c.in_ok-to.ensures, is) refl))
