use Rattle.std.proofs.Common.{Bool, Ok, refl, ap, subst, ◌∙◌}
use Rattle.al_rules.specs.declared.faults.TypeKind.TheVariants.{NotPlace, Shape}
use Rattle.al_rules.specs.Checks.{ensure}
use Rattle.al_rules.specs.Statements.{updated, is_place, may_update}
use Rattle.al_rules.specs.Walks.{bind}
use Rattle.al_rules.proofs.StatementNodes.{walks-Update}
use Rattle.al_source.specs.Answers.{Gives}
use Rattle.al_type_names.specs.Steps.{kind_of}
use Rattle.al_types.proofs.Walked.{walked, walked_last, stopped}
use Rattle.std.proofs.lemmas.Result.{err_from_is_err_and}
use Rattle.al_types.proofs.checker.Checker.update.Goals as goal

pub returns : goal.returns
unfolding bind
returns c =
    let op = c.args.op in
    let of = c.in_ok-of.of in
    let is_shaped_there = subst (λ (b : Bool). Gives kind_of (ensure b Shape) c.ensure.result) c.may_update.ensures c.ensure.ensures in
    let is_place_there =
    subst (λ (b : Bool). Gives kind_of (ensure b NotPlace) c.ensure-2.result) (c.is_place.ensures ∙ ap is_place c.get.ensures) c.ensure-2.ensures in
    let shaped =
    walked c.args.line (λ _. ensure (may_update op) Shape) c.args.p.now (Ok c.in_ok-at_line.field-0)
    (c.in_ok-at_line.ensures (ensure (may_update op) Shape) is_shaped_there) in
    let placed =
    walked c.args.line (λ _. ensure (is_place of) NotPlace) c.args.p.now (Ok c.in_ok-at_line-2.field-0)
    (c.in_ok-at_line-2.ensures (ensure (is_place of) NotPlace) is_place_there) in
    λ looped.
    walked_last c.args.line (updated op of c.in_ok-by.by) _ c.args.p.now c.updated.result c.at_line-3.result
    (rw (walks-Update, shaped, c.in_ok-of.ensures, placed, c.in_ok-by.ensures) refl)
    c.updated.ensures c.at_line-3.ensures

pub returns-in_err-at_line : goal.returns-in_err-at_line
unfolding bind
returns-in_err-at_line c =
    let p = err_from_is_err_and c.from_residual.result c.from_residual.ensures.1 in
    let op = c.args.op in
    let is_shaped_there = subst (λ (b : Bool). Gives kind_of (ensure b Shape) c.ensure.result) c.may_update.ensures c.ensure.ensures in
    λ looped.
    rw (p.1, p.2)
    (stopped c.args.line (ensure (may_update op) Shape) _ c.args.p.now c.ensure.result c.in_err-at_line.field-0.0 is_shaped_there c.in_err-at_line.ensures
    (λ d is. rw (walks-Update, is) refl))

pub returns-in_err-at_line-2 : goal.returns-in_err-at_line-2
unfolding bind
returns-in_err-at_line-2 c =
    let p = err_from_is_err_and c.from_residual-in_err-at_line-2.result c.from_residual-in_err-at_line-2.ensures.1 in
    let op = c.args.op in
    let of = c.in_ok-of.of in
    let is_shaped_there = subst (λ (b : Bool). Gives kind_of (ensure b Shape) c.ensure.result) c.may_update.ensures c.ensure.ensures in
    let is_place_there =
    subst (λ (b : Bool). Gives kind_of (ensure b NotPlace) c.ensure-2.result) (c.is_place.ensures ∙ ap is_place c.get.ensures) c.ensure-2.ensures in
    let shaped =
    walked c.args.line (λ _. ensure (may_update op) Shape) c.args.p.now (Ok c.in_ok-at_line.field-0)
    (c.in_ok-at_line.ensures (ensure (may_update op) Shape) is_shaped_there) in
    λ looped.
    rw (p.1, p.2)
    (stopped c.args.line (ensure (is_place of) NotPlace) _ c.args.p.now c.ensure-2.result c.in_err-at_line-2.field-0.0 is_place_there
    c.in_err-at_line-2.ensures (λ d is. rw (walks-Update, shaped, c.in_ok-of.ensures, is) refl))
