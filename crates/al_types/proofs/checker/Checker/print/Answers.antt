use Rattle.std.proofs.Common.{Ok, length, refl}
use Rattle.std.proofs.lemmas.Result.{err_from_is_err_and}
use Rattle.std.specs.Prelude.{◌==◌}
use Rattle.al_rules.specs.declared.faults.TypeKind.TheVariants.{Count}
use Rattle.al_rules.specs.Checks.{each, ensure}
use Rattle.al_rules.specs.Operands.{integer}
use Rattle.al_rules.specs.Statements.{numbers_in}
use Rattle.al_rules.specs.Walks.{bind}
use Rattle.al_rules.proofs.StatementNodes.{walks-Print}
use Rattle.al_source.specs.Answers.{Gives}
use Rattle.al_type_names.specs.Steps.{kind_of}
use Rattle.al_types.proofs.Walked.{walked, stopped}
use Rattle.al_types.proofs.checker.Checker.print.Goals as goal

pub returns-in_err-at_line : goal.returns-in_err-at_line
unfolding bind
returns-in_err-at_line c =
    let p = err_from_is_err_and c.from_residual-in_err-at_line.result c.from_residual-in_err-at_line.ensures.1 in
    let count = ensure (length c.in_ok-xs.xs == numbers_in c.args.format.now) Count in
    let counted : Gives kind_of count c.ensure.result = rw (← c.len.ensures, ← c.numbers_in.ensures) c.ensure.ensures in
    λ looped.
    rw (p.1, p.2)
    (stopped c.args.line count _ c.args.p.now c.ensure.result c.in_err-at_line.field-0.0 counted c.in_err-at_line.ensures
    (λ d is. rw (walks-Print, c.in_ok-xs.ensures, is) refl))

pub returns-in_err-ns : goal.returns-in_err-ns
unfolding bind
returns-in_err-ns c =
    let p = err_from_is_err_and c.from_residual-in_err-ns.result c.from_residual-in_err-ns.ensures.1 in
    let count = ensure (length c.in_ok-xs.xs == numbers_in c.args.format.now) Count in
    let counted : Gives kind_of count c.ensure.result = rw (← c.len.ensures, ← c.numbers_in.ensures) c.ensure.ensures in
    let passed = walked c.args.line (λ _. count) c.args.p.now (Ok c.in_ok-at_line.field-0) (c.in_ok-at_line.ensures count counted) in
    λ looped.
    rw (p.1, p.2)
    (stopped c.args.line (each integer c.in_ok-xs.xs) _ c.args.p.now c.integers.result c.in_err-ns.field-0.0 c.integers.ensures c.in_err-ns.ensures
    (λ d is. rw (walks-Print, c.in_ok-xs.ensures, passed, is) refl))
