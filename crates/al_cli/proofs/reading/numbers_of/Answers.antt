use Rattle.std.proofs.Common.{◌≡◌, Ok, Err, ap, sym, subst, ◌∙◌}
use Rattle.al_source.specs.Answers.{Fails}
use Rattle.al_answers.specs.Plans.{failed}
use Rattle.al_text.specs.Numbers.{numbers_of}
use Rattle.al_cli.proofs.Comings.{on_any_err, input_goes, input_refused, input_starved, input_untried}
use Rattle.al_cli.proofs.reading.numbers_of.Goals as goal

pub returns-in_err-text-clause-err : goal.returns-in_err-text-clause-err
returns-in_err-text-clause-err g c = on_any_err c.from_residual.result _ (input_untried c.args.name.now _ _ c.in_err-text.ensures.err)

pub returns-in-Ok-clause-ok : goal.returns-in-Ok-clause-ok
returns-in-Ok-clause-ok g c =
    input_goes c.args.name.now c.in-Bytes.text _ _ c.in_ok-text.field-0 c.in-Bytes.is c.in_ok-text.ensures.ok c.in-Ok.input
    (subst (λ b. numbers_of b ≡ Ok c.in-Ok.input) c.as_slice.ensures c.in-Ok.ensures.exact)

pub returns-clause-err : goal.returns-clause-err
returns-clause-err g c = input_starved c.args.name.now c.in-Bytes.text _ _ c.in_ok-text.field-0 c.in-Bytes.is c.in_ok-text.ensures.ok

pub returns-in_err-line-in-Some-clause-err : goal.returns-in_err-line-in-Some-clause-err
returns-in_err-line-in-Some-clause-err g c =
    on_any_err c.from_residual-in_err-line-in-Some.result _
    (input_starved c.args.name.now c.in-Bytes.text _ _ c.in_ok-text.field-0 c.in-Bytes.is c.in_ok-text.ensures.ok)

pub returns-in-Some-clause-ok : goal.returns-in-Some-clause-ok
returns-in-Some-clause-ok g c =
    let refused = subst (λ d. Fails (numbers_of c.as_slice.result.now) d) (sym c.in-Some.ensures) c.in-Err.ensures.exact in
    input_refused c.args.name.now c.in-Bytes.text _ _ c.in_ok-text.field-0 c.in-Bytes.is c.in_ok-text.ensures.ok c.in-Some.cause c.failed.result
    (subst (λ b. numbers_of b ≡ Err c.in-Some.cause) c.as_slice.ensures refused)
    (c.failed.ensures ∙ ap (failed 7) c.in_ok-line-in-Some.ensures)
