use Rattle.std.proofs.Common.{sym, ◌∙◌}
use Rattle.al_answers.specs.Outcome.{at_once}
use Rattle.al_cli.proofs.Comings.{on_any_err, lacks_loop, inputs_done, inputs_starved}
use Rattle.al_cli.proofs.serving.accepted_answer.Goals as goal

pub returns-in_err-line-clause-err : goal.returns-in_err-line-clause-err
returns-in_err-line-clause-err g c = on_any_err c.from_residual.result _ (at_once _ _)

pub returns-in-Some-clause-ok : goal.returns-in-Some-clause-ok
returns-in-Some-clause-ok g c =
    lacks_loop c.args.command _ c.args.job.now c.args.program.now _ c.source_name-name.ensures _ c.failed.result _ c.in-Some.number
    (sym c.missing_loop.ensures ∙ c.in-Some.is) c.in_ok-line.ensures c.failed.ensures

pub returns-in-Numbers-clause-ok : goal.returns-in-Numbers-clause-ok
returns-in-Numbers-clause-ok g c =
    inputs_done c.args.command _ c.args.job.now c.args.program.now _ c.source_name-name.ensures c.in-Numbers.inputs _ _ _ _
    (sym c.missing_loop.ensures ∙ c.in_default.is) c.in-Numbers.is c.in_ok-inputs.ensures.ok c.answer_of.result c.as_slice-inputs.ensures
    c.answer_of.ensures

pub returns-in-Numbers-clause-err : goal.returns-in-Numbers-clause-err
returns-in-Numbers-clause-err g c =
    inputs_starved c.args.command _ c.args.job.now c.args.program.now _ c.source_name-name.ensures c.in-Numbers.inputs c.in-Numbers.inputs _ _ _
    (sym c.missing_loop.ensures ∙ c.in_default.is) c.in-Numbers.is c.in_ok-inputs.ensures.ok c.answer_of.result
