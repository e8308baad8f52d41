use Rattle.std.proofs.Common.{Ok, ap, map, string_bytes, ◌∙◌}
use Rattle.al_answers.specs.Plans.{Answers}
use Rattle.al_answers.specs.Outcome.{at_once}
use Rattle.al_cli.specs.Shown.{plan_of}
use Rattle.al_cli.proofs.Comings.{if_ok, on_any_err, came_planned, plan_is}
use Rattle.al_cli.proofs.serving.serve.Goals as goal

pub returns-in-Err-clause-ok : goal.returns-in-Err-clause-ok
returns-in-Err-clause-ok g c =
    if_ok c.words_refused.result _ _ (λ a is. came_planned _ _ _ a (ap Answers is) (plan_is _ _ c.in-Err.ensures.exact)) c.words_refused.ensures

pub returns-in-Err-clause-err : goal.returns-in-Err-clause-err
returns-in-Err-clause-err g c = on_any_err c.words_refused.result _ (at_once _ _)

pub returns-in-Demo-clause-ok : goal.returns-in-Demo-clause-ok
returns-in-Demo-clause-ok g c =
    let words = map string_bytes c.args.words.now in
    let plan_is_made = plan_is words _ c.in-Ok.ensures.exact ∙ ap (λ x. plan_of words (Ok x)) c.in-Demo.is in
    if_ok c.made_answer.result _ _ (λ a is. came_planned _ _ _ a is plan_is_made) c.made_answer.ensures

pub returns-in-Demo-clause-err : goal.returns-in-Demo-clause-err
returns-in-Demo-clause-err g c = on_any_err c.made_answer.result _ (at_once _ _)
