use Rattle.std.proofs.Common.{ap, ◌∙◌}
use Rattle.al_core.specs.Verdicts.{verdict_of, judged}
use Rattle.al_snap.specs.Changes.{told}
use Rattle.al_validate.proofs.Judging.{by_rule, after_by_rule}
use Rattle.al_validate.proofs.judge.Judge.judge.Goals as goal

pub returns-clause-verdict : goal.returns-clause-verdict
returns-clause-verdict c choice o rule is =
    let s = c.args.self.now in
    c.verdict-verdict.ensures ∙ by_rule choice s (told c.args.change.now) rule ∙ ap (verdict_of choice s.judging) is

pub returns-clause-judging : goal.returns-clause-judging
returns-clause-judging c choice o rule is =
    let s = c.args.self.now in
    let change = told c.args.change.now in
    c.go_on.ensures.judging
    ∙ after_by_rule choice s c.verdict-verdict.result change (c.verdict-verdict.ensures ∙ by_rule choice s change rule)
    ∙ ap (judged choice s.judging) is
