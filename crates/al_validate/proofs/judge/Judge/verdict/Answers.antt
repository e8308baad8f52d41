use Rattle.std.proofs.Common.{◌≡◌, ◌&&◌, ◌||◌, sym, subst, ◌∙◌}
use Rattle.al_core.specs.Clash.{clashes}
use Rattle.al_core.specs.Verdicts.{is_in_order}
use Rattle.al_snap.specs.Changes.{told}
use Rattle.al_validate.specs.Judges.{Standing, verdict_by}
use Rattle.al_validate.proofs.Judging.{neither}
use Rattle.al_validate.proofs.judge.Judge.verdict.Goals as goal

pub returns : goal.returns
returns c =
    let j = c.self.inside in
    let change = c.args.change.now in
    subst (λ (s : Standing). c.commit_or_trap.result ≡ verdict_by s (told change)) c.self.view_is
    (c.commit_or_trap.ensures
    ∙ neither change ((is_in_order j.order && j.failed) || j.trapped) (clashes j.policy j.line (told change) j.written.members)
    (sym c.comes_after.ensures ∙ c.if-comes_after.false) (sym c.clash_by.ensures ∙ c.if-clash_by.false))
