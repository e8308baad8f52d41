use Rattle.std.proofs.Common.{ap, ◌∙◌}
use Rattle.al_core.specs.Verdicts.{Judging, after_verdict}
use Rattle.al_snap.specs.Changes.{told}
use Rattle.al_validate.specs.Judges.{Standing}
use Rattle.al_validate.proofs.Judging.{after_commit, after_trap}
use Rattle.al_validate.proofs.judge.Judge.go_on.Goals as goal

pub returns-in-Commit-clause-judging : goal.returns-in-Commit-clause-judging
returns-in-Commit-clause-judging c =
    let j = c.self.inside in
    let earlier : Judging = record { written = j.written.members; failed = j.failed; trapped = j.trapped } in
    after_commit c.args.change.now c.args.verdict earlier c.union.new.self.members c.in-Commit.is c.union.ensures.members
    ∙ ap (λ (s : Standing). after_verdict c.args.verdict s.judging (told c.args.change.now)) c.self.view_is

pub returns-in-CommitTrap-clause-judging : goal.returns-in-CommitTrap-clause-judging
returns-in-CommitTrap-clause-judging c =
    let j = c.self.inside in
    let earlier : Judging = record { written = j.written.members; failed = j.failed; trapped = j.trapped } in
    after_trap c.args.change.now c.args.verdict earlier c.union-in-CommitTrap.new.self.members c.in-CommitTrap.is
    c.union-in-CommitTrap.ensures.members
    ∙ ap (λ (s : Standing). after_verdict c.args.verdict s.judging (told c.args.change.now)) c.self.view_is
