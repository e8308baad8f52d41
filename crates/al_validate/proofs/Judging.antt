-- Verdicts by a rule, and what a change tells.
use Rattle.std.proofs.Common.{◌≡◌, Bool, true, false, refl, sym, ap, subst, ◌∙◌}
use Rattle.std.specs.Prelude.{if◌then◌else◌}
use Rattle.std.specs.FinSet as set
use Rattle.std.specs.FinSet.{FinSet}
use Rattle.al_core.specs.declared.choices.Choice.{Choice}
use Rattle.al_core.specs.declared.reports.Ending.{Ending}
use Rattle.al_core.specs.declared.reports.Verdict.{Verdict}
use Rattle.al_core.specs.declared.reports.Verdict.TheVariants as verdict
use Rattle.al_core.specs.Orders.{addr_cmp}
use Rattle.al_core.specs.Chunk.{Outcome}
use Rattle.al_core.specs.Clash.{clashes}
use Rattle.al_core.specs.Verdicts.{Judging, commit_or_trap, verdict_of, after_verdict, judged}
use Rattle.al_snap.specs.declared.change.Change.{Change}
use Rattle.al_snap.specs.Changes.{told}
use Rattle.al_validate.specs.Judges.{Rule, rule_of, Standing, verdict_by}

-- what a change touched, and how it ended
pub told_touched : (c : Change) (o : Outcome) → told c ≡ o → c.touched.members ≡ o.touched
unfolding told
told_touched c o e = ap (λ (o : Outcome). o.touched) e

pub told_ending : (c : Change) → (told c).ending ≡ c.ending
unfolding told
told_ending c = refl

-- for a choice of the judge's rule
pub by_rule : (choice : Choice) (s : Standing) (o : Outcome) → rule_of choice ≡ s.rule → verdict_by s o ≡ verdict_of choice s.judging o
unfolding verdict_of
by_rule choice s o e = ap (λ r. verdict_by (record { rule = r; judging = s.judging; room = s.room }) o) (sym e)

pub after_by_rule : (choice : Choice) (s : Standing) (v : Verdict) (o : Outcome) → v ≡ verdict_of choice s.judging o
    → after_verdict v s.judging o ≡ judged choice s.judging o
unfolding judged
after_by_rule choice s v o e = ap (λ v. after_verdict v s.judging o) e

-- where a chunk neither comes after what stops the round nor clashes, its ending decides
pub neither : (c : Change) (stopped clash : Bool) → stopped ≡ false → clash ≡ false
    → commit_or_trap c.ending ≡ (if stopped then verdict.After else if clash then verdict.Fail else commit_or_trap (told c).ending)
unfolding told
neither c true clash s k = absurd (cc)
neither c false true s k = absurd (cc)
neither c false false s k = refl

-- what is judged after a committed chunk
pub after_commit : (c : Change) (v : Verdict) (earlier : Judging) (written : FinSet addr_cmp) → v ≡ verdict.Commit
    → written ≡ set.union earlier.written c.touched.members
    → ◌≡◌ {A = Judging} (record { written = written; failed = earlier.failed; trapped = earlier.trapped }) (after_verdict v earlier (told c))
unfolding told
after_commit c v earlier written is e =
    (λ t. record { written = e t; failed = earlier.failed; trapped = earlier.trapped }) ∙ ap (λ v. after_verdict v earlier (told c)) (sym is)

pub after_trap : (c : Change) (v : Verdict) (earlier : Judging) (written : FinSet addr_cmp) → v ≡ verdict.CommitTrap
    → written ≡ set.union earlier.written c.touched.members
    → ◌≡◌ {A = Judging} (record { written = written; failed = earlier.failed; trapped = true }) (after_verdict v earlier (told c))
unfolding told
after_trap c v earlier written is e =
    (λ t. record { written = e t; failed = earlier.failed; trapped = true }) ∙ ap (λ v. after_verdict v earlier (told c)) (sym is)
