-- What a judge goes by, and what it has judged.
use Rattle.std.specs.Prelude.{ℕ, Bool, ◌&&◌, ◌||◌, if◌then◌else◌, refl}
use Rattle.std.specs.Coded.{Coded, code_by, coded×, coded_ℕ, coded_bool}
use Rattle.std.specs.FinSet as set
use Rattle.std.specs.FinSet.{FinSet}
use Rattle.al_source.specs.declared.annotations.Policy.{Policy}
use Rattle.al_source.specs.declared.annotations.CommitOrder.{CommitOrder}
use Rattle.al_source.specs.contracts.annotations.Policy as policy
use Rattle.al_source.specs.contracts.annotations.CommitOrder as order
use Rattle.al_core.specs.declared.choices.Choice.{Choice}
use Rattle.al_core.specs.declared.reports.Verdict.{Verdict}
use Rattle.al_core.specs.declared.reports.Verdict.TheVariants as verdict
use Rattle.al_core.specs.contracts.values.Addr as addr
use Rattle.al_core.specs.Orders.{addr_cmp}
use Rattle.al_core.specs.Chunk.{Outcome}
use Rattle.al_core.specs.Clash.{clashes}
use Rattle.al_core.specs.Verdicts.{Judging, is_in_order, commit_or_trap}

-- by what verdicts are given
pub record Rule : Type 0 where
  pub policy : Policy
  pub order : CommitOrder
  -- the words of a line
  pub line : ℕ

abbrev pub rule_of : Choice → Rule
rule_of choice = record { policy = choice.policy; order = choice.order; line = choice.line }

-- a judge: its rule, what later verdicts depend on, and for how many more blocks of touched addresses there is room
pub record Standing : Type 0 where
  pub rule : Rule
  pub judging : Judging
  pub room : ℕ

-- the verdict by a rule
abbrev pub verdict_by : Standing → Outcome → Verdict
verdict_by s o =
    if (is_in_order s.rule.order && s.judging.failed) || s.judging.trapped then verdict.After
    else if clashes s.rule.policy s.rule.line o s.judging.written then verdict.Fail
    else commit_or_trap o.ending

abbrev pub rule_code : Coded Rule
rule_code =
    code_by (Policy × (CommitOrder × ℕ)) (coded× policy.the_row.coded (coded× order.the_row.coded coded_ℕ))
    (λ r. (r.policy, (r.order, r.line)))
    (λ p. record { policy = p.0; order = p.1.0; line = p.1.1 })
    (λ _. refl)

abbrev pub judging_code : Coded Judging
judging_code =
    code_by (FinSet addr_cmp × (Bool × Bool)) (coded× (set.code addr.the_row.coded) (coded× coded_bool coded_bool))
    (λ j. (j.written, (j.failed, j.trapped)))
    (λ p. record { written = p.0; failed = p.1.0; trapped = p.1.1 })
    (λ _. refl)

abbrev pub standing_code : Coded Standing
standing_code =
    code_by (Rule × (Judging × ℕ)) (coded× rule_code (coded× judging_code coded_ℕ))
    (λ s. (s.rule, (s.judging, s.room)))
    (λ p. record { rule = p.0; judging = p.1.0; room = p.1.1 })
    (λ _. refl)
