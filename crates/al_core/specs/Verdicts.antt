-- Judging the outcomes of a round, one after another.
use Rattle.std.specs.Prelude.{Bool, true, false, ◌&&◌, ◌||◌, if◌then◌else◌, List, [], ◌∷◌}
use Rattle.std.specs.FinSet as set
use Rattle.std.specs.FinSet.{FinSet}
use Rattle.al_source.specs.declared.annotations.CommitOrder.{CommitOrder}
use Rattle.al_source.specs.declared.annotations.CommitOrder.TheVariants as order
use Rattle.al_core.specs.declared.choices.Choice.{Choice}
use Rattle.al_core.specs.declared.reports.Ending.{Ending}
use Rattle.al_core.specs.declared.reports.Ending.TheVariants as ending
use Rattle.al_core.specs.declared.reports.Verdict.{Verdict}
use Rattle.al_core.specs.declared.reports.Verdict.TheVariants as verdict
use Rattle.al_core.specs.Orders.{addr_cmp}
use Rattle.al_core.specs.Chunk.{Outcome}
use Rattle.al_core.specs.Clash.{clashes}

-- what a verdict depends on beside the outcome itself
pub record Judging : Type 0 where
  -- the addresses that the committed outcomes wrote
  pub written : FinSet addr_cmp
  -- whether an outcome failed
  pub failed : Bool
  -- whether a trap was committed
  pub trapped : Bool

abbrev pub nothing_judged : Judging
nothing_judged = record { written = set.empty; failed = false; trapped = false }

-- whether after a failed outcome no later one may commit
abbrev pub is_in_order : CommitOrder → Bool
is_in_order order.InOrder = true
is_in_order order.OutOfOrder = false

abbrev pub commit_or_trap : Ending → Verdict
commit_or_trap ending.Done = verdict.Commit
commit_or_trap (ending.Trap t line) = verdict.CommitTrap

unfoldable pub verdict_of : Choice → Judging → Outcome → Verdict
verdict_of choice earlier o =
    if (is_in_order choice.order && earlier.failed) || earlier.trapped then verdict.After
    else if clashes choice.policy choice.line o earlier.written then verdict.Fail
    else commit_or_trap o.ending

abbrev pub with_written : Judging → Outcome → Judging
with_written earlier o = record earlier { written = set.union earlier.written o.touched }

-- what later verdicts depend on, after this one
abbrev pub after_verdict : Verdict → Judging → Outcome → Judging
after_verdict verdict.Commit earlier o = with_written earlier o
after_verdict verdict.CommitTrap earlier o = record (with_written earlier o) { trapped = true }
after_verdict verdict.Fail earlier o = record earlier { failed = true }
after_verdict verdict.After earlier o = earlier

unfoldable pub judged : Choice → Judging → Outcome → Judging
judged choice earlier o = after_verdict (verdict_of choice earlier o) earlier o

abbrev pub verdicts_from : Choice → Judging → List Outcome → List Verdict
verdicts_from choice earlier [] = []
verdicts_from choice earlier (o ∷ os) = verdict_of choice earlier o ∷ verdicts_from choice (judged choice earlier o) os

-- the verdicts of the outcomes of a round
unfoldable pub verdicts : Choice → List Outcome → List Verdict
verdicts choice os = verdicts_from choice nothing_judged os

-- ---- what is kept

abbrev pub is_committed : Verdict → Bool
is_committed verdict.Commit = true
is_committed verdict.CommitTrap = true
is_committed verdict.Fail = false
is_committed verdict.After = false

abbrev pub cons_if : {A : Type 0} → Bool → A → List A → List A
cons_if true a rest = a ∷ rest
cons_if false a rest = rest

-- of the outcomes with these verdicts those that are committed
abbrev pub committed : List Outcome → List Verdict → List Outcome
committed [] vs = []
committed (o ∷ os) [] = []
committed (o ∷ os) (v ∷ vs) = cons_if (is_committed v) o (committed os vs)
