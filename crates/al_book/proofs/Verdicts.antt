-- The verdict on one outcome more.
use Rattle.std.proofs.Common.{◌≡◌, ℕ, List, [], ◌∷◌, ◌++◌, Bool, true, false, ◌&&◌, ◌||◌, refl, sym, ap, ◌∙◌, length, arith}
use Rattle.std.specs.Prelude.{if◌then◌else◌, map}
use Rattle.std.specs.FinSet as set
use mathlib.Core.List.{map-append}
use Rattle.al_source.specs.declared.annotations.CommitOrder.{CommitOrder}
use Rattle.al_source.specs.declared.annotations.Policy.{Policy}
use Rattle.al_source.specs.declared.annotations.Policy.TheVariants as policy
use Rattle.al_core.specs.declared.choices.Choice.{Choice}
use Rattle.al_core.specs.declared.reports.Ending.{Ending}
use Rattle.al_core.specs.declared.reports.Ending.TheVariants as ending
use Rattle.al_core.specs.declared.reports.Verdict.{Verdict}
use Rattle.al_core.specs.declared.reports.Verdict.TheVariants as verdict
use Rattle.al_core.specs.Chunk.{Outcome}
use Rattle.al_core.specs.Clash.{meets_lines, clashes}
use Rattle.al_core.specs.Verdicts.{Judging, nothing_judged, is_in_order, commit_or_trap, verdict_of, after_verdict, judged, verdicts_from, verdicts, is_committed, cons_if, committed}
use Rattle.al_board.specs.Core.{Event, IsHistory, played, first_pieces}
use Rattle.al_board.specs.Verdicts.{in_order}
use Rattle.al_board.proofs.Verdicts.{verdicts_are}
use Rattle.al_laws.proofs.Meeting.{meets_nothing}
use Rattle.al_book.specs.Judging.{ends_in_trap, unreduced, judging_after, clashes_with_one, verdict_by, failed_after, trapped_after, verdict_after, verdicts_on, HistoriesAreJudged}
use Rattle.al_book.proofs.Sets.{or_assoc, clash_union}

-- ---- one outcome more

pub judging_next : (choice : Choice) (e : Judging) (os : List Outcome) (o : Outcome)
    → judging_after choice e (os ++ o ∷ []) ≡ judged choice (judging_after choice e os) o
judging_next choice e [] o = refl
judging_next choice e (x ∷ os) o = judging_next choice (judged choice e x) os o

verdicts_next : (choice : Choice) (e : Judging) (os : List Outcome) (o : Outcome)
    → verdicts_from choice e (os ++ o ∷ []) ≡ verdicts_from choice e os ++ verdict_of choice (judging_after choice e os) o ∷ []
verdicts_next choice e [] o = refl
verdicts_next choice e (x ∷ os) o = ap (λ vs. verdict_of choice e x ∷ vs) (verdicts_next choice (judged choice e x) os o)

pub verdicts_more : (choice : Choice) (os : List Outcome) (o : Outcome)
    → verdicts choice (os ++ o ∷ []) ≡ verdicts choice os ++ verdict_of choice (judging_after choice nothing_judged os) o ∷ []
unfolding verdicts
verdicts_more choice os o = verdicts_next choice nothing_judged os o

-- ---- what a verdict depends on

judged_is : (choice : Choice) (e : Judging) (o : Outcome) → judged choice e o ≡ after_verdict (verdict_of choice e o) e o
unfolding judged
judged_is choice e o = refl

failed_by : (v : Verdict) (e : Judging) (o : Outcome) → (after_verdict v e o).failed ≡ failed_after v e.failed
failed_by verdict.Commit e o = refl
failed_by verdict.CommitTrap e o = refl
failed_by verdict.Fail e o = refl
failed_by verdict.After e o = refl

trapped_by : (v : Verdict) (e : Judging) (o : Outcome) → (after_verdict v e o).trapped ≡ trapped_after v e.trapped
trapped_by verdict.Commit e o = refl
trapped_by verdict.CommitTrap e o = refl
trapped_by verdict.Fail e o = refl
trapped_by verdict.After e o = refl

pub failed_next : (choice : Choice) (e : Judging) (o : Outcome) → (judged choice e o).failed ≡ failed_after (verdict_of choice e o) e.failed
failed_next choice e o = ap (λ (j : Judging). j.failed) (judged_is choice e o) ∙ failed_by (verdict_of choice e o) e o

pub trapped_next : (choice : Choice) (e : Judging) (o : Outcome) → (judged choice e o).trapped ≡ trapped_after (verdict_of choice e o) e.trapped
trapped_next choice e o = ap (λ (j : Judging). j.trapped) (judged_is choice e o) ∙ trapped_by (verdict_of choice e o) e o

-- a clash with what was written is a clash with one that was committed
module _ (choice : Choice) (o : Outcome) where
  or_none : (b : Bool) → b ≡ (b || false)
  or_none true = refl
  or_none false = refl

  written_by : (v : Verdict) (e : Judging) (x : Outcome) (rest : List Outcome)
      → (clashes choice.policy choice.line o (after_verdict v e x).written || clashes_with_one choice o rest)
      ≡ (clashes choice.policy choice.line o e.written || clashes_with_one choice o (cons_if (is_committed v) x rest))
  written_by verdict.Commit e x rest =
      ap (λ b. b || clashes_with_one choice o rest) (clash_union choice.policy choice.line o e.written x.touched)
      ∙ or_assoc (clashes choice.policy choice.line o e.written) (clashes choice.policy choice.line o x.touched) (clashes_with_one choice o rest)
  written_by verdict.CommitTrap e x rest =
      ap (λ b. b || clashes_with_one choice o rest) (clash_union choice.policy choice.line o e.written x.touched)
      ∙ or_assoc (clashes choice.policy choice.line o e.written) (clashes choice.policy choice.line o x.touched) (clashes_with_one choice o rest)
  written_by verdict.Fail e x rest = refl
  written_by verdict.After e x rest = refl

  written_from : (e : Judging) (os : List Outcome)
      → clashes choice.policy choice.line o (judging_after choice e os).written
      ≡ (clashes choice.policy choice.line o e.written || clashes_with_one choice o (committed os (verdicts_from choice e os)))
  written_from e [] = or_none (clashes choice.policy choice.line o e.written)
  written_from e (x ∷ os) =
      let rest = committed os (verdicts_from choice (judged choice e x) os) in
      written_from (judged choice e x) os
      ∙ ap (λ (j : Judging). clashes choice.policy choice.line o j.written || clashes_with_one choice o rest) (judged_is choice e x)
      ∙ written_by (verdict_of choice e x) e x rest

  none_hit : (p : Policy) (g : ℕ) → clashes p g o set.empty ≡ false
  none_hit policy.Full g = ap (λ b. b || meets_lines g o.touched set.empty) (meets_nothing g o.reads) ∙ meets_nothing g o.touched
  none_hit policy.Raw g = meets_nothing g o.reads
  none_hit policy.Waw g = meets_nothing g o.touched
  none_hit policy.None g = refl

  pub met_known : (os : List Outcome) (vs : List Verdict) → vs ≡ verdicts choice os
      → clashes_with_one choice o (committed os vs) ≡ clashes choice.policy choice.line o (judging_after choice nothing_judged os).written
  unfolding verdicts
  met_known os vs e =
      ap (λ z. clashes_with_one choice o (committed os z)) e
      ∙ ap (λ b. b || clashes_with_one choice o (committed os (verdicts_from choice nothing_judged os))) (sym (none_hit choice.policy choice.line))
      ∙ sym (written_from nothing_judged os)

  -- no verdicts, no clash
  pub nothing_met : (os : List Outcome) (vs : List Verdict) → length vs ≡ 0 → false ≡ clashes_with_one choice o (committed os vs)
  nothing_met [] vs e = refl
  nothing_met (x ∷ os) [] e = refl
  nothing_met (x ∷ os) (v ∷ vs) e = absurd (omega arith)

-- the verdict by what is known of it
trap_or : (e : Ending) → (if ends_in_trap e then verdict.CommitTrap else verdict.Commit) ≡ commit_or_trap e
trap_or ending.Done = refl
trap_or (ending.Trap t line) = refl

pub verdict_known : (choice : Choice) (e : Judging) (o : Outcome) (failed trapped met : Bool)
    → failed ≡ e.failed → trapped ≡ e.trapped → met ≡ clashes choice.policy choice.line o e.written
    → verdict_by choice.order failed trapped met (ends_in_trap o.ending) ≡ verdict_of choice e o
unfolding verdict_of
verdict_known choice e o failed trapped met f t m =
    (λ i. if (is_in_order choice.order && f i) || t i then verdict.After else if m i then verdict.Fail else trap_or o.ending i)

-- ---- reductions

verdict_same : (c : Choice) (e : Judging) (o : Outcome) → verdict_of (unreduced c) e o ≡ verdict_of c e o
unfolding verdict_of
verdict_same c e o = refl

judged_same : (c : Choice) (e : Judging) (o : Outcome) → judged (unreduced c) e o ≡ judged c e o
unfolding judged
judged_same c e o = ap (λ v. after_verdict v e o) (verdict_same c e o)

from_same : (c : Choice) (e : Judging) (os : List Outcome) → verdicts_from (unreduced c) e os ≡ verdicts_from c e os
from_same c e [] = refl
from_same c e (o ∷ os) =
    (λ i. verdict_same c e o i ∷ verdicts_from (unreduced c) (judged_same c e o i) os)
    ∙ ap (λ vs. verdict_of c e o ∷ vs) (from_same c (judged c e o) os)

pub verdicts_same : (c : Choice) (os : List Outcome) → verdicts (unreduced c) os ≡ verdicts c os
unfolding verdicts
verdicts_same c os = from_same c nothing_judged os

-- ---- histories

module _ {T : Type 0} (outcome : T → Outcome) (choice : Choice) where
  judging_of : List T → Judging
  judging_of before = judging_after choice nothing_judged (map outcome before)

  in_order_from : (before pieces : List T)
      → in_order (verdict_after outcome choice) before pieces
      ≡ verdicts_from choice (judging_after choice nothing_judged (map outcome before)) (map outcome pieces)
  in_order_from before [] = refl
  in_order_from before (p ∷ pieces) =
      ap (λ vs. verdict_after outcome choice before p ∷ vs)
      (in_order_from (before ++ p ∷ []) pieces
      ∙ ap (λ e. verdicts_from choice e (map outcome pieces))
      (ap (judging_after choice nothing_judged) (map-append outcome before (p ∷ []))
      ∙ judging_next choice nothing_judged (map outcome before) (outcome p)))

  pub in_order_on : (pieces : List T) → in_order (verdict_after outcome choice) [] pieces ≡ verdicts_on outcome choice pieces
  unfolding verdicts
  in_order_on pieces = in_order_from [] pieces

  pub histories_are_judged : (fits : ℕ → T → Type 0) (lanes : ℕ) → HistoriesAreJudged outcome choice fits lanes
  histories_are_judged fits lanes history legal =
      verdicts_are (verdict_after outcome choice) fits lanes history legal
      ∙ in_order_on (first_pieces (played lanes history).judged (played lanes history).pieces)
