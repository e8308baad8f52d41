-- A round is its committed outcomes on the memory at its start, and by a policy that looks at writes these touched different addresses.
use Rattle.std.proofs.Common.{◌≡◌, ℕ, List, [], ◌∷◌, Bool, true, false, ◌||◌, ◌&&◌, refl, sym, ap, subst, ◌∙◌}
use Rattle.std.specs.Prelude.{if◌then◌else◌}
use Rattle.std.specs.FinSet as set
use Rattle.std.specs.FinSet.{FinSet}
use Rattle.std.proofs.Math.Bool.{true≢false}
use Rattle.al_core.specs.declared.choices.Choice.{Choice}
use Rattle.al_core.specs.declared.values.Addr.{Addr}
use Rattle.al_core.specs.declared.reports.Ending.{Ending}
use Rattle.al_core.specs.declared.reports.Ending.TheVariants as ending
use Rattle.al_core.specs.declared.reports.Verdict.{Verdict}
use Rattle.al_core.specs.declared.reports.Verdict.TheVariants as verdict
use Rattle.al_core.specs.Orders.{addr_cmp}
use Rattle.al_core.specs.Memory.{Memory}
use Rattle.al_core.specs.Iteration.{Execution}
use Rattle.al_core.specs.Chunk.{Outcome, outcome}
use Rattle.al_core.specs.Clash.{clashes}
use Rattle.al_core.specs.Verdicts.{Judging, nothing_judged, is_in_order, commit_or_trap, verdict_of, with_written, after_verdict, judged, is_committed, cons_if}
use Rattle.al_core.specs.Round.{outcomes}
use Rattle.al_core.specs.Lockstep.{commits}
use Rattle.al_laws.proofs.Commits.{more_verdicts, round_verdicts}
use Rattle.al_rounds_laws.specs.Loops.{Each, Pairwise, LooksAtWrites}
use Rattle.al_rounds_laws.specs.Writes.{laid_over, RoundIsLaidOver, TouchApart, CommittedTouchApart}
use Rattle.al_rounds_laws.proofs.Lists.{each_map}
use Rattle.al_rounds_laws.proofs.Sets.{not_met, writes_apart, off_one}
use Rattle.al_rounds_laws.proofs.OneRound.{kept, kept_end, round_kept}

-- ---- what is kept are the outcomes of the committed chunks

module _ (x : Execution) (choice : Choice) (m : Memory) where
  abbrev on_start : List ℕ → List Outcome
  on_start cs = outcomes x choice.reds m cs

  one_more : (c : ℕ) (b : Bool) (os : List Outcome) (ks : List ℕ) → os ≡ on_start ks → cons_if b (outcome x choice.reds m c) os ≡ on_start (cons_if b c ks)
  one_more c true os ks e = ap (λ z. outcome x choice.reds m c ∷ z) e
  one_more c false os ks e = e

  kept_outcomes : (cs : List ℕ) (earlier : Judging) → kept x choice m cs earlier ≡ on_start (commits (more_verdicts x choice m cs earlier))
  kept_outcomes [] earlier = refl
  kept_outcomes (c ∷ cs) earlier =
      let o = outcome x choice.reds m c in
      let later = judged choice earlier o in
      one_more c (is_committed (verdict_of choice earlier o)) (kept x choice m cs later) (commits (more_verdicts x choice m cs later))
      (kept_outcomes cs later)

pub round_is_laid_over : RoundIsLaidOver
round_is_laid_over x choice m cs =
    round_kept x choice cs m
    ∙ ap (λ os. kept_end choice.reds os m []) (kept_outcomes x choice m cs nothing_judged)
    ∙ ap (λ js. laid_over x choice m (commits js)) (sym (round_verdicts x choice cs m))

-- ---- committed chunks touched different addresses

-- the second has nothing of the first
abbrev Avoids : FinSet addr_cmp → FinSet addr_cmp → Type 0
Avoids w t = (a : Addr) → set.contains t a ≡ true → set.contains w a ≡ false

module _ (x : Execution) (choice : Choice) (m : Memory) (looks : LooksAtWrites choice.policy) where
  abbrev touched_by : ℕ → FinSet addr_cmp
  touched_by c = (outcome x choice.reds m c).touched

  record Apart (w : FinSet addr_cmp) (ks : List ℕ) : Type 0 where
    pub earlier : Each (λ c. Avoids w (touched_by c)) ks
    pub pairwise : Pairwise (TouchApart x choice m) ks

  with_one : (c : ℕ) (w : FinSet addr_cmp) (ks : List ℕ) → clashes choice.policy choice.line (outcome x choice.reds m c) w ≡ false
      → Apart (set.union w (touched_by c)) ks → Apart w (c ∷ ks)
  with_one c w ks f k = record {
    earlier = (
      λ a e. not_met (touched_by c) w a (writes_apart choice.policy looks choice.line (outcome x choice.reds m c) w f) e,
      each_map ks (λ d h a e. (off_one w (touched_by c) a (h a e)).0) k.earlier,
    );
    pairwise = (each_map ks (λ d h a s e. true≢false (sym s ∙ (off_one w (touched_by c) a (h a e)).1)) k.earlier, k.pairwise);
  }

  abbrev ApartBy : ℕ → List ℕ → Judging → Verdict → Type 0
  ApartBy c cs s v =
      Apart s.written (commits (record { chunk = c; verdict = v } ∷ more_verdicts x choice m cs (after_verdict v s (outcome x choice.reds m c))))

  by_verdict : (c : ℕ) (cs : List ℕ) (s : Judging) (stop clash : Bool) (e : Ending)
      → clashes choice.policy choice.line (outcome x choice.reds m c) s.written ≡ clash
      → ((s : Judging) → Apart s.written (commits (more_verdicts x choice m cs s)))
      → ApartBy c cs s (if stop then verdict.After else if clash then verdict.Fail else commit_or_trap e)
  by_verdict c cs s true clash e f rest = rest s
  by_verdict c cs s false true e f rest = let k = rest (record s { failed = true }) in record { earlier = k.earlier; pairwise = k.pairwise }
  by_verdict c cs s false false ending.Done f rest =
      let later = with_written s (outcome x choice.reds m c) in
      with_one c s.written (commits (more_verdicts x choice m cs later)) f (rest later)
  by_verdict c cs s false false (ending.Trap t line) f rest =
      let later : Judging = record (with_written s (outcome x choice.reds m c)) { trapped = true } in
      let k = rest later in
      with_one c s.written (commits (more_verdicts x choice m cs later)) f (record { earlier = k.earlier; pairwise = k.pairwise })

  all_apart : (cs : List ℕ) (s : Judging) → Apart s.written (commits (more_verdicts x choice m cs s))
  unfolding judged verdict_of
  all_apart [] s = record { earlier = tt; pairwise = tt }
  all_apart (c ∷ cs) s =
      let o = outcome x choice.reds m c in
      by_verdict c cs s ((is_in_order choice.order && s.failed) || s.trapped) (clashes choice.policy choice.line o s.written) o.ending refl (all_apart cs)

pub committed_touch_apart : CommittedTouchApart
committed_touch_apart x choice m cs looks =
    subst (λ js. Pairwise (TouchApart x choice m) (commits js)) (sym (round_verdicts x choice cs m)) (all_apart x choice m looks cs nothing_judged).pairwise
