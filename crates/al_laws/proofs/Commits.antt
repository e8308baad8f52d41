-- The first chunk of a round commits, and each chunk is committed once.
use Rattle.std.proofs.Common.{◌≡◌, ◌≢◌, ℕ, zero, suc, ◌+◌, ◌≤◌, ◌<◌, List, [], ◌∷◌, ◌++◌, length, take, drop, Bool, true, false, ◌&&◌, ◌||◌, refl, sym, ap, subst, ◌∙◌, arith, length-append}
use Rattle.std.proofs.lemmas.Bool.{ne_eqb, eqb-true, eqb-false}
use Rattle.std.specs.Prelude.{if◌then◌else◌, ◌==◌, map, not}
use Rattle.std.specs.FinSet as set
use Rattle.al_source.specs.declared.annotations.Policy.{Policy}
use Rattle.al_source.specs.declared.annotations.Policy.TheVariants as policy
use Rattle.al_core.specs.declared.choices.Choice.{Choice}
use Rattle.al_core.specs.declared.values.Trap.{Trap}
use Rattle.al_core.specs.declared.reports.Ending.{Ending}
use Rattle.al_core.specs.declared.reports.Ending.TheVariants as ending
use Rattle.al_core.specs.declared.reports.Verdict.TheVariants as verdict
use Rattle.al_core.specs.declared.reports.Judged.{Judged}
use Rattle.al_core.specs.Memory.{Memory}
use Rattle.al_core.specs.Iteration.{Execution}
use Rattle.al_core.specs.Chunk.{Outcome, outcome, chunk_count}
use Rattle.al_core.specs.Clash.{meets_lines, clashes}
use Rattle.al_core.specs.Verdicts.{Judging, nothing_judged, is_in_order, commit_or_trap, verdict_of, judged, verdicts_from, verdicts, is_committed, cons_if}
use Rattle.al_core.specs.Round.{Round, with_chunks, outcomes, round}
use Rattle.al_core.specs.Lockstep.{Rounds, not_committed, commits, with_round, still_pending, unless_trapped, rounds_from, up_from, all_chunks, no_rounds, lockstep, commits_of}
use Rattle.al_laws.proofs.Meeting.{meets_nothing}
use Rattle.al_laws.specs.Rounds.{FirstCommits, times, RoundsAtMostChunks, CommittedAtMostOnce, AllCommitted}

-- ---- the first chunk of a round commits

clashes_nothing : (p : Policy) (g : ℕ) (o : Outcome) → clashes p g o set.empty ≡ false
clashes_nothing policy.Full g o = ap (λ b. b || meets_lines g o.touched set.empty) (meets_nothing g o.reads) ∙ meets_nothing g o.touched
clashes_nothing policy.Raw g o = meets_nothing g o.reads
clashes_nothing policy.Waw g o = meets_nothing g o.touched
clashes_nothing policy.None g o = refl

pub and_false : (b : Bool) → (b && false) ≡ false
and_false true = refl
and_false false = refl

pub first_verdict : (choice : Choice) (o : Outcome) → verdict_of choice nothing_judged o ≡ commit_or_trap o.ending
unfolding verdict_of
first_verdict choice o =
    ap (λ b. if b || false then verdict.After else if clashes choice.policy choice.line o set.empty then verdict.Fail else commit_or_trap o.ending)
    (and_false (is_in_order choice.order))
    ∙ ap (λ b. if b then verdict.Fail else commit_or_trap o.ending) (clashes_nothing choice.policy choice.line o)

committed_first : (e : Ending) → is_committed (commit_or_trap e) ≡ true
committed_first ending.Done = refl
committed_first (ending.Trap t line) = refl

-- ---- the verdicts of a round

-- the chunks with their verdicts, after what was judged earlier
abbrev pub more_verdicts : Execution → Choice → Memory → List ℕ → Judging → List Judged
more_verdicts x choice m cs earlier = with_chunks cs (verdicts_from choice earlier (outcomes x choice.reds m cs))

pub round_verdicts : (x : Execution) (choice : Choice) (cs : List ℕ) (m : Memory) → (round x choice cs m).verdicts ≡ more_verdicts x choice m cs nothing_judged
unfolding round verdicts
round_verdicts x choice cs m = refl

pub first_committed : (choice : Choice) (o : Outcome) → is_committed (verdict_of choice nothing_judged o) ≡ true
first_committed choice o = ap is_committed (first_verdict choice o) ∙ committed_first o.ending

pub first_commits : FirstCommits
first_commits x choice c cs m =
    let o = outcome x choice.reds m c in
    (verdict_of choice nothing_judged o, _, round_verdicts x choice (c ∷ cs) m, first_committed choice o)

-- ---- the number of rounds

-- a round of the chunks that are pending
abbrev pub next_round : Execution → Choice → ℕ → List ℕ → Rounds → Round
next_round x choice lanes pending s = round x choice (take lanes pending) s.memory

rounds_bound : (n : ℕ) (x : Execution) (choice : Choice) (lanes : ℕ) (pending : List ℕ) (s : Rounds)
    → length (rounds_from n x choice lanes pending s).rounds ≤ length s.rounds + n
rounds_bound zero x choice lanes pending s = omega arith
rounds_bound (suc n) x choice lanes [] s = omega arith
rounds_bound (suc n) x choice lanes (c ∷ cs) s =
    let r = next_round x choice lanes (c ∷ cs) s in
    let one = length-append s.rounds (r.verdicts ∷ []) in
    let more = rounds_from n x choice lanes (still_pending lanes (c ∷ cs) r) (with_round r s) in
    elim r.ending as (λ e. length (unless_trapped e (with_round r s) more).rounds ≤ length s.rounds + suc n) [
      | ending.Done ↦ omega (arith, one, rounds_bound n x choice lanes (still_pending lanes (c ∷ cs) r) (with_round r s))
      | ending.Trap t line ↦ omega (arith, one)
    ]

pub rounds_at_most_chunks : RoundsAtMostChunks
unfolding lockstep
rounds_at_most_chunks x choice lanes m = omega (arith, rounds_bound (chunk_count x) x choice lanes (all_chunks x) (no_rounds m))

-- ---- how often a chunk is committed

times_append : (c : ℕ) (l k : List ℕ) → times c (l ++ k) ≡ times c l + times c k
times_append c [] k = omega arith
times_append c (d ∷ l) k = omega (arith, times_append c l k)

times_split : (c lanes : ℕ) (l : List ℕ) → times c (take lanes l) + times c (drop lanes l) ≡ times c l
times_split c zero l = omega arith
times_split c (suc n) [] = omega arith
times_split c (suc n) (d ∷ l) = omega (arith, times_split c n l)

-- each judged chunk is committed or stays pending
times_judged : (c : ℕ) (js : List Judged) → times c (commits js) + times c (not_committed js) ≡ times c (map (λ j. j.chunk) js)
times_judged c [] = omega arith
times_judged c (j ∷ js) =
    elim (is_committed j.verdict) as
    (λ b. times c (cons_if b j.chunk (commits js)) + times c (cons_if (not b) j.chunk (not_committed js)) ≡ (if j.chunk == c then 1 else 0) + times c
    (map (λ j. j.chunk) js)) [
      | true ↦ omega (arith, times_judged c js)
      | false ↦ omega (arith, times_judged c js)
    ]

pub chunks_judged : (x : Execution) (choice : Choice) (m : Memory) (cs : List ℕ) (earlier : Judging)
    → map (λ j. j.chunk) (more_verdicts x choice m cs earlier) ≡ cs
chunks_judged x choice m [] earlier = refl
chunks_judged x choice m (c ∷ cs) earlier = ap (λ l. c ∷ l) (chunks_judged x choice m cs (judged choice earlier (outcome x choice.reds m c)))

times_round : (c : ℕ) (x : Execution) (choice : Choice) (cs : List ℕ) (m : Memory)
    → times c (commits (round x choice cs m).verdicts) + times c (not_committed (round x choice cs m).verdicts) ≡ times c cs
times_round c x choice cs m =
    times_judged c (round x choice cs m).verdicts ∙ ap (λ l. times c (map (λ j. j.chunk) l)) (round_verdicts x choice cs m)
    ∙ ap (times c) (chunks_judged x choice m cs nothing_judged)

commits_append : (c : ℕ) (rs : List (List Judged)) (r : List Judged) → times c (commits_of (rs ++ r ∷ [])) ≡ times c (commits_of rs) + times c (commits r)
commits_append c [] r = omega (arith, times_append c (commits r) [])
commits_append c (q ∷ rs) r =
    omega (arith, times_append c (commits q) (commits_of (rs ++ r ∷ [])), times_append c (commits q) (commits_of rs), commits_append c rs r)

-- what is committed and what is pending, before and after a round
times_next : (c : ℕ) (x : Execution) (choice : Choice) (lanes : ℕ) (pending : List ℕ) (s : Rounds) →
    times c (commits_of (with_round (next_round x choice lanes pending s) s).rounds) + times c
    (still_pending lanes pending (next_round x choice lanes pending s)) ≡ times c (commits_of s.rounds) + times c pending
times_next c x choice lanes pending s =
    let r = next_round x choice lanes pending s in
    omega (
      arith,
      commits_append c s.rounds r.verdicts,
      times_append c (not_committed r.verdicts) (drop lanes pending),
      times_round c x choice (take lanes pending) s.memory,
      times_split c lanes pending,
    )

times_rounds : (c n : ℕ) (x : Execution) (choice : Choice) (lanes : ℕ) (pending : List ℕ) (s : Rounds)
    → times c (commits_of (rounds_from n x choice lanes pending s).rounds) ≤ times c (commits_of s.rounds) + times c pending
times_rounds c zero x choice lanes pending s = omega arith
times_rounds c (suc n) x choice lanes [] s = omega arith
times_rounds c (suc n) x choice lanes (d ∷ ds) s =
    let r = next_round x choice lanes (d ∷ ds) s in
    let next = times_next c x choice lanes (d ∷ ds) s in
    let more = rounds_from n x choice lanes (still_pending lanes (d ∷ ds) r) (with_round r s) in
    elim r.ending as (λ e. times c (commits_of (unless_trapped e (with_round r s) more).rounds) ≤ times c (commits_of s.rounds) + times c (d ∷ ds)) [
      | ending.Done ↦ omega (arith, next, times_rounds c n x choice lanes (still_pending lanes (d ∷ ds) r) (with_round r s))
      | ending.Trap t line ↦ omega (arith, next)
    ]

-- ---- all chunks, each once

times_below : (c n k : ℕ) → c < k → times c (up_from n k) ≡ 0
times_below c zero k h = omega arith
times_below c (suc n) k h = ap (λ b. (if b then 1 else 0) + times c (up_from n (suc k))) (ne_eqb k c (omega arith))
    ∙ omega (arith, times_below c n (suc k) (omega arith))

times_at : (c n k : ℕ) → k ≤ c → c < k + n → times c (up_from n k) ≡ 1
times_at c zero k h g = absurd (omega arith)
times_at c (suc n) k h g =
    elim (k == c) as (λ b. (k == c) ≡ b → (if b then 1 else 0) + times c (up_from n (suc k)) ≡ 1) [
      | true ↦ λ e. omega (arith, times_below c n (suc k) (omega (arith, eqb-true k c e)))
      | false ↦ λ e. omega (arith, times_at c n (suc k) (omega (arith, eqb-false k c e)) (omega arith))
    ] refl

times_most : (c n k : ℕ) → times c (up_from n k) ≤ 1
times_most c zero k = omega arith
times_most c (suc n) k =
    elim (k == c) as (λ b. (k == c) ≡ b → (if b then 1 else 0) + times c (up_from n (suc k)) ≤ 1) [
      | true ↦ λ e. omega (arith, times_below c n (suc k) (omega (arith, eqb-true k c e)))
      | false ↦ λ e. omega (arith, times_most c n (suc k))
    ] refl

pub committed_at_most_once : CommittedAtMostOnce
unfolding lockstep
committed_at_most_once x choice lanes m c =
    omega (arith, times_rounds c (chunk_count x) x choice lanes (all_chunks x) (no_rounds m), times_most c (chunk_count x) 0)

-- ---- a round without a committed trap takes a chunk away

abbrev is_trap : Ending → Type 0
is_trap ending.Done = ⊥
is_trap (ending.Trap t line) = Unit {0}

not_done : (t : Trap) (line : ℕ) → ending.Trap t line ≢ ending.Done
not_done t line e = subst (λ (e : Ending). is_trap e) e tt

pub fewer : (js : List Judged) → length (not_committed js) ≤ length js
fewer [] = omega arith
fewer (j ∷ js) = elim (is_committed j.verdict) as (λ b. length (cons_if (not b) j.chunk (not_committed js)) ≤ suc (length js)) [
  | true ↦ omega (arith, fewer js)
  | false ↦ omega (arith, fewer js)
]

fewer_after_first : (j : Judged) (js : List Judged) → is_committed j.verdict ≡ true → length (not_committed (j ∷ js)) ≤ length js
fewer_after_first j js e = subst (λ b. length (cons_if (not b) j.chunk (not_committed js)) ≤ length js) (sym e) (fewer js)

pub verdict_count : (x : Execution) (choice : Choice) (m : Memory) (cs : List ℕ) (earlier : Judging) → length (more_verdicts x choice m cs earlier) ≡ length cs
verdict_count x choice m [] earlier = refl
verdict_count x choice m (c ∷ cs) earlier = ap suc (verdict_count x choice m cs (judged choice earlier (outcome x choice.reds m c)))

fewer_pending : (x : Execution) (choice : Choice) (c : ℕ) (cs : List ℕ) (m : Memory) → length (not_committed (round x choice (c ∷ cs) m).verdicts) ≤ length cs
fewer_pending x choice c cs m =
    let o = outcome x choice.reds m c in
    let later = judged choice nothing_judged o in
    subst (λ js. length (not_committed js) ≤ length cs) (sym (round_verdicts x choice (c ∷ cs) m))
    (omega (
      arith,
      verdict_count x choice m cs later,
      fewer_after_first (record {
        chunk = c;
        verdict = verdict_of choice nothing_judged o;
      }) (more_verdicts x choice m cs later) (first_committed choice o),
    ))

pub length_split : (lanes : ℕ) (l : List ℕ) → length (take lanes l) + length (drop lanes l) ≡ length l
length_split zero l = omega arith
length_split (suc n) [] = omega arith
length_split (suc n) (d ∷ l) = omega (arith, length_split n l)

-- after a round of at least one lane
pub pending_falls : (x : Execution) (choice : Choice) (lanes d : ℕ) (ds : List ℕ) (s : Rounds) → 0 < lanes
    → length (still_pending lanes (d ∷ ds) (next_round x choice lanes (d ∷ ds) s)) ≤ length ds
pending_falls x choice zero d ds s h = absurd (omega arith)
pending_falls x choice (suc n) d ds s h =
    omega (
      arith,
      length-append (not_committed (next_round x choice (suc n) (d ∷ ds) s).verdicts) (drop n ds),
      fewer_pending x choice d (take n ds) s.memory,
      length_split n ds,
    )

times_done : (c n : ℕ) (x : Execution) (choice : Choice) (lanes : ℕ) (pending : List ℕ) (s : Rounds) → 0 < lanes → length pending ≤ n
    → (rounds_from n x choice lanes pending s).ending ≡ ending.Done
    → times c (commits_of (rounds_from n x choice lanes pending s).rounds) ≡ times c (commits_of s.rounds) + times c pending
times_done c zero x choice lanes [] s h l e = omega arith
times_done c zero x choice lanes (d ∷ ds) s h l e = absurd (omega arith)
times_done c (suc n) x choice lanes [] s h l e = omega arith
times_done c (suc n) x choice lanes (d ∷ ds) s h l e =
    let r = next_round x choice lanes (d ∷ ds) s in
    let next = times_next c x choice lanes (d ∷ ds) s in
    let shorter = pending_falls x choice lanes d ds s h in
    let more = rounds_from n x choice lanes (still_pending lanes (d ∷ ds) r) (with_round r s) in
    elim r.ending as (λ z. r.ending ≡ z → (unless_trapped z (with_round r s) more).ending ≡ ending.Done
    → times c (commits_of (unless_trapped z (with_round r s) more).rounds) ≡ times c (commits_of s.rounds) + times c (d ∷ ds)) [
      | ending.Done ↦ λ t e. times_done c n x choice lanes (still_pending lanes (d ∷ ds) r) (with_round r s) h (omega (arith, shorter)) e ∙ next
      | ending.Trap trap line ↦ λ t e. absurd (not_done trap line (sym t ∙ e))
    ] refl e

pub up_length : (n k : ℕ) → length (up_from n k) ≡ n
up_length zero k = refl
up_length (suc n) k = ap suc (up_length n (suc k))

pub all_committed : AllCommitted
unfolding lockstep
all_committed x choice lanes m h e c l =
    times_done c (chunk_count x) x choice lanes (all_chunks x) (no_rounds m) h (omega (arith, up_length (chunk_count x) 0)) e
    ∙ omega (arith, times_at c (chunk_count x) 0 (omega arith) (omega arith))
