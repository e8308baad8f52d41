-- A round whose policy looks at the reads is a serial run of its committed chunks, for any chunks that come to their direct runs.
use Rattle.std.proofs.Common.{◌≡◌, ◌≢◌, ℕ, List, [], ◌∷◌, ◌++◌, length, None, Bool, true, false, ◌||◌, ◌&&◌, refl, sym, ap, subst, ◌∙◌, append_assoc, append-nil}
use Rattle.std.specs.Prelude.{if◌then◌else◌}
use Rattle.std.specs.FinSet as set
use Rattle.std.specs.FinSet.{FinSet}
use Rattle.al_core.specs.declared.choices.Choice.{Choice}
use Rattle.al_core.specs.declared.choices.Red.{Red}
use Rattle.al_core.specs.declared.values.Addr.{Addr}
use Rattle.al_core.specs.declared.values.Addr.TheVariants.{Word, Head, Local}
use Rattle.al_core.specs.declared.values.Trap.{Trap}
use Rattle.al_core.specs.declared.reports.Ending.{Ending}
use Rattle.al_core.specs.declared.reports.Ending.TheVariants as ending
use Rattle.al_core.specs.declared.reports.Verdict.{Verdict}
use Rattle.al_core.specs.declared.reports.Verdict.TheVariants as verdict
use Rattle.al_core.specs.declared.reports.Judged.{Judged}
use Rattle.al_core.specs.Orders.{addr_cmp}
use Rattle.al_core.specs.Memory.{Memory, AgreeAt}
use Rattle.al_core.specs.Access.{red_index}
use Rattle.al_core.specs.Iteration.{Execution, Finished, then_by}
use Rattle.al_core.specs.Chunk.{Outcome, outcome, chunk_runs}
use Rattle.al_core.specs.Clash.{meets, clashes}
use Rattle.al_core.specs.Applied.{applied, all_applied}
use Rattle.al_core.specs.Verdicts.{Judging, nothing_judged, is_in_order, commit_or_trap, verdict_of, with_written, after_verdict, judged, verdicts_from, verdicts, is_committed, cons_if, committed}
use Rattle.al_core.specs.Round.{Round, all_printed, last_ending, outcomes, round}
use Rattle.al_core.specs.Lockstep.{commits}
use Rattle.al_core.specs.Serial.{direct, chunks_run, serial}
use Rattle.al_laws.specs.Commits.{IsUntouched}
use Rattle.al_laws.specs.DirectRuns.{RunsAs}
use Rattle.al_laws.proofs.Applying.{applied_count}
use Rattle.al_laws.proofs.Untouched.{untouched_stays}
use Rattle.al_laws.proofs.Commits.{more_verdicts}
use Rattle.al_laws.proofs.Depends.{depends_on_reads}
use Rattle.al_laws.proofs.HeadsRead.{heads_are_read}
use Rattle.al_rounds_laws.specs.Loops.{LoopEnd, end_of, end_of_round, Each, AreDistinct, LooksAtReads}
use Rattle.al_rounds_laws.specs.Serially.{Serially}
use Rattle.al_rounds_laws.proofs.Lists.{each_both}
use Rattle.al_rounds_laws.proofs.Sets.{not_met, reads_apart, off_both, agree_trans, agree_itself}
use Rattle.al_rounds_laws.proofs.Later.{Later, chunks_later}
use Rattle.al_rounds_laws.proofs.Unlogged.{chunk_unlogged}

-- what was told, after some bytes, is what a run told
pub record Tells (p : List ℕ) (e : LoopEnd) (r : Finished) : Type 0 where
  pub memory : e.memory ≡ r.content.memory
  pub printed : e.printed ≡ p ++ r.content.printed
  pub ending : e.ending ≡ r.ending

-- ---- the outcomes that a round keeps, after what was judged earlier

abbrev pub kept : Execution → Choice → Memory → List ℕ → Judging → List Outcome
kept x choice m cs earlier = committed (outcomes x choice.reds m cs) (verdicts_from choice earlier (outcomes x choice.reds m cs))

-- what they come to, from a memory and some bytes on
abbrev pub kept_end : List Red → List Outcome → Memory → List ℕ → LoopEnd
kept_end reds os n p = record { memory = all_applied reds os n; printed = all_printed os p; ending = last_ending os ending.Done }

pub round_kept : (x : Execution) (choice : Choice) (cs : List ℕ) (m : Memory)
    → end_of_round (round x choice cs m) ≡ kept_end choice.reds (kept x choice m cs nothing_judged) m []
unfolding round verdicts
round_kept x choice cs m = refl

-- ---- after a committed trap

record Stopped (os : List Outcome) (js : List Judged) : Type 0 where
  pub outcomes : os ≡ []
  pub none : commits js ≡ []

or_true : (b t : Bool) → t ≡ true → (b || t) ≡ true
or_true true t e = refl
or_true false t e = e

after_trap : (choice : Choice) (earlier : Judging) (o : Outcome) → earlier.trapped ≡ true → verdict_of choice earlier o ≡ verdict.After
unfolding verdict_of
after_trap choice earlier o t =
    ap (λ b. if b then verdict.After else if clashes choice.policy choice.line o earlier.written then verdict.Fail else commit_or_trap o.ending)
    (or_true (is_in_order choice.order && earlier.failed) earlier.trapped t)

stopped : (x : Execution) (choice : Choice) (m : Memory) (cs : List ℕ) (earlier : Judging) → earlier.trapped ≡ true
    → Stopped (kept x choice m cs earlier) (more_verdicts x choice m cs earlier)
unfolding judged
stopped x choice m [] earlier t = record { outcomes = refl; none = refl }
stopped x choice m (c ∷ cs) earlier t =
    let o = outcome x choice.reds m c in
    subst (λ v. Stopped (cons_if (is_committed v) o (kept x choice m cs (after_verdict v earlier o)))
    (record { chunk = c; verdict = v } ∷ more_verdicts x choice m cs (after_verdict v earlier o)))
    (sym (after_trap choice earlier o t))
    (let k = stopped x choice m cs earlier t in record { outcomes = k.outcomes; none = k.none })

-- ---- the round

module _ (x : Execution) (choice : Choice) (Ready : ℕ → Memory → Type 0) (h : Serially x choice.reds Ready) (looks : LooksAtReads choice.policy) where
  abbrev reds : List Red
  reds = choice.reds

  -- how an outcome carries a serial run on, from the memory n
  record Step (c : ℕ) (n : Memory) (o : Outcome) : Type 0 where
    pub run : RunsAs reds n o (chunk_runs x c (direct x n))
    pub stays : (a : Addr) → IsUntouched o.touched a → red_index reds a ≡ None → AgreeAt n (applied reds n o) a
    pub ready : (d : ℕ) → c ≢ d → Ready d n → Ready d (applied reds n o)

  step_here : (c : ℕ) (n : Memory) → Ready c n → Step c n (outcome x reds n c)
  step_here c n r = record { run = h.direct_run c n r; stays = λ a u e. untouched_stays x reds n c a u e; ready = λ d e k. h.ready c d n e r k }

  -- from the memory m at the round's start to the memory n so far
  record Ongoing (m : Memory) (written : FinSet addr_cmp) (n : Memory) (cs : List ℕ) : Type 0 where
    pub count : length m.locals ≡ length n.locals
    pub agree : (a : Addr) → IsUntouched written a → red_index reds a ≡ None → AgreeAt m n a
    pub ready : Each (λ c. Ready c n) cs
    pub differ : AreDistinct cs

  read_off : (m : Memory) (c : ℕ) (w : FinSet addr_cmp) → meets (outcome x reds m c).reads w ≡ false → (a : Addr)
      → set.contains (outcome x reds m c).reads a ≡ true → IsUntouched w a
  read_off m c w f (Word o i) e =
      let reads = (outcome x reds m c).reads in
      (not_met reads w (Word o i) f e, not_met reads w (Head o) f (heads_are_read x reds m c o i e))
  read_off m c w f (Head o) e = not_met (outcome x reds m c).reads w (Head o) f e
  read_off m c w f (Local k) e = not_met (outcome x reds m c).reads w (Local k) f e

  abbrev Clashes : Memory → ℕ → FinSet addr_cmp → Bool
  Clashes m c w = clashes choice.policy choice.line (outcome x reds m c) w

  -- a chunk that does not clash would do the same on the memory so far
  same_here : (m : Memory) (w : FinSet addr_cmp) (n : Memory) (c : ℕ) (cs : List ℕ) → Ongoing m w n (c ∷ cs) → Clashes m c w ≡ false
      → outcome x reds m c ≡ outcome x reds n c
  same_here m w n c cs g f =
      depends_on_reads x reds m n c g.count
      (λ a e. g.agree a (read_off m c w (reads_apart choice.policy looks choice.line (outcome x reds m c) w f) a e) (h.unread c m a e))

  step_of : (m : Memory) (w : FinSet addr_cmp) (n : Memory) (c : ℕ) (cs : List ℕ) → Ongoing m w n (c ∷ cs) → Clashes m c w ≡ false
      → Step c n (outcome x reds m c)
  step_of m w n c cs g f = subst (λ o. Step c n o) (sym (same_here m w n c cs g f)) (step_here c n g.ready.0)

  pub record Comes (n : Memory) (p : List ℕ) (os : List Outcome) (js : List Judged) : Type 0 where
    pub told : Tells p (kept_end reds os n p) (chunks_run x (commits js) (direct x n))
    -- what was ready and was not committed is ready still
    pub ready : (d : ℕ) → Each (λ c. c ≢ d) (commits js) → Ready d n → Ready d (all_applied reds os n)

  -- a committed chunk, and then the rest
  after_direct : (c : ℕ) (n : Memory) (o : Outcome) (ds : List ℕ) → RunsAs reds n o (chunk_runs x c (direct x n))
      → Later (chunk_runs x c (direct x n)).content.printed (chunks_run x ds (chunk_runs x c (direct x n)).content)
      (chunks_run x ds (direct x (applied reds n o)))
  after_direct c n o ds r =
      let f = chunk_runs x c (direct x n) in
      chunks_later f.content.printed x ds f.content (direct x (applied reds n o)) (record {
        memory = sym r.memory;
        printed = sym (append-nil f.content.printed);
        accesses = chunk_unlogged x c (direct x n) refl;
      })

  commit_tells : (c : ℕ) (n : Memory) (p : List ℕ) (os : List Outcome) (js : List Judged) (o : Outcome) → o.ending ≡ ending.Done
      → RunsAs reds n o (chunk_runs x c (direct x n)) → Comes (applied reds n o) (p ++ o.printed) os js
      → Tells p (kept_end reds (o ∷ os) n p) (chunks_run x (c ∷ commits js) (direct x n))
  commit_tells c n p os js o ee r k =
      let f = chunk_runs x c (direct x n) in
      let l = after_direct c n o (commits js) r in
      let q = chunks_run x (commits js) (direct x (applied reds n o)) in
      subst (λ z. Tells p (kept_end reds (o ∷ os) n p) (then_by z f (chunks_run x (commits js)))) (sym ee ∙ r.ending)
      (record {
        memory = k.told.memory ∙ sym l.content.memory;
        printed = k.told.printed
            ∙ append_assoc p o.printed q.content.printed
            ∙ ap (λ z. p ++ (z ++ q.content.printed)) r.printed
            ∙ ap (λ z. p ++ z) (sym l.content.printed);
        ending = ap (last_ending os) ee ∙ k.told.ending ∙ sym l.ending;
      })

  trap_tells : (c : ℕ) (n : Memory) (p : List ℕ) (ks : List ℕ) (o : Outcome) (t : Trap) (line : ℕ) → o.ending ≡ ending.Trap t line
      → RunsAs reds n o (chunk_runs x c (direct x n))
      → Tells p (kept_end reds (o ∷ []) n p) (chunks_run x (c ∷ ks) (direct x n))
  trap_tells c n p ks o t line ee r =
      let f = chunk_runs x c (direct x n) in
      subst (λ z. Tells p (kept_end reds (o ∷ []) n p) (then_by z f (chunks_run x ks))) (sym ee ∙ r.ending)
      (record { memory = r.memory; printed = ap (λ z. p ++ z) r.printed; ending = r.ending })

  abbrev Rest : Memory → List ℕ → Type 0
  Rest m cs =
      (earlier : Judging) (n : Memory) (p : List ℕ) → earlier.trapped ≡ false → Ongoing m earlier.written n cs
      → Comes n p (kept x choice m cs earlier) (more_verdicts x choice m cs earlier)

  still : (m : Memory) (w : FinSet addr_cmp) (n : Memory) (c : ℕ) (cs : List ℕ) → Ongoing m w n (c ∷ cs) → Ongoing m w n cs
  still m w n c cs g = record { count = g.count; agree = g.agree; ready = g.ready.1; differ = g.differ.1 }

  -- after a commit
  went_on : (m : Memory) (w : FinSet addr_cmp) (n : Memory) (c : ℕ) (cs : List ℕ) (o : Outcome) → Step c n o → Ongoing m w n (c ∷ cs)
      → Ongoing m (set.union w o.touched) (applied reds n o) cs
  went_on m w n c cs o k g = record {
    count = g.count ∙ sym (applied_count reds n o);
    agree = λ a f u.
        let both = off_both w o.touched a f in
        agree_trans m n (applied reds n o) a (g.agree a both.0 u) (k.stays a both.1 u);
    ready = each_both cs (λ d e r. k.ready d e r) g.differ.0 g.ready.1;
    differ = g.differ.1;
  }

  abbrev ComesBy : Memory → ℕ → List ℕ → Judging → Memory → List ℕ → Verdict → Type 0
  ComesBy m c cs earlier n p v =
      Comes n p (cons_if (is_committed v) (outcome x reds m c) (kept x choice m cs (after_verdict v earlier (outcome x reds m c))))
      (record { chunk = c; verdict = v } ∷ more_verdicts x choice m cs (after_verdict v earlier (outcome x reds m c)))

  by_verdict : (m : Memory) (c : ℕ) (cs : List ℕ) (earlier : Judging) (n : Memory) (p : List ℕ) (stop clash : Bool) (e : Ending)
      → (outcome x reds m c).ending ≡ e → Clashes m c earlier.written ≡ clash → earlier.trapped ≡ false → Ongoing m earlier.written n (c ∷ cs) → Rest m cs
      → ComesBy m c cs earlier n p (if stop then verdict.After else if clash then verdict.Fail else commit_or_trap e)
  by_verdict m c cs earlier n p true clash e is f t g rest =
      let k = rest earlier n p t (still m earlier.written n c cs g) in
      record { told = k.told; ready = k.ready }
  by_verdict m c cs earlier n p false true e is f t g rest =
      let k = rest (record earlier { failed = true }) n p t (still m earlier.written n c cs g) in
      record { told = k.told; ready = k.ready }
  by_verdict m c cs earlier n p false false ending.Done is f t g rest =
      let o = outcome x reds m c in
      let step = step_of m earlier.written n c cs g f in
      let k = rest (with_written earlier o) (applied reds n o) (p ++ o.printed) t (went_on m earlier.written n c cs o step g) in
      let os = kept x choice m cs (with_written earlier o) in
      record {
        told = commit_tells c n p os (more_verdicts x choice m cs (with_written earlier o)) o is step.run k;
        ready = λ d e r. k.ready d e.1 (step.ready d e.0 r);
      }
  by_verdict m c cs earlier n p false false (ending.Trap u line) is f t g rest =
      let o = outcome x reds m c in
      let earlier' : Judging = record (with_written earlier o) { trapped = true } in
      let step = step_of m earlier.written n c cs g f in
      let k = stopped x choice m cs earlier' refl in
      let js = more_verdicts x choice m cs earlier' in
      let last : Comes n p (o ∷ []) (record { chunk = c; verdict = verdict.CommitTrap } ∷ js) = record {
        told = trap_tells c n p (commits js) o u line is step.run;
        ready = λ d e r. step.ready d e.0 r;
      } in
      subst (λ os. Comes n p (o ∷ os) (record { chunk = c; verdict = verdict.CommitTrap } ∷ js)) (sym k.outcomes) last

  comes : (m : Memory) (cs : List ℕ) → Rest m cs
  unfolding judged verdict_of
  comes m [] earlier n p t g = record { told = record { memory = refl; printed = sym (append-nil p); ending = refl }; ready = λ d e r. r }
  comes m (c ∷ cs) earlier n p t g =
      let o = outcome x reds m c in
      by_verdict m c cs earlier n p ((is_in_order choice.order && earlier.failed) || earlier.trapped)
      (Clashes m c earlier.written) o.ending refl refl t g (comes m cs)

  at_first : (m : Memory) (cs : List ℕ) → Each (λ c. Ready c m) cs → AreDistinct cs → Ongoing m set.empty m cs
  at_first m cs r d = record { count = refl; agree = λ a f u. agree_itself m a; ready = r; differ = d }

  -- what was told of a round, and which chunks are ready after it
  pub record RoundComes (m : Memory) (r : Round) : Type 0 where
    pub told : Tells [] (end_of_round r) (chunks_run x (commits r.verdicts) (direct x m))
    pub ready : (d : ℕ) → Each (λ c. c ≢ d) (commits r.verdicts) → Ready d m → Ready d r.memory

  pub round_comes : (m : Memory) (cs : List ℕ) → Each (λ c. Ready c m) cs → AreDistinct cs → RoundComes m (round x choice cs m)
  unfolding round verdicts
  round_comes m cs r d =
      let k = comes m cs nothing_judged m [] refl (at_first m cs r d) in
      record { told = k.told; ready = k.ready }

  pub round_is_serial : (m : Memory) (cs : List ℕ) → Each (λ c. Ready c m) cs → AreDistinct cs
      → end_of_round (round x choice cs m) ≡ end_of (serial x (commits (round x choice cs m).verdicts) m)
  unfolding serial
  round_is_serial m cs r d =
      let t = (round_comes m cs r d).told in
      λ i. record { memory = t.memory i; printed = t.printed i; ending = t.ending i }
