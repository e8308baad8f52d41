-- In order the committed chunks are a prefix, and an execution in rounds is the plain one.
use Rattle.std.proofs.Common.{◌≡◌, ℕ, zero, suc, ◌≤◌, ◌<◌, List, [], ◌∷◌, ◌++◌, length, take, drop, Bool, true, false, ◌||◌, ◌&&◌, refl, sym, ap, subst, ◌∙◌, arith, append_assoc, append-nil, take-append-drop}
use Rattle.std.specs.Prelude.{if◌then◌else◌}
use Rattle.al_core.specs.declared.choices.Choice.{Choice}
use Rattle.al_core.specs.declared.reports.Ending.{Ending}
use Rattle.al_core.specs.declared.reports.Ending.TheVariants as ending
use Rattle.al_core.specs.declared.reports.Verdict.{Verdict}
use Rattle.al_core.specs.declared.reports.Verdict.TheVariants as verdict
use Rattle.al_core.specs.declared.reports.Judged.{Judged}
use Rattle.al_core.specs.declared.values.Trap.{Trap}
use Rattle.al_core.specs.Memory.{Memory}
use Rattle.al_core.specs.Access.{Content}
use Rattle.al_core.specs.Iteration.{Execution, Finished, then_by}
use Rattle.al_core.specs.Chunk.{outcome, chunk_count}
use Rattle.al_core.specs.Clash.{clashes}
use Rattle.al_core.specs.Verdicts.{Judging, nothing_judged, is_in_order, commit_or_trap, verdict_of, after_verdict, judged}
use Rattle.al_core.specs.Round.{round}
use Rattle.al_core.specs.Lockstep.{Rounds, not_committed, commits, with_round, still_pending, unless_trapped, rounds_from, all_chunks, no_rounds, lockstep, commits_of}
use Rattle.al_core.specs.Serial.{direct, chunks_run, serial, plain_loop}
use Rattle.al_laws.proofs.Commits.{more_verdicts, round_verdicts, next_round, pending_falls, up_length}
use Rattle.al_rounds_laws.specs.Loops.{end_of, end_of_rounds, Each, LooksAtReads}
use Rattle.al_rounds_laws.specs.Serially.{Serially}
use Rattle.al_rounds_laws.specs.InOrder.{IsPrefix}
use Rattle.al_rounds_laws.proofs.Parts.{chunks_of_both}
use Rattle.al_rounds_laws.proofs.AllRounds.{unless_last, more_rounds, all_rounds, lockstep_is_serial}
use Rattle.al_rounds_laws.proofs.Plain.{plain_is_serial}

module _ (x : Execution) (choice : Choice) (ordered : is_in_order choice.order ≡ true) where
  abbrev stops : Judging → Bool
  stops s = (is_in_order choice.order && s.failed) || s.trapped

  -- what is judged once a chunk failed or a trap was committed
  record Idle (cs : List ℕ) (js : List Judged) : Type 0 where
    pub none : commits js ≡ []
    pub all : not_committed js ≡ cs

  stop_verdict : (m : Memory) (c : ℕ) (s : Judging) → stops s ≡ true → verdict_of choice s (outcome x choice.reds m c) ≡ verdict.After
  unfolding verdict_of
  stop_verdict m c s t =
      let o = outcome x choice.reds m c in
      ap (λ b. if b then verdict.After else if clashes choice.policy choice.line o s.written then verdict.Fail else commit_or_trap o.ending) t

  idle : (m : Memory) (cs : List ℕ) (s : Judging) → stops s ≡ true → Idle cs (more_verdicts x choice m cs s)
  unfolding judged
  idle m [] s t = record { none = refl; all = refl }
  idle m (c ∷ cs) s t =
      let o = outcome x choice.reds m c in
      subst (λ v. Idle (c ∷ cs) (record { chunk = c; verdict = v } ∷ more_verdicts x choice m cs (after_verdict v s o))) (sym (stop_verdict m c s t))
      (let k = idle m cs s t in record { none = k.none; all = ap (λ l. c ∷ l) k.all })

  abbrev Split : List ℕ → List Judged → Type 0
  Split cs js = cs ≡ commits js ++ not_committed js

  or_first : (b c : Bool) → b ≡ true → (b || c) ≡ true
  or_first b c e = ap (λ z. z || c) e

  abbrev SplitBy : Memory → ℕ → List ℕ → Judging → Verdict → Type 0
  SplitBy m c cs s v = Split (c ∷ cs) (record { chunk = c; verdict = v } ∷ more_verdicts x choice m cs (after_verdict v s (outcome x choice.reds m c)))

  -- nothing after this one is committed
  idle_after : (c : ℕ) (cs : List ℕ) (js : List Judged) → Idle cs js → c ∷ cs ≡ commits js ++ (c ∷ not_committed js)
  idle_after c cs js k = ap (λ l. c ∷ l) (sym k.all) ∙ ap (λ l. l ++ (c ∷ not_committed js)) (sym k.none)

  by_verdict : (m : Memory) (c : ℕ) (cs : List ℕ) (s : Judging) (stop clash : Bool) (e : Ending) → stops s ≡ stop
      → ((s : Judging) → Split cs (more_verdicts x choice m cs s))
      → SplitBy m c cs s (if stop then verdict.After else if clash then verdict.Fail else commit_or_trap e)
  by_verdict m c cs s true clash e t rest = idle_after c cs (more_verdicts x choice m cs s) (idle m cs s t)
  by_verdict m c cs s false true e t rest =
      let failed : Judging = record s { failed = true } in
      idle_after c cs (more_verdicts x choice m cs failed)
      (idle m cs failed (or_first (is_in_order choice.order && true) s.trapped (ap (λ b. b && true) ordered)))
  by_verdict m c cs s false false ending.Done t rest = ap (λ l. c ∷ l) (rest _)
  by_verdict m c cs s false false (ending.Trap u line) t rest = ap (λ l. c ∷ l) (rest _)

  in_order : (m : Memory) (cs : List ℕ) (s : Judging) → Split cs (more_verdicts x choice m cs s)
  unfolding judged verdict_of
  in_order m [] s = refl
  in_order m (c ∷ cs) s =
      let o = outcome x choice.reds m c in
      by_verdict m c cs s (stops s) (clashes choice.policy choice.line o s.written) o.ending refl (in_order m cs)

  -- the committed chunks of a round are a prefix of its chunks
  pub round_in_order : (m : Memory) (cs : List ℕ) → Split cs (round x choice cs m).verdicts
  round_in_order m cs = in_order m cs nothing_judged ∙ ap (λ js. commits js ++ not_committed js) (sym (round_verdicts x choice cs m))

  pending_in_order : (lanes : ℕ) (s : Rounds) (pending : List ℕ)
      → pending ≡ commits (next_round x choice lanes pending s).verdicts ++ still_pending lanes pending (next_round x choice lanes pending s)
  pending_in_order lanes s pending =
      let js = (next_round x choice lanes pending s).verdicts in
      sym (take-append-drop lanes pending) ∙ ap (λ l. l ++ drop lanes pending) (round_in_order s.memory (take lanes pending))
      ∙ append_assoc (commits js) (not_committed js) (drop lanes pending)

  module _ (lanes : ℕ) (some : 0 < lanes) where
    no_trap : (t : Trap) (line : ℕ) (P : Type 0) → ending.Trap t line ≡ ending.Done → P
    no_trap t line P e = absurd (subst (λ (e : Ending). elim e as (λ _. Type 0) [ ending.Done ↦ ⊥ | ending.Trap t line ↦ Unit {0} ]) e tt)

    rounds_in_order : (n : ℕ) (pending : List ℕ) (s : Rounds) → length pending ≤ n
        → IsPrefix pending (commits_of (more_rounds n x choice lanes pending s)) (rounds_from n x choice lanes pending s).ending
    rounds_in_order zero [] s l = record { left = []; split = refl; all_done = λ e. refl }
    rounds_in_order zero (c ∷ cs) s l = absurd (omega arith)
    rounds_in_order (suc n) [] s l = record { left = []; split = refl; all_done = λ e. refl }
    rounds_in_order (suc n) (c ∷ cs) s l =
        let r = next_round x choice lanes (c ∷ cs) s in
        let next = still_pending lanes (c ∷ cs) r in
        let more = more_rounds n x choice lanes next (with_round r s) in
        elim r.ending as
        (λ e. r.ending ≡ e → IsPrefix (c ∷ cs) (commits_of (r.verdicts ∷ unless_last e more))
        (unless_trapped e (with_round r s) (rounds_from n x choice lanes next (with_round r s))).ending) [
          | ending.Trap u line ↦ λ t. record {
            left = next;
            split = pending_in_order lanes s (c ∷ cs) ∙ ap (λ l. l ++ next) (sym (append-nil (commits r.verdicts)));
            all_done = λ e. no_trap u line (next ≡ []) (sym t ∙ e);
          }
          | ending.Done ↦ λ t.
              let k = rounds_in_order n next (with_round r s) (omega (arith, pending_falls x choice lanes c cs s some)) in
              record {
                left = k.left;
                split = pending_in_order lanes s (c ∷ cs) ∙ ap (λ l. commits r.verdicts ++ l) k.split
                    ∙ sym (append_assoc (commits r.verdicts) (commits_of more) k.left);
                all_done = k.all_done;
              }
        ] refl

    pub lockstep_in_order : (m : Memory) → IsPrefix (all_chunks x) (commits_of (lockstep x choice lanes m).rounds) (lockstep x choice lanes m).ending
    unfolding lockstep
    lockstep_in_order m =
        let n = chunk_count x in
        let k = rounds_in_order n (all_chunks x) (no_rounds m) (omega (arith, up_length n 0)) in
        record {
          left = k.left;
          split = k.split ∙ ap (λ rs. commits_of rs ++ k.left) (sym (all_rounds n x choice lanes (all_chunks x) (no_rounds m)));
          all_done = k.all_done;
        }

-- ---- a run that goes through a prefix and needs no more

then_nothing : (x : Execution) (f : Finished) (left : List ℕ) (e : Ending) → f.ending ≡ e → (f.ending ≡ ending.Done → left ≡ [])
    → end_of (then_by e f (chunks_run x left)) ≡ end_of f
then_nothing x f left ending.Done h k =
    ap (λ l. end_of (then_by ending.Done f (chunks_run x l))) (k h)
    ∙ (λ i. record { memory = f.content.memory; printed = f.content.printed; ending = sym h i })
then_nothing x f left (ending.Trap t line) h k = refl

pub prefix_enough : (x : Execution) (all ks left : List ℕ) (c : Content) → all ≡ ks ++ left → ((chunks_run x ks c).ending ≡ ending.Done → left ≡ [])
    → end_of (chunks_run x all c) ≡ end_of (chunks_run x ks c)
prefix_enough x all ks left c e k =
    ap end_of (ap (λ l. chunks_run x l c) e ∙ chunks_of_both x ks left c)
    ∙ then_nothing x (chunks_run x ks c) left (chunks_run x ks c).ending refl k

-- ---- the plain run

module _ (x : Execution) (choice : Choice) (Ready : ℕ → Memory → Type 0) (h : Serially x choice.reds Ready) (looks : LooksAtReads choice.policy)
    (ordered : is_in_order choice.order ≡ true) (lanes : ℕ) (some : 0 < lanes) where
  pub lockstep_is_plain : (m : Memory) → 0 < x.factor → Each (λ c. Ready c m) (all_chunks x)
      → end_of_rounds (lockstep x choice lanes m) ≡ end_of (plain_loop x m)
  unfolding serial
  lockstep_is_plain m p r =
      let t = lockstep_is_serial x choice Ready h looks lanes m r in
      let k = lockstep_in_order x choice ordered lanes some m in
      let ks = commits_of (lockstep x choice lanes m).rounds in
      t
      ∙ sym (prefix_enough x (all_chunks x) ks k.left (direct x m) k.split (λ e. k.all_done (ap (λ z. z.ending) t ∙ e)))
      ∙ ap end_of (plain_is_serial x m p)
