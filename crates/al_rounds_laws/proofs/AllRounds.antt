-- An execution in rounds is a serial run of its chunks in commit order.
use Rattle.std.proofs.Common.{◌≡◌, ◌≢◌, ℕ, zero, suc, ◌<◌, List, [], ◌∷◌, ◌++◌, take, drop, true, false, refl, sym, ap, subst, ◌∙◌, arith, append_assoc, append-nil, take-append-drop}
use Rattle.std.specs.Prelude.{map, not}
use Rattle.al_core.specs.declared.choices.Choice.{Choice}
use Rattle.al_core.specs.declared.reports.Ending.{Ending}
use Rattle.al_core.specs.declared.reports.Ending.TheVariants as ending
use Rattle.al_core.specs.declared.reports.Judged.{Judged}
use Rattle.al_core.specs.Memory.{Memory}
use Rattle.al_core.specs.Iteration.{Execution, then_by}
use Rattle.al_core.specs.Chunk.{chunk_count}
use Rattle.al_core.specs.Verdicts.{nothing_judged, is_committed, cons_if}
use Rattle.al_core.specs.Round.{Round, round}
use Rattle.al_core.specs.Lockstep.{Rounds, not_committed, commits, with_round, still_pending, unless_trapped, rounds_from, up_from, all_chunks, no_rounds, lockstep, commits_of}
use Rattle.al_core.specs.Serial.{direct, chunks_run, serial}
use Rattle.al_laws.proofs.Commits.{next_round, round_verdicts, chunks_judged}
use Rattle.al_rounds_laws.specs.Loops.{LoopEnd, end_of, end_of_round, end_of_rounds, Each, Pairwise, AreDistinct, LooksAtReads}
use Rattle.al_rounds_laws.specs.Serially.{Serially}
use Rattle.al_rounds_laws.proofs.Lists.{each_map, each_both}
use Rattle.al_rounds_laws.proofs.Parts.{chunks_of_both}
use Rattle.al_rounds_laws.proofs.Later.{chunks_later}
use Rattle.al_rounds_laws.proofs.Unlogged.{chunks_unlogged}
use Rattle.al_rounds_laws.proofs.OneRound.{Tells, RoundComes, round_comes}

-- ---- lists of chunks

each_first : (P : ℕ → Type 0) (ks bs : List ℕ) → Each P (ks ++ bs) → Each P ks
each_first P [] bs h = tt
each_first P (a ∷ ks) bs h = (h.0, each_first P ks bs h.1)

pairwise_first : (R : ℕ → ℕ → Type 0) (ks bs : List ℕ) → Pairwise R (ks ++ bs) → Pairwise R ks
pairwise_first R [] bs h = tt
pairwise_first R (a ∷ ks) bs h = (each_first _ ks bs h.0, pairwise_first R ks bs h.1)

abbrev chunks_of : List Judged → List ℕ
chunks_of js = map (λ j. j.chunk) js

each_left : (P : ℕ → Type 0) (js : List Judged) (es : List ℕ) → Each P (chunks_of js ++ es) → Each P (not_committed js ++ es)
each_left P [] es h = h
each_left P (j ∷ js) es h = elim (is_committed j.verdict) as (λ b. Each P (cons_if (not b) j.chunk (not_committed js) ++ es)) [
  | true ↦ each_left P js es h.1
  | false ↦ (h.0, each_left P js es h.1)
]

each_commits : (P : ℕ → Type 0) (js : List Judged) (es : List ℕ) → Each P (chunks_of js ++ es) → Each P (commits js)
each_commits P [] es h = tt
each_commits P (j ∷ js) es h = elim (is_committed j.verdict) as (λ b. Each P (cons_if b j.chunk (commits js))) [
  | true ↦ (h.0, each_commits P js es h.1)
  | false ↦ each_commits P js es h.1
]

abbrev NotIn : List ℕ → ℕ → Type 0
NotIn cs d = Each (λ c. c ≢ d) cs

each_none : (es : List ℕ) → Each (NotIn []) es
each_none [] = tt
each_none (e ∷ es) = (tt, each_none es)

-- what stays pending was not committed
left_apart : (js : List Judged) (es : List ℕ) → AreDistinct (chunks_of js ++ es) → Each (NotIn (commits js)) (not_committed js ++ es)
left_apart [] es h = each_none es
left_apart (j ∷ js) es h =
    elim (is_committed j.verdict) as (λ b. Each (NotIn (cons_if b j.chunk (commits js))) (cons_if (not b) j.chunk (not_committed js) ++ es)) [
      | true ↦ each_both (not_committed js ++ es) (λ d p q. (p, q)) (each_left _ js es h.0) (left_apart js es h.1)
      | false ↦ (each_map (commits js) (λ c n e. n (sym e)) (each_commits _ js es h.0), left_apart js es h.1)
    ]

left_pairwise : (R : ℕ → ℕ → Type 0) (js : List Judged) (es : List ℕ) → Pairwise R (chunks_of js ++ es) → Pairwise R (not_committed js ++ es)
left_pairwise R [] es h = h
left_pairwise R (j ∷ js) es h = elim (is_committed j.verdict) as (λ b. Pairwise R (cons_if (not b) j.chunk (not_committed js) ++ es)) [
  | true ↦ left_pairwise R js es h.1
  | false ↦ (each_left _ js es h.0, left_pairwise R js es h.1)
]

commits_pairwise : (R : ℕ → ℕ → Type 0) (js : List Judged) (es : List ℕ) → Pairwise R (chunks_of js ++ es) → Pairwise R (commits js)
commits_pairwise R [] es h = tt
commits_pairwise R (j ∷ js) es h = elim (is_committed j.verdict) as (λ b. Pairwise R (cons_if b j.chunk (commits js))) [
  | true ↦ (each_commits _ js es h.0, commits_pairwise R js es h.1)
  | false ↦ commits_pairwise R js es h.1
]

-- ---- the chunks of a round

module _ (x : Execution) (choice : Choice) (m : Memory) where
  round_chunks : (cs : List ℕ) → chunks_of (round x choice cs m).verdicts ≡ cs
  round_chunks cs = ap chunks_of (round_verdicts x choice cs m) ∙ chunks_judged x choice m cs nothing_judged

  -- the pending ones, by what the round judged and what it left out
  pub split_pending : (lanes : ℕ) (pending : List ℕ) → chunks_of (round x choice (take lanes pending) m).verdicts ++ drop lanes pending ≡ pending
  split_pending lanes pending = ap (λ z. z ++ drop lanes pending) (round_chunks (take lanes pending)) ∙ take-append-drop lanes pending

  chunks_again : (cs : List ℕ) → cs ≡ chunks_of (round x choice cs m).verdicts ++ []
  chunks_again cs = sym (append-nil (chunks_of (round x choice cs m).verdicts) ∙ round_chunks cs)

  -- what holds of the chunks of a round holds of the committed ones
  pub round_each : (P : ℕ → Type 0) (cs : List ℕ) → Each P cs → Each P (commits (round x choice cs m).verdicts)
  round_each P cs h = each_commits P (round x choice cs m).verdicts [] (subst (Each P) (chunks_again cs) h)

  pub round_pairwise : (R : ℕ → ℕ → Type 0) (cs : List ℕ) → Pairwise R cs → Pairwise R (commits (round x choice cs m).verdicts)
  round_pairwise R cs h = commits_pairwise R (round x choice cs m).verdicts [] (subst (Pairwise R) (chunks_again cs) h)

  pub pending_pairwise : (R : ℕ → ℕ → Type 0) (lanes : ℕ) (pending : List ℕ) → Pairwise R pending
      → Pairwise R (commits (round x choice (take lanes pending) m).verdicts)
      × Pairwise R (still_pending lanes pending (round x choice (take lanes pending) m))
  pending_pairwise R lanes pending h =
      let js = (round x choice (take lanes pending) m).verdicts in
      let all = subst (Pairwise R) (sym (split_pending lanes pending)) h in
      (commits_pairwise R js (drop lanes pending) all, left_pairwise R js (drop lanes pending) all)

-- ---- all chunks

above : (n k l : ℕ) → k < l → Each (λ d. k < d) (up_from n l)
above zero k l h = tt
above (suc n) k l h = (h, above n k (suc l) (omega arith))

pub up_ascends : (n k : ℕ) → Pairwise (λ c d. c < d) (up_from n k)
up_ascends zero k = tt
up_ascends (suc n) k = (above n k (suc k) (omega arith), up_ascends n (suc k))

ascending_distinct : (cs : List ℕ) → Pairwise (λ c d. c < d) cs → AreDistinct cs
ascending_distinct [] h = tt
ascending_distinct (c ∷ cs) h = (each_map cs (λ d l e. absurd (omega (arith, e, l))) h.0, ascending_distinct cs h.1)

-- the chunks of an execution are distinct
pub up_distinct : (n k : ℕ) → AreDistinct (up_from n k)
up_distinct n k = ascending_distinct (up_from n k) (up_ascends n k)

-- ---- the rounds that come

abbrev pub unless_last : Ending → List (List Judged) → List (List Judged)
unless_last ending.Done rs = rs
unless_last (ending.Trap t line) rs = []

abbrev pub more_rounds : ℕ → Execution → Choice → ℕ → List ℕ → Rounds → List (List Judged)
more_rounds zero x choice lanes pending s = []
more_rounds (suc n) x choice lanes [] s = []
more_rounds (suc n) x choice lanes (c ∷ cs) s =
    let r = next_round x choice lanes (c ∷ cs) s in
    r.verdicts ∷ unless_last r.ending (more_rounds n x choice lanes (still_pending lanes (c ∷ cs) r) (with_round r s))

pub all_rounds : (n : ℕ) (x : Execution) (choice : Choice) (lanes : ℕ) (pending : List ℕ) (s : Rounds)
    → (rounds_from n x choice lanes pending s).rounds ≡ s.rounds ++ more_rounds n x choice lanes pending s
all_rounds zero x choice lanes pending s = sym (append-nil s.rounds)
all_rounds (suc n) x choice lanes [] s = sym (append-nil s.rounds)
all_rounds (suc n) x choice lanes (c ∷ cs) s =
    let r = next_round x choice lanes (c ∷ cs) s in
    let next = still_pending lanes (c ∷ cs) r in
    elim r.ending as
    (λ e. (unless_trapped e (with_round r s) (rounds_from n x choice lanes next (with_round r s))).rounds
    ≡ s.rounds ++ (r.verdicts ∷ unless_last e (more_rounds n x choice lanes next (with_round r s)))) [
      | ending.Done ↦ all_rounds n x choice lanes next (with_round r s)
          ∙ append_assoc s.rounds (r.verdicts ∷ []) (more_rounds n x choice lanes next (with_round r s))
      | ending.Trap t line ↦ refl
    ]

module _ (x : Execution) (choice : Choice) (Ready : ℕ → Memory → Type 0) (h : Serially x choice.reds Ready) (looks : LooksAtReads choice.policy)
    (lanes : ℕ) where
  record AllReady (m : Memory) (pending : List ℕ) : Type 0 where
    pub ready : Each (λ c. Ready c m) pending
    pub differ : AreDistinct pending

  one_round : (m : Memory) (pending : List ℕ) → AllReady m pending → RoundComes x choice Ready h looks m (round x choice (take lanes pending) m)
  one_round m pending g =
      let split = sym (take-append-drop lanes pending) in
      round_comes x choice Ready h looks m (take lanes pending)
      (each_first (λ c. Ready c m) (take lanes pending) (drop lanes pending) (subst (λ z. Each (λ c. Ready c m) z) split g.ready))
      (pairwise_first _ (take lanes pending) (drop lanes pending) (subst AreDistinct split g.differ))

  left_ready : (m : Memory) (pending : List ℕ) → AllReady m pending
      → AllReady (round x choice (take lanes pending) m).memory (still_pending lanes pending (round x choice (take lanes pending) m))
  left_ready m pending g =
      let js = (round x choice (take lanes pending) m).verdicts in
      let es = drop lanes pending in
      let differ = subst AreDistinct (sym (split_pending x choice m lanes pending)) g.differ in
      let ready = subst (λ z. Each (λ c. Ready c m) z) (sym (split_pending x choice m lanes pending)) g.ready in
      record {
        ready = each_both (not_committed js ++ es) (λ d n k. (one_round m pending g).ready d n k) (left_apart js es differ)
            (each_left (λ c. Ready c m) js es ready);
        differ = left_pairwise _ js es differ;
      }

  -- a round, and then the rest
  round_then : (s : Rounds) (r : Round) (e : LoopEnd) (cs ds : List ℕ) → Tells [] (end_of_round r) (chunks_run x cs (direct x s.memory))
      → r.ending ≡ ending.Done → Tells (with_round r s).printed e (chunks_run x ds (direct x r.memory))
      → Tells s.printed e (chunks_run x (cs ++ ds) (direct x s.memory))
  round_then s r e cs ds t done k =
      let f = chunks_run x cs (direct x s.memory) in
      let q = chunks_run x ds (direct x r.memory) in
      let l = chunks_later f.content.printed x ds f.content (direct x r.memory) (record {
        memory = sym t.memory;
        printed = sym (append-nil f.content.printed);
        accesses = chunks_unlogged x cs (direct x s.memory) refl;
      }) in
      subst (λ z. Tells s.printed e z) (sym (chunks_of_both x cs ds (direct x s.memory)))
      (subst (λ z. Tells s.printed e (then_by z f (chunks_run x ds))) (sym done ∙ t.ending)
      (record {
        memory = k.memory ∙ sym l.content.memory;
        printed = k.printed
            ∙ append_assoc s.printed r.printed q.content.printed
            ∙ ap (λ z. s.printed ++ (z ++ q.content.printed)) t.printed
            ∙ ap (λ z. s.printed ++ z) (sym l.content.printed);
        ending = k.ending ∙ sym l.ending;
      }))

  last_round : (s : Rounds) (r : Round) (cs : List ℕ) → Tells [] (end_of_round r) (chunks_run x cs (direct x s.memory))
      → Tells s.printed (end_of_rounds (with_round r s)) (chunks_run x (cs ++ []) (direct x s.memory))
  last_round s r cs t =
      subst (λ z. Tells s.printed (end_of_rounds (with_round r s)) (chunks_run x z (direct x s.memory))) (sym (append-nil cs))
      (record { memory = t.memory; printed = ap (λ z. s.printed ++ z) t.printed; ending = t.ending })

  rounds_tell : (n : ℕ) (pending : List ℕ) (s : Rounds) → s.ending ≡ ending.Done → AllReady s.memory pending
      → Tells s.printed (end_of_rounds (rounds_from n x choice lanes pending s))
      (chunks_run x (commits_of (more_rounds n x choice lanes pending s)) (direct x s.memory))
  rounds_tell zero pending s e g = record { memory = refl; printed = sym (append-nil s.printed); ending = e }
  rounds_tell (suc n) [] s e g = record { memory = refl; printed = sym (append-nil s.printed); ending = e }
  rounds_tell (suc n) (c ∷ cs) s e g =
      let r = next_round x choice lanes (c ∷ cs) s in
      let k = one_round s.memory (c ∷ cs) g in
      let next = still_pending lanes (c ∷ cs) r in
      let more = rounds_from n x choice lanes next (with_round r s) in
      let rest = more_rounds n x choice lanes next (with_round r s) in
      elim r.ending as
      (λ e. r.ending ≡ e → Tells s.printed (end_of_rounds (unless_trapped e (with_round r s) more))
      (chunks_run x (commits_of (r.verdicts ∷ unless_last e rest)) (direct x s.memory))) [
        | ending.Done ↦ λ t.
            round_then s r (end_of_rounds more) (commits r.verdicts) (commits_of rest) k.told t
            (rounds_tell n next (with_round r s) t (left_ready s.memory (c ∷ cs) g))
        | ending.Trap u line ↦ λ t. last_round s r (commits r.verdicts) k.told
      ] refl

  pub lockstep_is_serial : (m : Memory) → Each (λ c. Ready c m) (all_chunks x)
      → end_of_rounds (lockstep x choice lanes m) ≡ end_of (serial x (commits_of (lockstep x choice lanes m).rounds) m)
  unfolding lockstep serial
  lockstep_is_serial m r =
      let n = chunk_count x in
      let end = end_of_rounds (rounds_from n x choice lanes (all_chunks x) (no_rounds m)) in
      let t = subst (λ rs. Tells [] end (chunks_run x (commits_of rs) (direct x m))) (sym (all_rounds n x choice lanes (all_chunks x) (no_rounds m)))
      (rounds_tell n (all_chunks x) (no_rounds m) refl (record { ready = r; differ = up_distinct n 0 })) in
      λ i. record { memory = t.memory i; printed = t.printed i; ending = t.ending i }
