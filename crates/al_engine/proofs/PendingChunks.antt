-- Lists of pending chunks.
use Rattle.std.proofs.Common.{◌≡◌, ℕ, zero, suc, ◌+◌, ◌<◌, ◌≤◌, Bool, true, false, List, [], ◌∷◌, ◌++◌, length, take, drop, refl, sym, ap, ◌∙◌, arith}
use Rattle.std.specs.Prelude.{not, min, All}
use Rattle.std.specs.List.{AllByRecursion}
use Rattle.std.proofs.lemmas.List.{drop_min, length-take}
use Rattle.std.proofs.lemmas.List.Elements.{All-from_recursion}
use Rattle.al_source.specs.declared.limits.TheConstants.{MOST_LANES}
use Rattle.al_core.specs.declared.reports.Verdict.{Verdict}
use Rattle.al_core.specs.declared.choices.Choice.{Choice}
use Rattle.al_core.specs.Iteration.{Execution}
use Rattle.al_core.specs.Memory.{Memory}
use Rattle.al_core.specs.Lockstep.{Rounds, with_round, up_from, not_committed}
use Rattle.al_core.specs.Round.{with_chunks, round}
use Rattle.al_core.specs.Verdicts.{is_committed, cons_if}
use Rattle.al_round.specs.declared.report.RoundReport.{RoundReport}
use Rattle.al_round.specs.Rounds.{IsRound}
use Rattle.al_engine.specs.Pending.{ArePending, GoesOn, report_of}

-- ---- all chunks

pub length-up_from : (n c : ℕ) → length (up_from n c) ≡ n
length-up_from zero c = refl
length-up_from (suc n) c = ap (λ (k : ℕ). suc k) (length-up_from n (suc c))

within : (n c top : ℕ) → c + n ≤ top → AllByRecursion (λ d. d < top) (up_from n c)
within zero c top h = tt
within (suc n) c top h = (omega arith, within n (suc c) top (omega arith))

pub all_pending : (n : ℕ) → ArePending n (up_from n 0)
all_pending n = within n 0 n (omega arith)

-- ---- the first of them

taken : (P : ℕ → Type 0) (n : ℕ) (cs : List ℕ) → AllByRecursion P cs → AllByRecursion P (take n cs)
taken P zero cs h = tt
taken P (suc n) [] h = tt
taken P (suc n) (c ∷ cs) h = (h.0, taken P n cs h.1)

pub first_there : (count n : ℕ) (cs : List ℕ) → ArePending count cs → All (λ c. c < count) (take n cs)
first_there count n cs h = All-from_recursion (λ c. c < count) (take n cs) (taken (λ c. c < count) n cs h)

pub first_some : (n : ℕ) (cs : List ℕ) → 1 ≤ length cs → 1 ≤ n → n ≤ MOST_LANES → (1 ≤ length (take n cs)) × (length (take n cs) ≤ 64)
first_some n cs some one few = (omega (arith, length-take n cs), omega (arith, length-take n cs))

-- ---- those that stay

-- after verdicts of the first ones
abbrev pub stay : List ℕ → List Verdict → List ℕ
stay cs vs = not_committed (with_chunks cs vs) ++ drop (length vs) cs

kept_if : (P : ℕ → Type 0) (b : Bool) (c : ℕ) (rest more : List ℕ) → P c → AllByRecursion P (rest ++ more) → AllByRecursion P (cons_if b c rest ++ more)
kept_if P true c rest more h k = (h, k)
kept_if P false c rest more h k = k

all_stay : (P : ℕ → Type 0) (cs : List ℕ) (vs : List Verdict) → AllByRecursion P cs → AllByRecursion P (stay cs vs)
all_stay P [] [] h = tt
all_stay P [] (v ∷ vs) h = tt
all_stay P (c ∷ cs) [] h = h
all_stay P (c ∷ cs) (v ∷ vs) h =
    kept_if P (not (is_committed v)) c (not_committed (with_chunks cs vs)) (drop (length vs) cs) h.0 (all_stay P cs vs h.1)

pub stay_pending : (count : ℕ) (cs : List ℕ) (vs : List Verdict) → ArePending count cs → ArePending count (stay cs vs)
stay_pending count cs vs h = all_stay (λ c. c < count) cs vs h

front : (n : ℕ) (cs : List ℕ) (vs : List Verdict) → length vs ≤ n → with_chunks cs vs ≡ with_chunks (take n cs) vs
front zero [] vs h = refl
front zero (c ∷ cs) [] h = refl
front zero (c ∷ cs) (v ∷ vs) h = absurd (omega arith)
front (suc n) [] vs h = refl
front (suc n) (c ∷ cs) [] h = refl
front (suc n) (c ∷ cs) (v ∷ vs) h = ap (λ js. record { chunk = c; verdict = v } ∷ js) (front n cs vs (omega arith))

-- verdicts of the first n chunks, or of all where there are fewer
pub stay_after : (n : ℕ) (cs : List ℕ) (vs : List Verdict) → length vs ≡ min n (length cs)
    → stay cs vs ≡ not_committed (with_chunks (take n cs) vs) ++ drop n cs
stay_after n cs vs h =
    ap (λ js. not_committed js ++ drop (length vs) cs) (front n cs vs (omega arith))
    ∙ ap (λ l. not_committed (with_chunks (take n cs) vs) ++ l) (ap (λ k. drop k cs) h ∙ drop_min n cs)

-- ---- a round

-- the round left what the report tells
pub round_is : (x : Execution) (choice : Choice) (chunks : List ℕ) (m n : Memory) (r : RoundReport) → IsRound x choice chunks m n r
    → report_of chunks n r ≡ round x choice chunks m
round_is x choice chunks m n r h = λ t. record {
  verdicts = h.verdicts t;
  memory = h.memory t;
  printed = h.printed t;
  ending = h.ending t;
  longest = h.longest t;
}

-- and its chunks are judged
pub goes_on : (x : Execution) (choice : Choice) (lanes : ℕ) (pending chunks : List ℕ) (m n : Memory) (r : RoundReport) (so_far new : Rounds) (left : List ℕ)
    → chunks ≡ take lanes pending → length r.verdicts ≡ length chunks → IsRound x choice chunks m n r
    → new ≡ with_round (report_of chunks n r) so_far → left ≡ stay pending r.verdicts
    → GoesOn lanes pending (round x choice (take lanes pending) m) so_far new left
goes_on x choice lanes pending chunks m n r so_far new left ec el h en es = record {
  comes = en ∙ ap (λ r. with_round r so_far) (round_is x choice chunks m n r h) ∙ ap (λ cs. with_round (round x choice cs m) so_far) ec;
  stay = es
      ∙ stay_after lanes pending r.verdicts (el ∙ ap length ec ∙ length-take lanes pending)
      ∙ ap (λ js. not_committed js ++ drop lanes pending)
      (ap (λ cs. with_chunks cs r.verdicts) (sym ec) ∙ h.verdicts ∙ ap (λ cs. (round x choice cs m).verdicts) ec);
}
