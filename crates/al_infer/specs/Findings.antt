-- What tests show of the candidates for an annotation.
use Rattle.std.specs.Prelude.{⊤, ◌^◌, ◌≡◌, ℕ, zero, suc, ◌+◌, ◌*◌, ◌≤◌, nat_lt, ◌&&◌, not, Bool, if◌then◌else◌, Option, Some, None, List, [], ◌∷◌, map}
use Rattle.std.specs.List.{range_with_len}
use Rattle.std.specs.Str.{bytes_eq}
use Rattle.al_infer.specs.declared.outcomes.Outcome.{Outcome}
use Rattle.al_infer.specs.declared.tables.Why.{Why}
use Rattle.al_infer.specs.declared.tables.Why.TheVariants.{Output, Conflicts, Steps}
use Rattle.al_infer.specs.declared.tables.Found.{Found}
use Rattle.al_infer.specs.declared.tables.Found.TheVariants.{Accepted, Refused}
use Rattle.al_infer.specs.declared.tables.Table.{Table}
use Rattle.al_infer.specs.Endings.{is_same_ending}

-- the same bytes are printed, and the runs end alike
abbrev pub is_same_run : Outcome → Outcome → Bool
is_same_run plain tried = bytes_eq plain.output tried.output && is_same_ending plain.ending tried.ending

-- why a test refuses a candidate that ran so, beside the plain run, or nothing
abbrev pub reason : (plain tried : Outcome) → Option Why
reason plain tried =
    if not (is_same_run plain tried) then Some Output
    else if nat_lt tried.attempts (2 * tried.aborted) then Some Conflicts
    else if nat_lt (10 * plain.span) tried.span then Some Steps
    else None

-- a test refuses where no earlier one did
abbrev pub or_here : ℕ → Option (ℕ × Why) → Option Why → Option (ℕ × Why)
or_here t (Some before) here = Some before
or_here t None (Some why) = Some (t, why)
or_here t None None = None

-- the first refusal, or else the sum of spans
abbrev pub refused_or : Option (ℕ × Why) → ℕ → Found
refused_or (Some refusal) sum = Refused refusal.0 refusal.1
refused_or None sum = Accepted sum

-- what is told: the outcome of a candidate, or of the plain run, at a test
module _ (told : Option ℕ → ℕ → Outcome) where
  -- why a test refuses a candidate, or nothing
  abbrev pub reason_at : (candidate test : ℕ) → Option Why
  reason_at k t = reason (told None t) (told (Some k) t)

  -- the first of so many tests that refuses a candidate, and why
  abbrev pub first_refusal : (candidate tests : ℕ) → Option (ℕ × Why)
  first_refusal k zero = None
  first_refusal k (suc t) = or_here t (first_refusal k t) (reason_at k t)

  -- the sum of a candidate's spans
  abbrev pub span_sum : (candidate tests : ℕ) → ℕ
  span_sum k zero = 0
  span_sum k (suc t) = span_sum k t + (told (Some k) t).span

  -- refused at the first test that refuses it, or else accepted
  abbrev pub finding : (candidate tests : ℕ) → Found
  finding k t = refused_or (first_refusal k t) (span_sum k t)

  -- what so many tests show of so many candidates
  abbrev pub findings : (candidates tests : ℕ) → List Found
  findings n t = map (λ k. finding k t) (range_with_len 0 n)

-- the accepted candidate of least sum and its sum, of equal ones the earliest; the rows are those from a number on
abbrev pub earlier : ℕ → Found → Option (ℕ × ℕ) → Option (ℕ × ℕ)
earlier k (Refused test why) later = later
earlier k (Accepted sum) None = Some (k, sum)
earlier k (Accepted sum) (Some best) = if nat_lt best.1 sum then Some best else Some (k, sum)

abbrev pub best_from : ℕ → List Found → Option (ℕ × ℕ)
best_from k [] = None
best_from k (row ∷ rows) = earlier k row (best_from (k + 1) rows)

abbrev pub number_of : Option (ℕ × ℕ) → Option ℕ
number_of (Some best) = Some best.0
number_of None = None

abbrev pub best_of : List Found → Option ℕ
best_of rows = number_of (best_from 0 rows)

abbrev pub tabled : List Found → Table
tabled rows = record { rows = rows; best = best_of rows }

-- the table of so many candidates and tests
abbrev pub table : (Option ℕ → ℕ → Outcome) → (candidates tests : ℕ) → Table
table told candidates tests = tabled (findings told candidates tests)

-- a finding after so many tests, whose sum is that of so many spans
abbrev pub IsSmall : ℕ → Found → Type 0
IsSmall t (Accepted sum) = sum ≤ t * 2 ^ 100
IsSmall t (Refused test why) = ⊤

pub record IsFinding (told : Option ℕ → ℕ → Outcome) (t k : ℕ) (f : Found) : Type 0 where
  pub found : f ≡ finding told k t
  pub small : IsSmall t f
