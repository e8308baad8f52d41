-- What a table says of its candidates.
use Rattle.std.specs.Prelude.{◌≡◌, ◌≢◌, ℕ, ◌*◌, ◌<◌, ◌≤◌, Option, Some, None, List, slice_get}
use Rattle.al_infer.specs.declared.outcomes.Outcome.{Outcome}
use Rattle.al_infer.specs.declared.tables.Why.{Why}
use Rattle.al_infer.specs.declared.tables.Found.{Found}
use Rattle.al_infer.specs.declared.tables.Found.TheVariants.{Accepted, Refused}
use Rattle.al_infer.specs.Findings.{finding, reason_at, best_of}

-- the run of a candidate at a test prints and ends as the plain one, at least half of its runs of chunks were kept, and
-- its span is at most ten times the plain one
pub record IsFaithful (plain tried : Outcome) : Type 0 where
  pub output : tried.output ≡ plain.output
  pub ending : tried.ending ≡ plain.ending
  pub kept : 2 * tried.aborted ≤ tried.attempts
  pub span : tried.span ≤ 10 * plain.span

-- so it is at each test, where a candidate is accepted
abbrev pub AcceptedIsFaithful : Type 0
AcceptedIsFaithful =
    (told : Option ℕ → ℕ → Outcome) (k tests sum : ℕ) → finding told k tests ≡ Accepted sum
    → (t : ℕ) → t < tests → IsFaithful (told None t) (told (Some k) t)

-- where a candidate is refused, it is so at that test, and at no earlier one
abbrev pub RefusedAtFirst : Type 0
RefusedAtFirst =
    (told : Option ℕ → ℕ → Outcome) (k tests u : ℕ) (why : Why) → finding told k tests ≡ Refused u why
    → (u < tests) × (reason_at told k u ≡ Some why) × ((t : ℕ) → t < u → reason_at told k t ≡ None)

-- The best is accepted; no accepted one has a lesser sum, and no earlier one as little. Where there is none, none is
-- accepted.
pub record IsLeast (rows : List Found) (k : ℕ) : Type 0 where
  pub sum : ℕ
  pub accepted : slice_get rows k ≡ Some (Accepted sum)
  pub least : (j other : ℕ) → slice_get rows j ≡ Some (Accepted other) → sum ≤ other
  pub earliest : (j other : ℕ) → slice_get rows j ≡ Some (Accepted other) → j < k → sum < other

abbrev pub BestIsLeast : Type 0
BestIsLeast = (rows : List Found) (k : ℕ) → best_of rows ≡ Some k → IsLeast rows k

abbrev pub NoneIsAccepted : Type 0
NoneIsAccepted = (rows : List Found) → best_of rows ≡ None → (k sum : ℕ) → slice_get rows k ≢ Some (Accepted sum)
