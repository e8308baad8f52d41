-- Counts of calls and of faults, which stop at the top of 64 bits, and what may be said of a count before and after.
use Rattle.std.specs.Prelude.{ℕ, ◌+◌, ◌<◌, ◌≤◌, min, Bool, if◌then◌else◌}

-- the last value of a count: one that has reached it stays there
abbrev pub last_count : ℕ
last_count = 18446744073709551615

-- the count after k more steps
abbrev pub counted_on : ℕ → ℕ → ℕ
counted_on k n = min (n + k) last_count

-- the count after a call: one step more, where it has failed
abbrev pub counted_if : Bool → ℕ → ℕ
counted_if failed n = (if failed then counted_on 1 n else n)

-- the count has grown
abbrev pub HasRisen : ℕ → ℕ → Type 0
HasRisen old new = old < new

-- the count has grown, or it stands at its last value, where it can grow no more
abbrev pub MayHaveRisen : ℕ → ℕ → Type 0
MayHaveRisen old new = new < last_count → old < new

-- the count has not grown, and its last value is not reached, so that it would have shown a step
abbrev pub DidNotRise : ℕ → ℕ → Type 0
DidNotRise old new = (new ≤ old) × (new < last_count)

-- P holds exactly where the count rose: only where it may have risen, and wherever it has risen
pub record HoldsWhereRisen (P : Type 0) (old new : ℕ) : Type 0 where
  pub only : P → MayHaveRisen old new
  pub wherever : HasRisen old new → P

-- the count does not fall, and does not pass its last value
pub record GoesOn (old new : ℕ) : Type 0 where
  pub no_fall : old ≤ new
  pub within : new ≤ last_count
