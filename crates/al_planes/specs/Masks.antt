-- Masks: places in a list of numbers of 64 bits.
use Rattle.std.specs.Prelude.{◌≡◌, ℕ, ◌<◌, ◌/◌, ◌%◌, Bool, true, ◌==◌, List, slice_index}
use Rattle.std.specs.Int.{bit_at}

-- whether place i is set
abbrev pub bit_in : List ℕ → ℕ → Bool
bit_in m i = bit_at (slice_index m (i / 64)) (i % 64) == 1

-- a place that is set in both
pub record CommonPlace (a b : List ℕ) : Type 0 where
  pub place : ℕ
  pub below : place < 512
  pub in_a : bit_in a place ≡ true
  pub in_b : bit_in b place ≡ true

-- a place of the one and a place of the other in the same line of g
pub record CommonLine (g : ℕ) (a b : List ℕ) : Type 0 where
  pub first : ℕ
  pub second : ℕ
  pub first_below : first < 512
  pub second_below : second < 512
  pub in_a : bit_in a first ≡ true
  pub in_b : bit_in b second ≡ true
  pub same : first / g ≡ second / g
