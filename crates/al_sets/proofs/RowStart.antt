-- Rows that begin at a first offset.
use Rattle.std.proofs.Common.{◌≡◌, ℕ, zero, suc, ◌+◌, ◌-◌, ◌<◌, cond, nat_eq, List, [], ◌∷◌, ◌++◌, inl, inr, pos, refl, sym, ap, ◌∙◌, arith}
use Rattle.std.proofs.lemmas.Bool.{cases_lt, ne_eqb, eq-eqb, eqb-true}
use Rattle.al_core.specs.declared.values.Val.{Val}
use Rattle.al_core.specs.declared.values.Val.TheVariants.{Int}
use Rattle.al_sets.specs.Rows.{value_in_row, row_from}
use Rattle.al_sets.proofs.Truth.{same_truth}

-- below the first offset each value is 0
pub below_first : (f n : ℕ) (vs : List Val) → n < f → value_in_row (row_from f vs) n ≡ Int (pos 0)
below_first zero n vs h = absurd (omega arith)
below_first (suc f) zero vs h = refl
below_first (suc f) (suc n) vs h = below_first f n vs (omega arith)

-- from there on it is one of the values
pub from_first : (f k n : ℕ) (vs : List Val) → f + k ≡ n → value_in_row (row_from f vs) n ≡ value_in_row vs k
from_first zero k n vs e = ap (value_in_row vs) (omega (arith, e))
from_first (suc f) k zero vs e = absurd (omega (arith, e))
from_first (suc f) k (suc n) vs e = from_first f k n vs (omega (arith, e))

-- a value put at i is that at the offset i places after the first
pub put_from : (f i o : ℕ) (vs ws : List Val) (v : Val) → f + i ≡ o
    → ((n : ℕ) → value_in_row ws n ≡ cond (nat_eq n i) v (value_in_row vs n))
    → (n : ℕ) → value_in_row (row_from f ws) n ≡ cond (nat_eq n o) v (value_in_row (row_from f vs) n)
put_from f i o vs ws v e h n = elim (cases_lt n f) [
  | inl lt ↦ below_first f n ws lt
      ∙ sym (ap (λ b. cond b v (value_in_row (row_from f vs) n)) (ne_eqb n o (λ q. omega (arith, e)))
      ∙ below_first f n vs lt)
  | inr le ↦
      let at : f + (n - f) ≡ n = omega arith in
      let same : nat_eq (n - f) i ≡ nat_eq n o = same_truth _ _
      (λ t. let q = eqb-true (n - f) i t in eq-eqb n o (omega arith))
      (λ t. let q = eqb-true n o t in eq-eqb (n - f) i (omega arith)) in
      from_first f (n - f) n ws at
      ∙ h (n - f)
      ∙ (λ t. cond (same t) v (sym (from_first f (n - f) n vs at) t))
]

-- the same values give the same row
pub same_from : (f : ℕ) (vs ws : List Val) → ((n : ℕ) → value_in_row ws n ≡ value_in_row vs n)
    → (n : ℕ) → value_in_row (row_from f ws) n ≡ value_in_row (row_from f vs) n
same_from zero vs ws h n = h n
same_from (suc f) vs ws h zero = refl
same_from (suc f) vs ws h (suc n) = same_from f vs ws h n

-- one zero more
pub zeros_then : (f : ℕ) (vs : List Val) → row_from f [] ++ vs ≡ row_from f vs
zeros_then zero vs = refl
zeros_then (suc f) vs = ap (λ l. Int (pos 0) ∷ l) (zeros_then f vs)

pub one_zero_more : (f : ℕ) → row_from f [] ++ Int (pos 0) ∷ [] ≡ row_from (suc f) []
one_zero_more zero = refl
one_zero_more (suc f) = ap (λ l. Int (pos 0) ∷ l) (one_zero_more f)

-- a row of zeros is as an empty one
pub zeros_only : (f n : ℕ) → value_in_row (row_from f []) n ≡ value_in_row [] n
zeros_only zero n = refl
zeros_only (suc f) zero = refl
zeros_only (suc f) (suc n) = zeros_only f n
