-- Counting in lists of numbers, and over lists of anything.
use Rattle.std.specs.Prelude.{ℕ, ◌+◌, ◌==◌, nat_lt, cond, Option, Some, None, List, [], ◌∷◌}

-- 1 where the two are equal, and else 0
unfoldable pub one : ℕ → ℕ → ℕ
one x y = cond (x == y) 1 0

-- 1 where x < n, and else 0
unfoldable pub below : ℕ → ℕ → ℕ
below x n = cond (nat_lt x n) 1 0

-- how often x stands in the list
abbrev pub times : ℕ → List ℕ → ℕ
times x [] = 0
times x (y ∷ ys) = one x y + times x ys

-- 1 where it is x, and else 0
abbrev pub holding : ℕ → Option ℕ → ℕ
holding x None = 0
holding x (Some y) = one x y

-- f of each, added up
abbrev pub total : {V : Type 0} → (V → ℕ) → List V → ℕ
total f [] = 0
total f (v ∷ vs) = f v + total f vs

-- 1 where there is one, and else 0
abbrev pub present : {A : Type 0} → Option A → ℕ
present None = 0
present (Some t) = 1
