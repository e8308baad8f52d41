-- Lemmas on counting.
use Rattle.std.proofs.Common.{◌≡◌, ℕ, zero, suc, ◌+◌, ◌*◌, ◌<◌, ◌≤◌, ◌≢◌, ◌==◌, ◌⊎◌, inl, inr, ⊎_elim, cond, Option, Some, None, List, [], ◌∷◌, ◌++◌, length, set, refl, sym, ap, ◌∙◌, subst, arith}
use Rattle.std.proofs.lemmas.Bool.Decides.{nat_tests}
use mathlib.Core.Option.{some, some-injective, some-ne-none}
use native.Mathlib.Decide.{ℕ_discrete}
use lib.ListN.{get_elem?}
use Rattle.al_count.specs.Counts.{one, below, times, total, holding, present}

pub one_same : (x : ℕ) → one x x ≡ 1
unfolding one
one_same x = grind (arith, nat_tests)

pub one_eq : (x y : ℕ) → x ≡ y → one x y ≡ 1
one_eq x y e = subst (λ (z : ℕ). one x z ≡ 1) e (one_same x)

pub one_other : (x y : ℕ) → x ≢ y → one x y ≡ 0
unfolding one
one_other x y n = grind (arith, nat_tests)

pub one_le : (x y : ℕ) → one x y ≤ 1
unfolding one
one_le x y = grind (arith, nat_tests)

pub below_yes : (x n : ℕ) → x < n → below x n ≡ 1
unfolding below
below_yes x n h = grind (arith, nat_tests)

pub below_no : (x n : ℕ) → n ≤ x → below x n ≡ 0
unfolding below
below_no x n h = grind (arith, nat_tests)

pub below_le : (x n : ℕ) → below x n ≤ 1
unfolding below
below_le x n = grind (arith, nat_tests)

pub below_true : (x n : ℕ) → 1 ≤ below x n → x < n
unfolding below
below_true x n h = grind (arith, nat_tests)

-- one number more
pub below_next : (x n : ℕ) → below x (n + 1) ≡ below x n + one x n
unfolding below one
below_next x n = grind (arith, nat_tests)

pub below_mono : (x m n : ℕ) → m ≤ n → below x m ≤ below x n
unfolding below
below_mono x m n h = grind (arith, nat_tests)

pub times_append : (x : ℕ) (ys zs : List ℕ) → times x (ys ++ zs) ≡ times x ys + times x zs
times_append x [] zs = omega arith
times_append x (y ∷ ys) zs = let ih = times_append x ys zs in omega arith

pub times_snoc : (x y : ℕ) (ys : List ℕ) → times x (ys ++ y ∷ []) ≡ times x ys + one x y
times_snoc x y ys = let e = times_append x ys (y ∷ []) in omega arith

module _ {V : Type 0} (f : V → ℕ) where
  pub total_set : (vs : List V) (i : ℕ) (v w : V) → get_elem? vs i ≡ some v → total f (set vs i w) + f v ≡ total f vs + f w
  total_set [] i v w e = absurd (some-ne-none v (sym e))
  total_set (x ∷ xs) zero v w e = let same : f x ≡ f v = ap f (some-injective x v e) in omega arith
  total_set (x ∷ xs) (suc i) v w e = let ih = total_set xs i v w e in omega arith

  pub total_append : (vs ws : List V) → total f (vs ++ ws) ≡ total f vs + total f ws
  total_append [] ws = omega arith
  total_append (v ∷ vs) ws = let ih = total_append vs ws in omega arith

  pub total_snoc : (vs : List V) (w : V) → total f (vs ++ w ∷ []) ≡ total f vs + f w
  total_snoc vs w = let e = total_append vs (w ∷ []) in omega arith

  -- where f of the view does not change, the total does not
  pub total_same : (vs : List V) (i : ℕ) (v w : V) → get_elem? vs i ≡ some v → f w ≡ f v → total f (set vs i w) ≡ total f vs
  total_same vs i v w at e = let s = total_set vs i v w at in omega arith

  pub member_le : (vs : List V) (i : ℕ) (v : V) → get_elem? vs i ≡ some v → f v ≤ total f vs
  member_le [] i v e = absurd (some-ne-none v (sym e))
  member_le (x ∷ xs) zero v e = let same : f x ≡ f v = ap f (some-injective x v e) in omega arith
  member_le (x ∷ xs) (suc i) v e = let ih = member_le xs i v e in omega arith

  pub two_members : (vs : List V) (i j : ℕ) (v w : V) → get_elem? vs i ≡ some v → get_elem? vs j ≡ some w → i ≢ j → f v + f w ≤ total f vs
  two_members [] i j v w a b ne = absurd (some-ne-none v (sym a))
  two_members (x ∷ xs) zero zero v w a b ne = absurd (ne refl)
  two_members (x ∷ xs) zero (suc j) v w a b ne = let same : f x ≡ f v = ap f (some-injective x v a) in let m = member_le xs j w b in omega arith
  two_members (x ∷ xs) (suc i) zero v w a b ne = let same : f x ≡ f w = ap f (some-injective x w b) in let m = member_le xs i v a in omega arith
  two_members (x ∷ xs) (suc i) (suc j) v w a b ne = let ih = two_members xs i j v w a b (λ e. ne (ap suc e)) in omega arith

  -- where the total is positive, so is f of some member
  pub some_member : (vs : List V) → 1 ≤ total f vs → (i : ℕ) × (v : V) × (get_elem? vs i ≡ some v) × (1 ≤ f v)
  some_member [] h = absurd (omega arith)
  some_member (x ∷ xs) h = go (native.Mathlib.Decide.dec_le 1 (f x)) (λ (h' : 1 ≤ total f xs). some_member xs h')
    where
      go : Dec (1 ≤ f x) → (1 ≤ total f xs → (i : ℕ) × (v : V) × (get_elem? xs i ≡ some v) × (1 ≤ f v))
          → (i : ℕ) × (v : V) × (get_elem? (x ∷ xs) i ≡ some v) × (1 ≤ f v)
      go (yes y) ih = (0, x, refl, y)
      go (no n) ih = let r = ih (omega arith) in (suc r.0, r.1, r.2, r.3)

module _ {V : Type 0} (f g : V → ℕ) where
  -- f is at most g everywhere, so the rest of f is at most the rest of g
  pub total_le : (vs : List V) → ((i : ℕ) (v : V) → get_elem? vs i ≡ some v → f v ≤ g v) → total f vs ≤ total g vs
  total_le [] h = omega arith
  total_le (x ∷ xs) h = let here = h 0 x refl in let ih = total_le xs (λ i v e. h (suc i) v e) in omega arith

  pub total_gap : (vs : List V) (i : ℕ) (v : V) → get_elem? vs i ≡ some v → ((j : ℕ) (u : V) → get_elem? vs j ≡ some u → f u ≤ g u)
      → total f vs + g v ≤ total g vs + f v
  total_gap [] i v e h = absurd (some-ne-none v (sym e))
  total_gap (x ∷ xs) zero v e h =
      let same : f x ≡ f v = ap f (some-injective x v e) in
      let same' : g x ≡ g v = ap g (some-injective x v e) in
      let rest = total_le xs (λ j u at. h (suc j) u at) in omega arith
  total_gap (x ∷ xs) (suc i) v e h = let here = h 0 x refl in let ih = total_gap xs i v e (λ j u at. h (suc j) u at) in omega arith

  pub total_sum : (vs : List V) → total (λ (v : V). f v + g v) vs ≡ total f vs + total g vs
  total_sum [] = omega arith
  total_sum (x ∷ xs) = let ih = total_sum xs in omega arith

  -- f is 0 wherever g is, and only one has g
  pub total_only : (vs : List V) (i : ℕ) (v : V) → get_elem? vs i ≡ some v → total g vs ≤ g v
      → ((j : ℕ) (u : V) → get_elem? vs j ≡ some u → g u ≡ 0 → f u ≡ 0) → total f vs ≡ f v
  total_only [] i v e h z = absurd (some-ne-none v (sym e))
  total_only (x ∷ xs) zero v e h z =
      let same : f x ≡ f v = ap f (some-injective x v e) in
      let same' : g x ≡ g v = ap g (some-injective x v e) in
      let none : total g xs ≤ 0 = omega arith in
      let zeros = total_zero xs none (λ j u at. z (suc j) u at) in omega arith
    where
      total_zero : (ys : List V) → total g ys ≤ 0 → ((j : ℕ) (u : V) → get_elem? ys j ≡ some u → g u ≡ 0 → f u ≡ 0) → total f ys ≡ 0
      total_zero [] h z = refl
      total_zero (y ∷ ys) h z = let here = z 0 y refl (omega arith) in let ih = total_zero ys (omega arith) (λ j u at. z (suc j) u at) in omega arith
  total_only (x ∷ xs) (suc i) v e h z =
      let mine = member_le g xs i v e in
      let zero_g : g x ≡ 0 = omega arith in
      let here = z 0 x refl zero_g in
      let ih = total_only xs i v e (omega arith) (λ j u at. z (suc j) u at) in omega arith

-- f of each number below n, added up
sum_below : (ℕ → ℕ) → ℕ → ℕ
sum_below f zero = 0
sum_below f (suc n) = f n + sum_below f n

sum_plus : (f g : ℕ → ℕ) (n : ℕ) → sum_below (λ x. f x + g x) n ≡ sum_below f n + sum_below g n
unfolding sum_below
sum_plus f g zero = refl
sum_plus f g (suc n) = let ih = sum_plus f g n in omega arith

sum_zero : (n : ℕ) → sum_below (λ _. 0) n ≡ 0
unfolding sum_below
sum_zero zero = refl
sum_zero (suc n) = let ih = sum_zero n in omega arith

swapped : (a b : ℕ) → one a b ≡ one b a
unfolding one
swapped a b = grind (arith, nat_tests)

sum_one : (y n : ℕ) → sum_below (λ x. one x y) n ≡ below y n
unfolding sum_below
sum_one y zero = let e = below_no y 0 (omega arith) in omega arith
sum_one y (suc n) = let ih = sum_one y n in let e = below_next y n in let s = swapped n y in omega (arith, ap (below y) (Rattle.std.proofs.Common.add-one n))

-- a list of different numbers below n
module _ (n : ℕ) where
  sum_times : (xs : List ℕ) → ((x : ℕ) → times x xs ≤ below x n) → sum_below (λ x. times x xs) n ≡ length xs
  sum_times [] h = sum_zero n
  sum_times (y ∷ ys) h =
      let e = sum_plus (λ x. one x y) (λ x. times x ys) n in
      let o = sum_one y n in
      let s = one_same y in
      let hy : one y y + times y ys ≤ below y n = h y in
      let b = below_le y n in
      let ih = sum_times ys (λ x. let hx : one x y + times x ys ≤ below x n = h x in omega arith) in
      omega arith

  sum_le : (f : ℕ → ℕ) (m : ℕ) → ((x : ℕ) → f x ≤ 1) → sum_below f m ≤ m
  unfolding sum_below
  sum_le f zero h = omega arith
  sum_le f (suc m) h = let ih = sum_le f m h in let here = h m in omega arith

  sum_full : (f : ℕ → ℕ) (m : ℕ) → ((x : ℕ) → f x ≤ 1) → m ≤ sum_below f m → (x : ℕ) → x < m → 1 ≤ f x
  unfolding sum_below
  sum_full f zero h s x lt = absurd (omega arith)
  sum_full f (suc m) h s x lt =
      let here = h m in
      let rest = sum_le f m h in
      let s' : suc m ≤ f m + sum_below f m = s in
      go (λ (lt' : x < m). sum_full f m h (omega arith) x lt') (omega arith) (native.Mathlib.Decide.ℕ_discrete x m)
    where
      go : (x < m → 1 ≤ f x) → 1 ≤ f m → Dec (x ≡ m) → 1 ≤ f x
      go ih top (yes e) = subst (λ (z : ℕ). 1 ≤ f z) (sym e) top
      go ih top (no ne) = ih (omega arith)

  -- it has at most n
  pub distinct_few : (xs : List ℕ) → ((x : ℕ) → times x xs ≤ below x n) → length xs ≤ n
  distinct_few xs h = let e = sum_times xs h in let l = sum_le (λ x. times x xs) n (λ x. let a = h x in let b = below_le x n in omega arith) in omega arith

  -- and where it has n, each number below n stands in it
  pub distinct_full : (xs : List ℕ) → ((x : ℕ) → times x xs ≤ below x n) → length xs ≡ n → (x : ℕ) → x < n → 1 ≤ times x xs
  distinct_full xs h is x lt =
      let e = sum_times xs h in sum_full (λ x. times x xs) n (λ x. let a = h x in let b = below_le x n in omega arith) (omega arith) x lt

-- something stands in a list that is not empty
pub some_number : (xs : List ℕ) → 1 ≤ length xs → (x : ℕ) × (1 ≤ times x xs)
some_number [] h = absurd (omega arith)
some_number (x ∷ xs) h = (x, let o = one_same x in omega arith)

-- where f of each is 0, so is the total
pub total_zero : {V : Type 0} (f : V → ℕ) (vs : List V) → ((i : ℕ) (v : V) → get_elem? vs i ≡ some v → f v ≡ 0) → total f vs ≡ 0
total_zero f [] h = refl
total_zero f (x ∷ xs) h = let a = h 0 x refl in let ih = total_zero f xs (λ i v e. h (suc i) v e) in omega arith

-- a place in a list is below its length
pub place_below : {A : Type 0} (l : List A) (i : ℕ) (a : A) → get_elem? l i ≡ some a → i < length l
place_below [] i a e = absurd (some-ne-none a (sym e))
place_below (x ∷ xs) zero a e = omega arith
place_below (x ∷ xs) (suc i) a e = let ih = place_below xs i a e in omega arith

-- and each number below the length is a place
pub place_has : {A : Type 0} (l : List A) (i : ℕ) → i < length l → (a : A) × (get_elem? l i ≡ some a)
place_has [] i h = absurd (omega arith)
place_has (x ∷ xs) zero h = (x, refl)
place_has (x ∷ xs) (suc i) h = place_has xs i (omega arith)

-- what stands in a list with one item more at its end
pub at_end : {A : Type 0} (l : List A) (a b : A) (k : ℕ) → get_elem? (l ++ a ∷ []) k ≡ some b → (get_elem? l k ≡ some b) ⊎ ((k ≡ length l) × (a ≡ b))
at_end [] a b zero e = inr (refl, some-injective a b e)
at_end [] a b (suc k) e = absurd (some-ne-none b (sym e))
at_end (x ∷ xs) a b zero e = inl e
at_end (x ∷ xs) a b (suc k) e = ⊎_elim (λ t. inl t) (λ t. inr (ap suc t.0, t.1)) (at_end xs a b k e)

-- what the place has after a write there
pub set_at : {A : Type 0} (l : List A) (i : ℕ) (a b : A) → get_elem? l i ≡ some a → get_elem? (set l i b) i ≡ some b
set_at [] i a b e = absurd (some-ne-none a (sym e))
set_at (x ∷ xs) zero a b e = refl
set_at (x ∷ xs) (suc i) a b e = set_at xs i a b e

-- it holds no other number
pub not_holding : (x : ℕ) (o : Option ℕ) → o ≢ Some x → holding x o ≡ 0
not_holding x None h = refl
not_holding x (Some y) h = one_other x y (λ e. h (ap (λ (z : ℕ). Some z) (sym e)))

-- where there is one, it is some value
pub is_present : {A : Type 0} (o : Option A) → 1 ≤ present o → (a : A) × (o ≡ Some a)
is_present None h = absurd (omega arith)
is_present (Some a) h = (a, refl)

-- a number stands in a list at most as often as there are items
pub times_length : (x : ℕ) (ys : List ℕ) → times x ys ≤ length ys
times_length x [] = omega arith
times_length x (y ∷ ys) = let ih = times_length x ys in let o = one_le x y in omega arith

-- where f of all but one is 0, the total is f of that one
pub total_alone : {V : Type 0} (f : V → ℕ) (vs : List V) (i : ℕ) (v : V) → get_elem? vs i ≡ some v
    → ((j : ℕ) (u : V) → j ≢ i → get_elem? vs j ≡ some u → f u ≡ 0) → total f vs ≡ f v
total_alone f [] i v at none = absurd (some-ne-none v (sym at))
total_alone f (x ∷ xs) zero v at none =
    let rest = total_zero f xs (λ j u at'. none (suc j) u (λ e. omega arith) at') in
    let same : f x ≡ f v = ap f (some-injective x v at) in omega arith
total_alone f (x ∷ xs) (suc i) v at none =
    let ih = total_alone f xs i v at (λ j u ne at'. none (suc j) u (λ e. ne (omega arith)) at') in
    let first = none 0 x (λ e. omega arith) refl in omega arith

-- what holds x is Some x
pub is_holding : (x : ℕ) (o : Option ℕ) → 1 ≤ holding x o → o ≡ Some x
is_holding x None h = absurd (omega arith)
is_holding x (Some y) h = go (ℕ_discrete x y)
  where
    go : Dec (x ≡ y) → Some y ≡ Some x
    go (yes e) = ap (λ (z : ℕ). Some z) (sym e)
    go (no ne) = let o = one_other x y ne in absurd (omega arith)
