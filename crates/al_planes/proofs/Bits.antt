-- Places of masks.
use Rattle.std.proofs.Common.{◌≡◌, ◌≢◌, ℕ, zero, suc, ◌+◌, ◌*◌, ◌/◌, ◌%◌, ◌^◌, ◌<◌, ◌≤◌, Bool, true, false, not, ◌||◌, nat_eq, List, [], ◌∷◌, length, get_or, slice_set, bit_and, bit_or, w64, inl, inr, refl, sym, ap, ◌∙◌, arith}
use Rattle.std.specs.Int.{bit_at, trailing_zeros}
use Rattle.std.specs.Simd.Lanes.{zip2}
use Rattle.std.proofs.lemmas.Bool.{eqb-true, eq-eqb, ne_eqb, cases_lt}
use Rattle.std.proofs.Math.Bool.{true≢false}
use Rattle.std.proofs.lemmas.List.{get_or-set_other}
use Rattle.std.proofs.lemmas.Nat.{and_le_l}
use Rattle.std.proofs.lemmas.Bool.Decides.{eqb_tells}
use Rattle.std.proofs.lemmas.Grind.{get_or-set_at}
use Rattle.std.proofs.lemmas.Nat.Bits.{bit_at_or, bit_at_and, bit_at-zero, bit_at-lt, bit_at-trailing_zeros, bit_at_set_same, bit_at_set_other}
use Rattle.al_planes.specs.Planes.{planes_meet}
use Rattle.al_planes.specs.Masks.{bit_in, CommonPlace}

-- the place i of the number k
pub split_place : (k i : ℕ) → i < 64 → ((k * 64 + i) / 64 ≡ k) × ((k * 64 + i) % 64 ≡ i)
split_place k i h = (omega arith, omega arith)

pub has_place : (m : List ℕ) (k i : ℕ) → i < 64 → bit_in m (k * 64 + i) ≡ nat_eq (bit_at (get_or m k 0) i) 1
has_place m k i h = let s = split_place k i h in λ t. nat_eq (bit_at (get_or m (s.0 t) 0) (s.1 t)) 1

both_set : (x y i : ℕ) → bit_at (bit_and x y) i ≡ 1 → (bit_at x i ≡ 1) × (bit_at y i ≡ 1)
both_set x y i h = (omega (arith, bit_at_and x y i, bit_at-lt x i, bit_at-lt y i), omega (arith, bit_at_and x y i, bit_at-lt x i, bit_at-lt y i))

-- two planes that meet have a common place in some number
pub meeting : (xs ys : List ℕ) → ((k : ℕ) → get_or xs k 0 < 2 ^ 64) → planes_meet xs ys ≡ true
    → (k : ℕ) × (i : ℕ) × (i < 64) × (bit_at (get_or xs k 0) i ≡ 1) × (bit_at (get_or ys k 0) i ≡ 1)
meeting [] ys fits h = absurd (true≢false (sym h))
meeting (x ∷ xs) [] fits h = absurd (true≢false (sym h))
meeting (x ∷ xs) (y ∷ ys) fits h = elim (eqb_tells (bit_and x y) 0) [
  | inl none ↦
      let rest = meeting xs ys (λ k. fits (suc k)) (sym (ap (λ b. not b || planes_meet xs ys) none.0) ∙ h) in
      (suc rest.0, rest.1, rest.2, rest.3, rest.4)
  | inr some ↦
      let z : ℕ = bit_and x y in
      let low : z ≤ x = and_le_l x y in
      let below : x < 2 ^ 64 = fits 0 in
      let found = bit_at-trailing_zeros w64 z (omega arith) (omega arith) in
      let set = both_set x y (trailing_zeros w64 z) found.1 in
      (0, trailing_zeros w64 z, found.0, set.0, set.1)
]

or_true : (b : Bool) → (b || true) ≡ true
or_true true = refl
or_true false = refl

no_bit : (i : ℕ) → bit_at 0 i ≡ 1 → ⊥
no_bit i h = omega (arith, bit_at-zero i)

meets_first : (x y i : ℕ) (b : Bool) → bit_at x i ≡ 1 → bit_at y i ≡ 1 → (not (nat_eq (bit_and x y) 0) || b) ≡ true
meets_first x y i b h g = elim (eqb_tells (bit_and x y) 0) [
  | inl none ↦ absurd (no_bit i (sym (ap (λ (z : ℕ). bit_at z i) none.1) ∙ (omega (arith, bit_at_and x y i))))
  | inr some ↦ ap (λ c. not c || b) some.0
]

pub meets_at : (xs ys : List ℕ) (k i : ℕ) → bit_at (get_or xs k 0) i ≡ 1 → bit_at (get_or ys k 0) i ≡ 1 → planes_meet xs ys ≡ true
meets_at [] ys k i h g = absurd (no_bit i h)
meets_at (x ∷ xs) [] k i h g = absurd (no_bit i g)
meets_at (x ∷ xs) (y ∷ ys) zero i h g = meets_first x y i (planes_meet xs ys) h g
meets_at (x ∷ xs) (y ∷ ys) (suc k) i h g =
    ap (λ b. not (nat_eq (bit_and x y) 0) || b) (meets_at xs ys k i h g) ∙ or_true (not (nat_eq (bit_and x y) 0))

beyond : (m : List ℕ) (k : ℕ) → length m ≤ k → get_or m k 0 ≡ 0
beyond [] k h = refl
beyond (x ∷ m) zero h = absurd (omega arith)
beyond (x ∷ m) (suc k) h = beyond m k (omega arith)

below_length : (m : List ℕ) (k i : ℕ) → bit_at (get_or m k 0) i ≡ 1 → k < length m
below_length m k i h =
    elim (cases_lt k (length m)) [ inl lt ↦ lt | inr le ↦ absurd (no_bit i (ap (λ (n : ℕ). bit_at n i) (sym (beyond m k le)) ∙ h)) ]

pub common_place : (xs ys : List ℕ) → length xs ≡ 8 → ((k : ℕ) → get_or xs k 0 < 2 ^ 64) → planes_meet xs ys ≡ true → CommonPlace xs ys
common_place xs ys long fits h =
    let m = meeting xs ys fits h in
    record {
      place = m.0 * 64 + m.1;
      below = (let k : m.0 < length xs = below_length xs m.0 m.1 m.3 in let i : m.1 < 64 = m.2 in omega (arith, k, i, long));
      in_a = has_place xs m.0 m.1 m.2 ∙ eq-eqb _ _ m.3;
      in_b = has_place ys m.0 m.1 m.2 ∙ eq-eqb _ _ m.4;
    }

pub common_meets : (xs ys : List ℕ) → CommonPlace xs ys → planes_meet xs ys ≡ true
common_meets xs ys c = meets_at xs ys (c.place / 64) (c.place % 64) (eqb-true _ _ c.in_a) (eqb-true _ _ c.in_b)

pub bits_after : (m : List ℕ) (i : ℕ) → i / 64 < length m → (j : ℕ)
    → bit_in (slice_set m (i / 64) (bit_or (get_or m (i / 64) 0) (1 * 2 ^ (i % 64) % 2 ^ 64))) j ≡ (nat_eq j i || bit_in m j)
bits_after m i h j =
    let v : ℕ = bit_or (get_or m (i / 64) 0) (1 * 2 ^ (i % 64) % 2 ^ 64) in
    elim (eqb_tells (j / 64) (i / 64)) [
      | inl s ↦
          let at : get_or (slice_set m (i / 64) v) (j / 64) 0 ≡ v = get_or-set_at m (i / 64) (j / 64) v 0 s.1 h in
          elim (eqb_tells (j % 64) (i % 64)) [
            | inl t ↦
                let same : j ≡ i = omega arith in
                let bit : bit_at v (i % 64) ≡ 1 = bit_at_set_same w64 (get_or m (i / 64) 0) (i % 64) (omega arith) in
                (λ z. nat_eq (bit_at (at z) (t.1 z)) 1) ∙ eq-eqb _ _ bit ∙ ap (λ b. b || bit_in m j) (sym (eq-eqb j i same))
            | inr u ↦
                let other : j ≢ i = λ (e : j ≡ i). u.1 (ap (λ (k : ℕ). k % 64) e) in
                let bit : bit_at v (j % 64) ≡ bit_at (get_or m (i / 64) 0) (j % 64) =
                bit_at_set_other w64 (get_or m (i / 64) 0) (i % 64) (omega arith) (j % 64) u.1 in
                ap (λ (n : ℕ). nat_eq (bit_at n (j % 64)) 1) at
                ∙ ap (λ (n : ℕ). nat_eq n 1) (bit ∙ ap (λ (k : ℕ). bit_at (get_or m k 0) (j % 64)) (sym s.1))
                ∙ ap (λ b. b || bit_in m j) (sym (ne_eqb j i other))
          ]
      | inr d ↦
          let other : j ≢ i = λ (e : j ≡ i). d.1 (ap (λ (k : ℕ). k / 64) e) in
          ap (λ (n : ℕ). nat_eq (bit_at n (j % 64)) 1) (get_or-set_other m (i / 64) (j / 64) v 0 d.1)
          ∙ ap (λ b. b || bit_in m j) (sym (ne_eqb j i other))
    ]

either_set : (x y i : ℕ) → nat_eq (bit_at (bit_or x y) i) 1 ≡ (nat_eq (bit_at y i) 1 || nat_eq (bit_at x i) 1)
either_set x y i = elim (eqb_tells (bit_at y i) 1) [
  | inl s ↦ eq-eqb _ _ (omega (arith, bit_at_or x y i, bit_at-lt x i, bit_at-lt y i, s.1)) ∙ ap (λ b. b || nat_eq (bit_at x i) 1) (sym s.0)
  | inr u ↦
      let e : bit_at (bit_or x y) i ≡ bit_at x i = omega (arith, bit_at_or x y i, bit_at-lt x i, bit_at-lt y i, u.1) in
      ap (λ (n : ℕ). nat_eq n 1) e ∙ ap (λ b. b || nat_eq (bit_at x i) 1) (sym u.0)
]

joined_at : (xs ys : List ℕ) (k i : ℕ) → length xs ≡ length ys
    → nat_eq (bit_at (get_or (zip2 bit_or xs ys) k 0) i) 1 ≡ (nat_eq (bit_at (get_or ys k 0) i) 1 || nat_eq (bit_at (get_or xs k 0) i) 1)
joined_at [] [] k i h = neither i
  where
    neither : (i : ℕ) → nat_eq (bit_at 0 i) 1 ≡ (nat_eq (bit_at 0 i) 1 || nat_eq (bit_at 0 i) 1)
    neither i = λ t. (ap (λ (n : ℕ). nat_eq n 1) (bit_at-zero i) ∙ sym ((λ z. nat_eq (bit_at-zero i z) 1 || nat_eq (bit_at-zero i z) 1))) t
joined_at [] (y ∷ ys) k i h = absurd (omega arith)
joined_at (x ∷ xs) [] k i h = absurd (omega arith)
joined_at (x ∷ xs) (y ∷ ys) zero i h = either_set x y i
joined_at (x ∷ xs) (y ∷ ys) (suc k) i h = joined_at xs ys k i (omega arith)

pub bits_joined : (xs ys : List ℕ) → length xs ≡ length ys → (j : ℕ) → bit_in (zip2 bit_or xs ys) j ≡ (bit_in ys j || bit_in xs j)
bits_joined xs ys h j = joined_at xs ys (j / 64) (j % 64) h
