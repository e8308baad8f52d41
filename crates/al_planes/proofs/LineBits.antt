-- Bits within windows, and lines.
use Rattle.std.proofs.Common.{◌≡◌, ◌≢◌, ℕ, zero, suc, ◌+◌, ◌*◌, ◌/◌, ◌%◌, ◌^◌, ◌<◌, ◌≤◌, max, Bool, true, false, not, ◌&&◌, nat_eq, bit_and, bit_or, w64, inl, inr, refl, sym, ap, ◌∙◌, arith}
use Rattle.std.specs.Int.{bit_at, trailing_zeros}
use Rattle.std.proofs.Math.Bool.{true≢false}
use Rattle.std.proofs.lemmas.Bool.{eqb-true, eq-eqb, cases_lt}
use Rattle.std.proofs.lemmas.Bool.Decides.{eqb_tells}
use Rattle.std.proofs.lemmas.Nat.{shr-shr, and_le_r}
use Rattle.std.proofs.lemmas.Nat.Bits.{bit_at_and, bit_at_or, bit_at-lt, bit_at-zero, bit_at-trailing_zeros}
use Rattle.al_planes.specs.declared.lines.Line.{Line}
use Rattle.al_planes.specs.declared.lines.Line.TheVariants as line
use Rattle.al_planes.specs.Lines.{InWindow, AreWindows, CommonBits, size, first_bits}

bit_shifted : (n s k : ℕ) → bit_at (n / 2 ^ s) k ≡ bit_at n (s + k)
bit_shifted n s k = ap (λ (m : ℕ). m % 2) (shr-shr n s k)

pub itself : (x : ℕ) → AreWindows x x 1
itself x k = (
  (λ h. record { place = k; from = omega arith; within = omega arith; set = h }),
  (λ w. let e : w.place ≡ k = omega (arith, w.from, w.within) in ap (bit_at x) (sym e) ∙ w.set),
)

pub twice : (x y s t : ℕ) → t ≡ s * 2 → AreWindows x y s → AreWindows x (bit_or y (y / 2 ^ s)) t
twice x y s t d h k = (up, down)
  where
    either : bit_at (bit_or y (y / 2 ^ s)) k ≡ max (bit_at y k) (bit_at y (s + k))
    either = bit_at_or y (y / 2 ^ s) k ∙ ap (max (bit_at y k)) (bit_shifted y s k)

    up : bit_at (bit_or y (y / 2 ^ s)) k ≡ 1 → InWindow x k t
    up e = elim (eqb_tells (bit_at y k) 1) [
      | inl here ↦ let w = (h k).0 here.1 in record { place = w.place; from = w.from; within = omega (arith, w.within); set = w.set }
      | inr other ↦
          let there : bit_at y (s + k) ≡ 1 = omega (arith, either, e, bit_at-lt y k, bit_at-lt y (s + k), other.1) in
          let w = (h (s + k)).0 there in
          record { place = w.place; from = omega (arith, w.from); within = omega (arith, w.within); set = w.set }
    ]

    down : InWindow x k t → bit_at (bit_or y (y / 2 ^ s)) k ≡ 1
    down w = elim (cases_lt w.place (k + s)) [
      | inl low ↦
          let here : bit_at y k ≡ 1 = (h k).1 (record { place = w.place; from = w.from; within = low; set = w.set }) in
          omega (arith, either, here, bit_at-lt y k, bit_at-lt y (s + k))
      | inr high ↦
          let there : bit_at y (s + k) ≡ 1 =
          (h (s + k)).1 (record { place = w.place; from = omega (arith, high); within = omega (arith, w.within); set = w.set }) in
          omega (arith, either, there, bit_at-lt y k, bit_at-lt y (s + k))
    ]

-- ---- the first bits are at the multiples

alike : Bool → Bool → Bool
alike true b = b
alike false b = not b

alike_is : (a b : Bool) → alike a b ≡ true → a ≡ b
unfolding alike
alike_is true b h = sym h
alike_is false true h = h
alike_is false false h = refl

abbrev right_at : ℕ → ℕ → ℕ → Bool
right_at f g k = alike (nat_eq (bit_at f k) 1) (nat_eq (k % g) 0)

all_below : (ℕ → Bool) → ℕ → Bool
all_below t zero = true
all_below t (suc n) = t n && all_below t n

left_true : (a b : Bool) → (a && b) ≡ true → a ≡ true
left_true true b h = refl
left_true false b h = h

right_true : (a b : Bool) → (a && b) ≡ true → b ≡ true
right_true true b h = h
right_true false b h = absurd (true≢false (sym h))

each_below : (t : ℕ → Bool) (n k : ℕ) → k < n → all_below t n ≡ true → t k ≡ true
unfolding all_below
each_below t zero k h a = absurd (omega arith)
each_below t (suc n) k h a = elim (eqb_tells k n) [
  | inl here ↦ ap t here.1 ∙ left_true (t n) (all_below t n) a
  | inr other ↦ each_below t n k (let d : k ≢ n = other.1 in omega arith) (right_true (t n) (all_below t n) a)
]

table : (l : Line) → all_below (right_at (first_bits l) (size l)) 64 ≡ true
unfolding all_below alike
table line.One = refl
table line.Two = refl
table line.Four = refl
table line.Eight = refl
table line.Sixteen = refl

first_at : (l : Line) (k : ℕ) → k < 64 → nat_eq (bit_at (first_bits l) k) 1 ≡ nat_eq (k % size l) 0
first_at l k h = alike_is _ _ (each_below (right_at (first_bits l) (size l)) 64 k h (table l))

firsts_below : (l : Line) → first_bits l < 2 ^ 64
firsts_below line.One = omega arith
firsts_below line.Two = omega arith
firsts_below line.Four = omega arith
firsts_below line.Eight = omega arith
firsts_below line.Sixteen = omega arith

-- ---- places of one line

in_line : (l : Line) (k i : ℕ) → k < 64 → k % size l ≡ 0 → k ≤ i → i < k + size l → (i / size l ≡ k / size l) × (i < 64)
in_line line.One k i h m a b = (omega arith, omega arith)
in_line line.Two k i h m a b = (omega arith, omega arith)
in_line line.Four k i h m a b = (omega arith, omega arith)
in_line line.Eight k i h m a b = (omega arith, omega arith)
in_line line.Sixteen k i h m a b = (omega arith, omega arith)

-- where the line of a place begins
begins : (l : Line) (i j : ℕ) → i < 64 → i / size l ≡ j / size l
    → (k : ℕ) × (k < 64) × (k % size l ≡ 0) × (k ≤ i) × (i < k + size l) × (k ≤ j) × (j < k + size l)
begins line.One i j h e = (i, omega arith, omega arith, omega arith, omega arith, omega arith, omega arith)
begins line.Two i j h e = (i / 2 * 2, omega arith, omega arith, omega arith, omega arith, omega arith, omega arith)
begins line.Four i j h e = (i / 4 * 4, omega arith, omega arith, omega arith, omega arith, omega arith, omega arith)
begins line.Eight i j h e = (i / 8 * 8, omega arith, omega arith, omega arith, omega arith, omega arith, omega arith)
begins line.Sixteen i j h e = (i / 16 * 16, omega arith, omega arith, omega arith, omega arith, omega arith, omega arith)

both_set : (x y i : ℕ) → bit_at (bit_and x y) i ≡ 1 → (bit_at x i ≡ 1) × (bit_at y i ≡ 1)
both_set x y i h = (omega (arith, bit_at_and x y i, bit_at-lt x i, bit_at-lt y i), omega (arith, bit_at_and x y i, bit_at-lt x i, bit_at-lt y i))

module _ (l : Line) (a b wa wb : ℕ) (ha : AreWindows a wa (size l)) (hb : AreWindows b wb (size l)) where
  pub met : not (nat_eq (bit_and (bit_and wa wb) (first_bits l)) 0) ≡ true → CommonBits (size l) a b
  met h =
      let z : ℕ = bit_and (bit_and wa wb) (first_bits l) in
      let low : z ≤ first_bits l = and_le_r (bit_and wa wb) (first_bits l) in
      let fits : z < 2 ^ 64 = omega (arith, low, firsts_below l) in
      let some : 0 < z =
      elim (eqb_tells z 0) [ inl none ↦ absurd (true≢false (sym h ∙ ap not none.0)) | inr other ↦ (let d : z ≢ 0 = other.1 in omega arith) ] in
      let found = bit_at-trailing_zeros w64 z some fits in
      let k : ℕ = trailing_zeros w64 z in
      let below : k < 64 = found.0 in
      let outer = both_set (bit_and wa wb) (first_bits l) k found.1 in
      let inner = both_set wa wb k outer.0 in
      let m : k % size l ≡ 0 = eqb-true _ _ (sym (first_at l k below) ∙ eq-eqb _ _ outer.1) in
      let i = (ha k).0 inner.0 in
      let j = (hb k).0 inner.1 in
      let li = in_line l k i.place below m i.from i.within in
      let lj = in_line l k j.place below m j.from j.within in
      record { first = i.place; second = j.place; first_below = li.1; second_below = lj.1; in_a = i.set; in_b = j.set; same = li.0 ∙ sym lj.0 }

  pub every : CommonBits (size l) a b → not (nat_eq (bit_and (bit_and wa wb) (first_bits l)) 0) ≡ true
  every c =
      let s = begins l c.first c.second c.first_below c.same in
      let k : ℕ = s.0 in
      let in_a : bit_at wa k ≡ 1 = (ha k).1 (record { place = c.first; from = s.3; within = s.4; set = c.in_a }) in
      let in_b : bit_at wb k ≡ 1 = (hb k).1 (record { place = c.second; from = s.5; within = s.6; set = c.in_b }) in
      let in_f : bit_at (first_bits l) k ≡ 1 = eqb-true _ _ (first_at l k s.1 ∙ eq-eqb _ _ s.2) in
      let z : ℕ = bit_and (bit_and wa wb) (first_bits l) in
      let set : bit_at z k ≡ 1 = omega (arith, bit_at_and (bit_and wa wb) (first_bits l) k, bit_at_and wa wb k) in
      elim (eqb_tells z 0) [
        | inl none ↦ absurd (let e : bit_at z k ≡ bit_at 0 k = ap (λ (n : ℕ). bit_at n k) none.1 in omega (arith, e, set, bit_at-zero k))
        | inr some ↦ ap not some.0
      ]
