-- A place of masks that is found and taken out.
use Rattle.std.proofs.Common.{◌≡◌, ◌≢◌, ℕ, ◌+◌, ◌*◌, ◌/◌, ◌%◌, ◌^◌, ◌<◌, true, not, ◌&&◌, nat_eq, List, length, get_or, slice_set, bit_and, w64, inl, inr, refl, sym, ap, ◌∙◌, arith}
use Rattle.std.specs.Int.{bit_at, bit_not}
use Rattle.std.proofs.lemmas.Bool.{eq-eqb, ne_eqb}
use Rattle.std.proofs.lemmas.List.{get_or-set_other}
use Rattle.std.proofs.lemmas.Bool.Decides.{eqb_tells}
use Rattle.std.proofs.lemmas.Grind.{get_or-set_at}
use Rattle.std.proofs.lemmas.Nat.Bits.{bit_at_clear_same, bit_at_clear_other}
use Rattle.al_planes.specs.Masks.{bit_in}
use Rattle.al_planes.proofs.Bits.{has_place}
use Rattle.al_sets.proofs.Meeting.{same_default}

-- a place of the number k
pub set_at : (m : List ℕ) (k n d : ℕ) → k < length m → n ≡ get_or m k d → (t : ℕ) → t < 64 → bit_at n t ≡ 1
    → bit_in m (k * 64 + t) ≡ true
set_at m k n d within e t low one =
    has_place m k t low
    ∙ ap (λ (x : ℕ). nat_eq (bit_at x t) 1) (same_default m k k 0 d refl within ∙ sym e)
    ∙ eq-eqb _ _ one

pub bits_without : (m : List ℕ) (i : ℕ) → i / 64 < length m → (j : ℕ)
    → bit_in (slice_set m (i / 64) (bit_and (get_or m (i / 64) 0) (bit_not w64 (1 * 2 ^ (i % 64) % 2 ^ 64)))) j
    ≡ (not (nat_eq j i) && bit_in m j)
bits_without m i h j =
    let v : ℕ = bit_and (get_or m (i / 64) 0) (bit_not w64 (1 * 2 ^ (i % 64) % 2 ^ 64)) in
    elim (eqb_tells (j / 64) (i / 64)) [
      | inl s ↦
          let at : get_or (slice_set m (i / 64) v) (j / 64) 0 ≡ v = get_or-set_at m (i / 64) (j / 64) v 0 s.1 h in
          elim (eqb_tells (j % 64) (i % 64)) [
            | inl t ↦
                let same : j ≡ i = omega arith in
                let bit : bit_at v (i % 64) ≡ 0 = bit_at_clear_same w64 (get_or m (i / 64) 0) (i % 64) (omega arith) in
                (λ z. nat_eq (bit_at (at z) (t.1 z)) 1) ∙ ap (λ (n : ℕ). nat_eq n 1) bit
                ∙ ap (λ b. not b && bit_in m j) (sym (eq-eqb j i same))
            | inr u ↦
                let other : j ≢ i = λ (e : j ≡ i). u.1 (ap (λ (k : ℕ). k % 64) e) in
                let bit : bit_at v (j % 64) ≡ bit_at (get_or m (i / 64) 0) (j % 64) =
                bit_at_clear_other w64 (get_or m (i / 64) 0) (i % 64) (omega arith) (j % 64) (omega arith) u.1 in
                ap (λ (n : ℕ). nat_eq (bit_at n (j % 64)) 1) at
                ∙ ap (λ (n : ℕ). nat_eq n 1) (bit ∙ ap (λ (k : ℕ). bit_at (get_or m k 0) (j % 64)) (sym s.1))
                ∙ ap (λ b. not b && bit_in m j) (sym (ne_eqb j i other))
          ]
      | inr d ↦
          let other : j ≢ i = λ (e : j ≡ i). d.1 (ap (λ (k : ℕ). k / 64) e) in
          ap (λ (n : ℕ). nat_eq (bit_at n (j % 64)) 1) (get_or-set_other m (i / 64) (j / 64) v 0 d.1)
          ∙ ap (λ b. not b && bit_in m j) (sym (ne_eqb j i other))
    ]
