-- What is known of a value once it is known whether it is a number.
use Rattle.std.proofs.Common.{◌≡◌, ◌∙◌, sym, ap, refl, Result, Ok, Err, pos, ◌+ℤ◌, ◌*ℤ◌}
use Rattle.std.specs.Prelude.{ℕ, Some, None, ℤ, true, MatchResult}
use Rattle.std.proofs.lemmas.Option.{same_Some, none-some}
use Rattle.al_core.specs.declared.values.Obj.{Obj}
use Rattle.al_core.specs.declared.values.Obj.TheVariants.{Global}
use Rattle.al_core.specs.declared.values.Val.{Val}
use Rattle.al_core.specs.declared.values.Val.TheVariants.{Int, Ptr}
use Rattle.al_source.specs.Steps.{and_then}
use Rattle.al_core.specs.declared.values.Trap.{Trap}
use Rattle.al_core.specs.World.{Pointer}
use Rattle.al_core.specs.Values.{truth, number, offset_at, element}
use Rattle.al_code.specs.Machine.{pointer_in}
use Rattle.al_values.specs.Packing.{number_of, offset_of, with_offset}

pub known_number : (v : Val) (n : ℤ) → Some n ≡ number_of v → Int n ≡ v
known_number (Int m) n h = ap Int (same_Some n m h)
known_number (Ptr o w) n h = absurd (none-some n (sym h))

pub known_pointer : (v : Val) → None ≡ number_of v → true ≡ truth v
known_pointer (Int m) h = absurd (none-some m h)
known_pointer (Ptr o w) h = refl

pub known_offset : (v : Val) (n : ℕ) → Some n ≡ offset_of v → n ≡ (pointer_in v).1
known_offset (Int m) n h = absurd (none-some n (sym h))
known_offset (Ptr o w) n h = same_Some n w h

pub known_no_offset : (v : Val) → None ≡ offset_of v → 0 ≡ (pointer_in v).1
known_no_offset (Int m) h = refl
known_no_offset (Ptr o w) h = absurd (none-some w h)

pub known_near : (v : Val) (n : ℕ) (c : Val) → Some c ≡ with_offset v n → c ≡ Ptr (pointer_in v).0 n
known_near (Int m) n c h = absurd (none-some c (sym h))
known_near (Ptr o w) n c h = same_Some c (Ptr o n) h

pub known_no_near : (v : Val) (n : ℕ) → None ≡ with_offset v n → Ptr (Global 0) n ≡ Ptr (pointer_in v).0 n
known_no_near (Int m) n h = refl
known_no_near (Ptr o w) n h = absurd (none-some (Ptr o n) h)

-- ---- elements

module _ (v : Val) (size : ℕ) where
  -- where the index is a number
  pub element_of : (i : Val) (n : ℤ) (r : Result Pointer Trap) → Ok n ≡ number i
      → offset_at (pointer_in v).0 (pos (pointer_in v).1 +ℤ (n *ℤ pos size)) ≡ r → element (pointer_in v) i size ≡ r
  unfolding element
  element_of i n r h e =
      ap (λ x. and_then x (λ n. offset_at (pointer_in v).0 (pos (pointer_in v).1 +ℤ (n *ℤ pos size)))) (sym h) ∙ e

  pub element_found : (i : Val) (n : ℤ) (at : ℕ) (r : Result ℕ Trap) → Ok n ≡ number i → at ≡ (pointer_in v).1
      → MatchResult r (λ w. (o : Obj) → offset_at o (pos at +ℤ (n *ℤ pos size)) ≡ Ok (o, w))
      (λ t. (o : Obj) → offset_at o (pos at +ℤ (n *ℤ pos size)) ≡ Err t)
      → MatchResult r (λ w. element (pointer_in v) i size ≡ Ok ((pointer_in v).0, w)) (λ t. element (pointer_in v) i size ≡ Err t)
  element_found i n at (Ok w) h e all =
      element_of i n (Ok ((pointer_in v).0, w)) h
      (ap (λ a. offset_at (pointer_in v).0 (pos a +ℤ (n *ℤ pos size))) (sym e) ∙ all (pointer_in v).0)
  element_found i n at (Err t) h e all =
      element_of i n (Err t) h (ap (λ a. offset_at (pointer_in v).0 (pos a +ℤ (n *ℤ pos size))) (sym e) ∙ all (pointer_in v).0)

  -- and where it is none
  pub element_of_none : (i : Val) (t : Trap) → Err t ≡ number i → element (pointer_in v) i size ≡ Err t
  unfolding element
  element_of_none i t h =
      ap (λ x. and_then x (λ n. offset_at (pointer_in v).0 (pos (pointer_in v).1 +ℤ (n *ℤ pos size)))) (sym h)
