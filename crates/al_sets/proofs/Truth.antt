-- Tests that are true, and tests of lists.
use Rattle.std.proofs.Common.{◌≡◌, ℕ, zero, suc, ◌<◌, Bool, true, false, ◌&&◌, ◌||◌, List, [], ◌∷◌, length, map, flat_map, get_or, slice_set, refl, sym, ap, ◌∙◌, arith}
use Rattle.std.specs.Prelude.{Result, Ok, Err, OnErr}
use Rattle.std.specs.List.{list_any, insert}
use Rattle.std.proofs.Math.Bool.{true≢false}
use Rattle.std.proofs.lemmas.List.Folds.{list_any-append}

pub same_truth : (a b : Bool) → (a ≡ true → b ≡ true) → (b ≡ true → a ≡ true) → a ≡ b
same_truth true b h k = sym (h refl)
same_truth false true h k = k refl
same_truth false false h k = refl

pub left_true : (a b : Bool) → (a && b) ≡ true → a ≡ true
left_true true b h = refl
left_true false b h = h

pub right_true : (a b : Bool) → (a && b) ≡ true → b ≡ true
right_true true b h = h
right_true false b h = absurd (true≢false (sym h))

pub both_true : (a b : Bool) → a ≡ true → b ≡ true → (a && b) ≡ true
both_true a b h g = ap (λ c. c && b) h ∙ g

pub and_assoc : (a q r : Bool) → ((a && q) && r) ≡ (a && (q && r))
and_assoc true q r = refl
and_assoc false q r = refl

-- ---- whether some element passes a test

module _ {X : Type 0} (t : X → Bool) where
  or_assoc : (a b c : Bool) → (a || (b || c)) ≡ ((a || b) || c)
  or_assoc true b c = refl
  or_assoc false b c = refl

  or_swap : (a b c : Bool) → (a || (b || c)) ≡ (b || (a || c))
  or_swap true true c = refl
  or_swap true false c = refl
  or_swap false b c = refl

  -- one of the elements that pass
  pub one_of : (xs : List X) → list_any t xs ≡ true → (k : ℕ) × (k < length xs) × ((d : X) → t (get_or xs k d) ≡ true)
  one_of [] h = absurd (true≢false (sym h))
  one_of (x ∷ xs) h = elim (t x) as (λ b. t x ≡ b → (b || list_any t xs) ≡ true
      → (k : ℕ) × (k < length (x ∷ xs)) × ((d : X) → t (get_or (x ∷ xs) k d) ≡ true)) [
        | true ↦ λ e _. (0, omega arith, λ d. e)
        | false ↦ λ _ r. let o = one_of xs r in (suc o.0, omega (arith, o.1), o.2)
      ] refl h

  pub any_set : (xs : List X) (i : ℕ) (x d : X) (e : Bool) → i < length xs → t x ≡ (e || t (get_or xs i d))
      → list_any t (slice_set xs i x) ≡ (e || list_any t xs)
  any_set [] i x d e h g = absurd (omega arith)
  any_set (y ∷ xs) zero x d e h g = ap (λ b. b || list_any t xs) g ∙ sym (or_assoc e (t y) (list_any t xs))
  any_set (y ∷ xs) (suc i) x d e h g =
      ap (λ b. t y || b) (any_set xs i x d e (omega arith) g) ∙ or_swap (t y) e (list_any t xs)

  pub any_insert : (xs : List X) (i : ℕ) (x : X) → list_any t (insert xs i x) ≡ (t x || list_any t xs)
  any_insert xs zero x = refl
  any_insert [] (suc i) x = refl
  any_insert (y ∷ xs) (suc i) x = ap (λ b. t y || b) (any_insert xs i x) ∙ or_swap (t y) (t x) (list_any t xs)

pub any_map : {X Y : Type 0} (t : Y → Bool) (f : X → Y) (xs : List X) → list_any t (map f xs) ≡ list_any (λ x. t (f x)) xs
any_map t f [] = refl
any_map t f (x ∷ xs) = ap (λ b. t (f x) || b) (any_map t f xs)

pub any_flat : {X Y : Type 0} (t : Y → Bool) (f : X → List Y) (u : X → Bool) → ((x : X) → list_any t (f x) ≡ u x)
    → (xs : List X) → list_any t (flat_map f xs) ≡ list_any u xs
any_flat t f u e [] = refl
any_flat t f u e (x ∷ xs) = list_any-append t (f x) (flat_map f xs) ∙ (λ z. e x z || any_flat t f u e xs z)

-- what holds after any error
pub on_any_err : {A E : Type 0} (r : Result A E) (P : Type 0) → P → OnErr r P
on_any_err (Ok a) P h = tt
on_any_err (Err e) P h = h
