-- Steps that commute two by two, where something holds that they keep, may be done in any order.
use Rattle.std.proofs.Common.{◌≡◌, ℕ, zero, suc, ◌<◌, List, [], ◌∷◌, length, get_or, set, swap, All, IsPermutation, refl, ap, ◌∙◌, arith, inl, inr}
use Rattle.std.proofs.lemmas.Bool.{cases_lt}
use Rattle.std.proofs.lemmas.List.Sorted.{IsPermutation-keeps, IsPermutation-swap, All-permutation}
use Rattle.std.proofs.lemmas.List.{set-set, set_comm, set-get_or}

module _ {X M : Type 0} (step : X → M → M) (Good : X → Type 0) (Fit : M → Type 0) (keeps : (a : X) → Good a → (n : M) → Fit n → Fit (step a n))
    (commute : (a b : X) → Good a → Good b → (n : M) → Fit n → step b (step a n) ≡ step a (step b n)) where
  abbrev pub steps : List X → M → M
  steps [] n = n
  steps (a ∷ l) n = steps l (step a n)

  first_of : (a : X) (l : List X) → All Good (a ∷ l) → Good a
  first_of a l h = h 0 a (omega arith)

  rest_of : (a : X) (l : List X) → All Good (a ∷ l) → All Good l
  rest_of a l h k d s = h (suc k) d (omega arith)

  -- a step takes the place of another one, which comes first
  replaced : (l : List X) (j : ℕ) (a d : X) (n : M) → j < length l → Good a → All Good l → Fit n
      → steps (set l j a) (step (get_or l j d) n) ≡ steps l (step a n)
  replaced [] j a d n s g h f = absurd (omega arith)
  replaced (b ∷ l) zero a d n s g h f = ap (steps l) (commute b a (first_of b l h) g n f)
  replaced (b ∷ l) (suc j) a d n s g h f =
      let more = rest_of b l h in
      ap (steps (set l j a)) (commute (get_or l j d) b (more j d (omega arith)) (first_of b l h) n f)
      ∙ replaced l j a d (step b n) (omega arith) g more (keeps b (first_of b l h) n f)
      ∙ ap (steps l) (commute b a (first_of b l h) g n f)

  exchanged : (l : List X) (i j : ℕ) (d : X) (n : M) → i < j → j < length l → All Good l → Fit n
      → steps (set (set l i (get_or l j d)) j (get_or l i d)) n ≡ steps l n
  exchanged [] i j d n s t h f = absurd (omega arith)
  exchanged (a ∷ l) i zero d n s t h f = absurd (omega arith)
  exchanged (a ∷ l) zero (suc j) d n s t h f = replaced l j a d n (omega arith) (first_of a l h) (rest_of a l h) f
  exchanged (a ∷ l) (suc i) (suc j) d n s t h f =
      exchanged l i j d (step a n) (omega arith) (omega arith) (rest_of a l h) (keeps a (first_of a l h) n f)

  swapped : (l : List X) (i j : ℕ) (n : M) → i < length l → j < length l → All Good l → Fit n → steps (swap l i j) n ≡ steps l n
  swapped [] i j n s t h f = refl
  swapped (a ∷ l) i j n s t h f =
      let l' = a ∷ l in
      let x = get_or l' i a in
      let y = get_or l' j a in
      elim (cases_lt i j) as (λ _. steps (swap l' i j) n ≡ steps l' n) [
        | inl less ↦ exchanged l' i j a n less t h f
        | inr past ↦ elim (cases_lt j i) as (λ _. steps (swap l' i j) n ≡ steps l' n) [
          | inl more ↦ ap (λ z. steps z n) (set_comm l' i j y x (λ e. absurd (omega (arith, e, more)))) ∙ exchanged l' j i a n more s h f
          | inr same ↦
              let e : j ≡ i = omega (arith, past, same) in
              ap (λ z. steps (set (set l' i (get_or l' z a)) z x) n) e
              ∙ ap (λ z. steps z n) (set-set l' i x x ∙ set-get_or l' i a)
        ]
      ]

  pub any_order : (l k : List X) → IsPermutation l k → All Good l → (n : M) → Fit n → steps k n ≡ steps l n
  any_order l k p h n f =
      (IsPermutation-keeps l (λ z. All Good z × (steps z n ≡ steps l n)) (h, refl) (λ z i j s t g. (
        All-permutation Good z (swap z i j) (IsPermutation-swap z (swap z i j) i j s t refl) g.0,
        swapped z i j n s t g.0 f ∙ g.1,
      )) k p).1
