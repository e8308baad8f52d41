-- What a step of `gather` keeps.
use Rattle.std.proofs.Common.{◌≡◌, ℕ, ◌+◌, ◌<◌, ◌≤◌, Bool, true, false, List, [], ◌∷◌, ◌++◌, length, get_or, set, sym, ap, ◌∙◌, subst, ⊎_elim, arith, get_or-set_same, get_or-set_other}
use mathlib.Core.Option.{some}
use native.Mathlib.Decide.{ℕ_discrete}
use lib.ListN.{get_elem?}
use Rattle.al_board.specs.declared.view.Slot.{Slot}
use Rattle.al_board.specs.declared.view.Slot.TheVariants.{Piece}
use Rattle.al_count.proofs.Totals.{at_end}

pub gathered : {T H : Type 0} (xs : List T) (items : List (Slot T H)) (n : ℕ) (p : T) → length xs ≡ n → get_elem? items n ≡ some (Piece p)
    → ((k : ℕ) (q : T) → get_elem? xs k ≡ some q → get_elem? items k ≡ some (Piece q)) → (k : ℕ) (q : T) → get_elem? (xs ++ p ∷ []) k ≡ some q
    → get_elem? items k ≡ some (Piece q)
gathered {T} {H} xs items n p len here before k q e =
    ⊎_elim
    (λ was. before k q was)
    (λ (t : (k ≡ length xs) × (p ≡ q)). ap (get_elem? items) (t.0 ∙ len) ∙ here ∙ ap (λ (z : T). some (Piece z)) t.1)
    (at_end xs p q k e)

pub emptied : (fs : List Bool) (n : ℕ) → n < length fs → ((k : ℕ) → k < n → get_or fs k false ≡ false) → (k : ℕ) → k < n + 1
    → get_or (set fs n false) k false ≡ false
emptied fs n here before k lt = go (ℕ_discrete k n)
  where
    go : Dec (k ≡ n) → get_or (set fs n false) k false ≡ false
    go (yes e) = subst (λ (z : ℕ). get_or (set fs n false) z false ≡ false) (sym e) (get_or-set_same {A = Bool} fs n false false here)
    go (no ne) = get_or-set_other {A = Bool} fs n k false false ne ∙ before k (omega arith)

pub still_filled : (fs : List Bool) (n m : ℕ) → ((k : ℕ) → n ≤ k → k < m → get_or fs k false ≡ true) → (k : ℕ) → n + 1 ≤ k → k < m
    → get_or (set fs n false) k false ≡ true
still_filled fs n m before k lo hi = get_or-set_other {A = Bool} fs n k false false (λ e. omega arith) ∙ before k (omega arith) hi

-- the last of n + 1 filled slots is emptied
pub last_emptied : (fs : List Bool) (len n : ℕ) → len ≡ n + 1 → len ≡ length fs → ((k : ℕ) → 0 ≤ k → k < len → get_or fs k false ≡ true)
    → ((k : ℕ) → 0 ≤ k → k < n → get_or (set fs n false) k false ≡ true) × (get_or (set fs n false) n false ≡ false)
last_emptied fs len n e l before = (
  (λ k lo hi. get_or-set_other {A = Bool} fs n k false false (λ h. omega arith) ∙ before k lo (omega arith)),
  get_or-set_same {A = Bool} fs n false false (omega arith),
)
