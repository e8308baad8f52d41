-- Answers that are taken out of pieces.
use Rattle.std.proofs.Common.{ℕ, zero, suc, List, [], ◌∷◌, map, sym, subst, refl}
use mathlib.Core.Option.{some-injective, some-ne-none}
use Rattle.al_board.specs.Fits.{AreFit}

-- each answer at its place is that of the piece there
pub taken_fit : {D A : Type 0} (answer : D → A) (fits : ℕ → A → Type 0) (ds : List D) → AreFit (λ k d. fits k (answer d)) ds
    → AreFit fits (map answer ds)
taken_fit {D} {A} answer fits [] h k a e = absurd (some-ne-none a (sym e))
taken_fit {D} {A} answer fits (d ∷ ds) h zero a e = subst (fits 0) (some-injective (answer d) a e) (h 0 d refl)
taken_fit {D} {A} answer fits (d ∷ ds) h (suc k) a e = taken_fit answer (λ n. fits (suc n)) ds (λ n x at. h (suc n) x at) k a e
