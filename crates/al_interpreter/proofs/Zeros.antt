-- A list with more and more of one value.
use Rattle.std.proofs.Common.{◌≡◌, ℕ, ◌+◌, List, [], ◌∷◌, ◌++◌, sym, ap, ◌∙◌, append_assoc, append-nil}
use Rattle.std.specs.Prelude.{replicate}
use Rattle.std.proofs.lemmas.List.{replicate-append-replicate}

pub one_zero_more : {X : Type 0} (xs ys zs : List X) (n : ℕ) (x : X) → ys ≡ xs ++ replicate n x → zs ≡ ys ++ x ∷ [] → zs ≡ xs ++ replicate (n + 1) x
one_zero_more xs ys zs n x so is =
    is ∙ ap (λ l. l ++ x ∷ []) so ∙ append_assoc xs (replicate n x) (x ∷ []) ∙ ap (λ l. xs ++ l) (replicate-append-replicate n 1 x)

pub no_zero : {X : Type 0} (xs : List X) (x : X) → xs ≡ xs ++ replicate 0 x
no_zero xs x = sym (append-nil xs)
