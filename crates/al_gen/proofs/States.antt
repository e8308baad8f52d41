-- Lemmas on the generator's states.
use Rattle.std.proofs.Common.{◌≡◌, ℕ, ◌+◌, [], ◌∷◌, ◌++◌, add-one, refl, arith}
use Rattle.std.proofs.lemmas.List.FromFn.{map-range_with_len_more}
use Rattle.al_gen.specs.Generated.{next, state, number, input}

pub state_more : (start k : ℕ) → state start (k + 1) ≡ next (state start k)
state_more start k = rw add-one refl

pub input_more : (start k : ℕ) → input start (k + 1) ≡ input start k ++ number start k ∷ []
input_more start k = map-range_with_len_more (number start) 0 k k (omega arith)
