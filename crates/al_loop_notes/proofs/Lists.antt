-- What is said of each part of a node's list is said of the list.
use Rattle.std.proofs.Common.{◌≡◌, ℕ, List, [], ◌∷◌, ◌++◌, map, refl, ap}
use Rattle.std.specs.Prelude.{Bool, ◌||◌, ◌&&◌}
use Rattle.std.specs.List.{list_any, list_all, flat_map}
use Rattle.al_core.specs.Accepted.{all_called}
use Rattle.al_rules.specs.Candidates.{all_of}

module _ {A : Type 0} (p : A → Bool) where
  pub any_each : (xs : List A) → list_any (λ b. b) (map p xs) ≡ list_any p xs
  any_each [] = refl
  any_each (x ∷ xs) = ap (λ b. p x || b) (any_each xs)

  pub all_each : (xs : List A) → list_all (λ b. b) (map p xs) ≡ list_all p xs
  all_each [] = refl
  all_each (x ∷ xs) = ap (λ b. p x && b) (all_each xs)

  pub all_paired : (xs : List A) → list_all {X = A × Bool} (λ s. s.1) (map (λ x. (x, p x)) xs) ≡ list_all p xs
  all_paired [] = refl
  all_paired (x ∷ xs) = ap (λ b. p x && b) (all_paired xs)

module _ {A : Type 0} where
  pub called_each : (f : A → List ℕ) (xs : List A) → all_called (map f xs) ≡ flat_map f xs
  called_each f [] = refl
  called_each f (x ∷ xs) = ap (λ l. f x ++ l) (called_each f xs)

module _ {A B : Type 0} where
  pub joined_each : (f : A → List B) (xs : List A) → all_of (map f xs) ≡ flat_map f xs
  joined_each f [] = refl
  joined_each f (x ∷ xs) = ap (λ l. f x ++ l) (joined_each f xs)

pub ruleset each = (any_each, all_each, called_each, joined_each)
