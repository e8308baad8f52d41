-- Lists in which nothing stands twice.
use Rattle.std.specs.Prelude.{Bool, true, not, ◌&&◌, List, [], ◌∷◌}
use Rattle.std.specs.List.{list_all}

-- whether no element is equal to a later one
abbrev pub are_distinct : {X : Type 0} → (X → X → Bool) → List X → Bool
are_distinct eq [] = true
are_distinct eq (x ∷ xs) = list_all (λ y. not (eq x y)) xs && are_distinct eq xs
