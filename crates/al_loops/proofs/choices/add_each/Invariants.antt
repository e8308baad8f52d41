use Rattle.std.proofs.Common.{◌≡◌, ◌∷◌, [], ◌++◌, map, take}
use Rattle.std.specs.List.{flat_map}
use Rattle.al_rules.specs.Candidates.{with_reductions}
use Rattle.al_loops.proofs.choices.add_each.Given as goal

abbrev pub invariant-loop-r : goal.invariant-loop-r
invariant-loop-r l = l.list ≡ l.fn.list ++ flat_map with_reductions (map (λ r. r ∷ []) (take l.r-index l.reds))
