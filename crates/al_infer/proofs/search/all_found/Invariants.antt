use Rattle.std.proofs.Common.{◌≡◌, Ok, map, take}
use Rattle.al_infer.proofs.search.all_found.Given as goal

abbrev pub invariant-loop-row : goal.invariant-loop-row
invariant-loop-row l = take l.row-index l.rows ≡ map (λ f. Ok f) l.all.items
