use Rattle.std.proofs.Common.{◌≡◌, ◌+◌, ◌≤◌, length}
use Rattle.al_ast.specs.Nodes.{capped, items_nodes}
use Rattle.al_ast.proofs.count.nodes.Given as goal

-- the count so far and what is left give the whole
abbrev pub invariant-loop-left : goal.invariant-loop-left
invariant-loop-left l = (l.count ≤ 18446744073709551615) × (capped (l.count + items_nodes l.left) ≡ capped (items_nodes l.initial.left))

abbrev pub decreases-loop-left : goal.decreases-loop-left
decreases-loop-left l = length l.left
