use Rattle.std.proofs.Common.{◌≡◌, ◌≤◌, length, drop}
use Rattle.al_ast.specs.Nodes.{capped, exprs_nodes}
use Rattle.al_ast.proofs.count.+expressions.Given as goal

-- the count is that of the last ones
abbrev pub invariant-of_exprs-loop-left : goal.invariant-of_exprs-loop-left
invariant-of_exprs-loop-left l = (l.left ≤ length l.xs) × (l.count ≡ capped (exprs_nodes (drop l.left l.xs)))

abbrev pub decreases-of_exprs-loop-left : goal.decreases-of_exprs-loop-left
decreases-of_exprs-loop-left l = l.left
