use Rattle.std.proofs.Common.{◌≡◌, ◌≤◌, length, drop}
use Rattle.al_ast.specs.Nodes.{capped, stmts_nodes}
use Rattle.al_ast.proofs.count.+statements.Given as goal

-- the count is that of the last ones
abbrev pub invariant-of_stmts-loop-left : goal.invariant-of_stmts-loop-left
invariant-of_stmts-loop-left l = (l.left ≤ length l.ss) × (l.count ≡ capped (stmts_nodes (drop l.left l.ss)))

abbrev pub decreases-of_stmts-loop-left : goal.decreases-of_stmts-loop-left
decreases-of_stmts-loop-left l = l.left
