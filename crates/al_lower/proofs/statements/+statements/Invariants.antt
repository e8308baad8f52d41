use Rattle.std.proofs.Common.{◌≡◌, ◌≤◌, length, drop}
use Rattle.al_code_laws.specs.Tree.{stmts_code}
use Rattle.al_lower.specs.Emits.{emits}
use Rattle.al_lower.proofs.statements.+statements.Given as goal

abbrev pub invariant-stmts-loop-left : goal.invariant-stmts-loop-left
invariant-stmts-loop-left l = (l.left ≤ length l.ss) × (l.code ≡ emits (stmts_code (drop l.left l.ss) l.out l.cont) l.initial.code)

abbrev pub decreases-stmts-loop-left : goal.decreases-stmts-loop-left
decreases-stmts-loop-left l = l.left
