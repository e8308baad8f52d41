use Rattle.std.proofs.Common.{◌≡◌, ◌+◌, ◌≤◌, length, drop}
use Rattle.al_code_laws.specs.Tree.{exprs_code}
use Rattle.al_lower.specs.Emits.{emits}
use Rattle.al_lower.proofs.expressions.+lowering.Given as goal

abbrev pub invariant-exprs-loop-left : goal.invariant-exprs-loop-left
invariant-exprs-loop-left l = (l.left ≤ length l.es) × (l.code ≡ emits (exprs_code (drop l.left l.es) l.line (l.height + l.left)) l.initial.code)

abbrev pub decreases-exprs-loop-left : goal.decreases-exprs-loop-left
decreases-exprs-loop-left l = l.left
