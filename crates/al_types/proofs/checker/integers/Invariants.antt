use Rattle.std.proofs.Common.{◌≡◌, length}
use Rattle.al_rules.specs.Checks.{each}
use Rattle.al_rules.specs.Operands.{integer}
use Rattle.al_type_operands.proofs.Gathered.{behind}
use Rattle.al_types.proofs.checker.integers.Given as goal

abbrev pub invariant-loop-x : goal.invariant-loop-x
invariant-loop-x l = each integer l.fn.xs ≡ behind l.done (each integer l.xs)

abbrev pub decreases-loop-x : goal.decreases-loop-x
decreases-loop-x l = length l.xs
