use Rattle.std.proofs.Common.{◌≡◌, drop}
use Rattle.al_rules.specs.Expressions.{operands}
use Rattle.al_rules.specs.Scopes.{in_scope}
use Rattle.al_type_operands.proofs.Gathered.{behind}
use Rattle.al_type_operands.proofs.expressions.+expressions.Given as goal

abbrev pub invariant-operands-loop-x : goal.invariant-operands-loop-x
invariant-operands-loop-x l =
    operands l.known (in_scope l.scope) l.xs ≡ behind l.done (operands l.known (in_scope l.scope) (drop l.x-index l.xs))
