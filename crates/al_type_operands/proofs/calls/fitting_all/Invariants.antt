use Rattle.std.proofs.Common.{◌≡◌, drop}
use Rattle.al_rules.specs.Operands.{fitting_all}
use Rattle.al_type_operands.proofs.Gathered.{behind}
use Rattle.al_type_operands.proofs.calls.fitting_all.Given as goal

abbrev pub invariant-loop-param : goal.invariant-loop-param
invariant-loop-param l = fitting_all l.params l.fn.args ≡ behind l.done (fitting_all (drop l.param-index l.params) l.args)
