use Rattle.std.proofs.Common.{◌≡◌, length}
use Rattle.al_rules.specs.Programs.{begun, with_params}
use Rattle.al_types.proofs.program.begun.Given as goal

abbrev pub invariant-loop-params : goal.invariant-loop-params
invariant-loop-params l = begun l.fn.params l.fn.loops.items ≡ with_params l.p l.params

abbrev pub decreases-loop-params : goal.decreases-loop-params
decreases-loop-params l = length l.params
