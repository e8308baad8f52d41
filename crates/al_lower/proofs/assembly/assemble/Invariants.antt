use Rattle.std.proofs.Common.{◌≡◌, length}
use Rattle.al_lower.specs.Assembly.{assembled, no_parts}
use Rattle.al_lower.proofs.assembly.assemble.Given as goal

abbrev pub invariant-loop-planned : goal.invariant-loop-planned
invariant-loop-planned l = assembled l.total l.plan l.parts ≡ assembled l.total l.fn.plan no_parts

abbrev pub decreases-loop-planned : goal.decreases-loop-planned
decreases-loop-planned l = length l.plan
