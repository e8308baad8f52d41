use Rattle.std.proofs.Common.{◌≡◌, drop}
use Rattle.al_core.specs.Applied.{without_freed}
use Rattle.al_plain.proofs.commits.take_out.Given as goal

abbrev pub invariant-loop-o : goal.invariant-loop-o
invariant-loop-o l = without_freed (drop l.o-index l.freed) l.onto ≡ without_freed l.freed l.fn.onto
