use Rattle.std.proofs.Common.{◌≡◌, length, sum}
use Rattle.al_rules.specs.Layouts.{no_layout, laid_out}
use Rattle.al_layout.proofs.items.layout.Given as goal

abbrev pub invariant-loop-items : goal.invariant-loop-items
invariant-loop-items l = (laid_out no_layout l.program.items ≡ laid_out l.done l.items) × (l.total ≡ sum l.done.globals)

abbrev pub decreases-loop-items : goal.decreases-loop-items
decreases-loop-items l = length l.items
