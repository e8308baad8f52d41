use Rattle.std.proofs.Common.{◌≡◌, ◌≤◌, ◌-◌, [], length}
use Rattle.al_sets.specs.Rows.{row_from}
use Rattle.al_sets.proofs.rows.from_the_start.Given as goal

abbrev pub invariant-zeros : goal.invariant-zeros
invariant-zeros l = (length l.all.items ≤ l.first) × (l.all.items ≡ row_from (length l.all.items) [])

abbrev pub decreases-zeros : goal.decreases-zeros
decreases-zeros l = l.first - length l.all.items
