use Rattle.std.proofs.Common.{◌≡◌, ℕ, ◌+◌, ◌-◌, length}
use Rattle.al_sets.specs.Rows.{value_in_row}
use Rattle.al_sets.proofs.rows.put_at.Given as goal

abbrev pub invariant-values : goal.invariant-values
invariant-values l =
    (n : ℕ) → value_in_row l.values.items n ≡ value_in_row l.initial.values.items n

abbrev pub decreases-values : goal.decreases-values
decreases-values l = l.i + 1 - length l.values.items
