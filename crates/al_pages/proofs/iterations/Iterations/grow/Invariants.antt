use Rattle.std.proofs.Common.{◌≡◌, ℕ, ◌+◌, ◌-◌, length}
use Rattle.al_pages.specs.Tables.{list_at}
use Rattle.al_pages.proofs.iterations.Iterations.grow.Given as goal

abbrev pub invariant-rows : goal.invariant-rows
invariant-rows l = (i : ℕ) → list_at l.self-inside.rows.items i ≡ list_at l.initial.self-inside.rows.items i

abbrev pub decreases-rows : goal.decreases-rows
decreases-rows l = l.j + 1 - length l.self-inside.rows.items
