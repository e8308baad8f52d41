use Rattle.std.proofs.Common.{◌≡◌, ℕ, ◌+◌, ◌-◌, length}
use Rattle.al_pages.specs.Tables.{list_at}
use Rattle.al_pages.proofs.executions.Executions.grow.Given as goal

abbrev pub invariant-tables : goal.invariant-tables
invariant-tables l = (i : ℕ) → list_at l.self-inside.tables.items i ≡ list_at l.initial.self-inside.tables.items i

abbrev pub decreases-tables : goal.decreases-tables
decreases-tables l = l.e + 1 - length l.self-inside.tables.items
