-- When two runs end alike.
use Rattle.std.specs.Prelude.{ℕ, ◌==◌, ◌&&◌, Bool, true, false}
use Rattle.al_core.specs.declared.reports.Ending.{Ending}
use Rattle.al_core.specs.declared.reports.Ending.TheVariants as ending
use Rattle.al_core.specs.declared.values.Trap.{Trap}
use Rattle.al_core.specs.declared.values.Trap.TheVariants as trap

-- traps, numbered
abbrev pub trap_number : Trap → ℕ
trap_number trap.Null = 0
trap_number trap.Missing = 1
trap_number trap.Bounds = 2
trap_number trap.Kind = 3
trap_number trap.Divide = 4
trap_number trap.Input = 5
trap_number trap.Trips = 6
trap_number trap.Steps = 7
trap_number trap.Alloc = 8
trap_number trap.Depth = 9
trap_number trap.BadFree = 10
trap_number trap.Freed = 11

-- both done, or both by one trap at one line
abbrev pub is_same_ending : Ending → Ending → Bool
is_same_ending ending.Done ending.Done = true
is_same_ending ending.Done (ending.Trap u n) = false
is_same_ending (ending.Trap t m) ending.Done = false
is_same_ending (ending.Trap t m) (ending.Trap u n) = trap_number t == trap_number u && m == n
