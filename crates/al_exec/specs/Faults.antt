-- What a fault is to the definitions: a trap with its line, or for want of memory nothing.
use Rattle.std.specs.Prelude.{ℕ, Option, Some, None}
use Rattle.al_core.specs.declared.values.Trap.{Trap}
use Rattle.al_exec.specs.declared.fault.Fault.{Fault}
use Rattle.al_exec.specs.declared.fault.Fault.TheVariants as fault

abbrev pub stopped : Fault → Option (Trap × ℕ)
stopped (fault.Trap t line) = Some (t, line)
stopped fault.Memory = None
