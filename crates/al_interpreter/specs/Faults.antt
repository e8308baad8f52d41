-- What a fault is to the definitions: a trap with its line, or for want of memory nothing.
use Rattle.std.specs.Prelude.{ℕ, Option, Some, None, Result, Ok, Err}
use Rattle.al_core.specs.declared.view.ViewFault.{ViewFault}
use Rattle.al_core.specs.declared.view.ViewFault.TheVariants as view_fault
use Rattle.al_core.specs.declared.values.Trap.{Trap}
use Rattle.al_interpreter.specs.declared.fault.Fault.{Fault}
use Rattle.al_interpreter.specs.declared.fault.Fault.TheVariants as fault

abbrev pub stopped : Fault → Option (Trap × ℕ)
stopped (fault.Trap t line) = Some (t, line)
stopped fault.Memory = None

-- an answer of a world's operation, with its line
abbrev pub lined : {A : Type 0} → ℕ → Result A ViewFault → Result A Fault
lined line (Ok a) = Ok a
lined line (Err (view_fault.Trap t)) = Err (fault.Trap t line)
lined line (Err view_fault.Memory) = Err fault.Memory
