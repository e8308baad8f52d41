-- How statements end, as the code has it.
use Rattle.std.specs.Prelude.{Result, Ok, Err}
use Rattle.al_core.specs.Meaning.{Flow, Next, Broke, Continued, Returned}
use Rattle.al_interpreter.specs.declared.fault.Fault.{Fault}
use Rattle.al_interpreter.specs.declared.flow.Flow.{Flow as Kept}
use Rattle.al_interpreter.specs.declared.flow.Flow.TheVariants as kept

abbrev pub flow_of : Kept → Flow
flow_of kept.Next = Next
flow_of kept.Broke = Broke
flow_of kept.Continued = Continued
flow_of (kept.Returned v) = Returned v

abbrev pub flowed : Result Kept Fault → Result Flow Fault
flowed (Ok f) = Ok (flow_of f)
flowed (Err e) = Err e
