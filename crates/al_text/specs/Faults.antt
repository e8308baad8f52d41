-- What a fault of an input is to the definitions: a cause, but for want of memory.
use Rattle.std.specs.Prelude.{Option, Some, None}
use Rattle.al_text.specs.declared.faults.InputFault.{InputFault}
use Rattle.al_text.specs.declared.faults.InputFault.TheVariants as fault
use Rattle.al_text.specs.declared.faults.InputCause.{InputCause}
use Rattle.al_text.specs.declared.faults.InputCause.TheVariants as cause

abbrev pub told : InputFault → Option InputCause
told fault.TooLong = Some cause.TooLong
told (fault.NotNumber line) = Some (cause.NotNumber line)
told (fault.OutOfRange line) = Some (cause.OutOfRange line)
told fault.TooMany = Some cause.TooMany
told fault.Memory = None
