-- What a fault of a view is to the definitions: a trap, or for want of memory nothing.
use Rattle.std.specs.Prelude.{Option, Some, None}
use Rattle.al_core.specs.declared.view.ViewFault.{ViewFault}
use Rattle.al_core.specs.declared.view.ViewFault.TheVariants as fault
use Rattle.al_core.specs.World.{Trap}

abbrev pub trapped : ViewFault → Option Trap
trapped (fault.Trap t) = Some t
trapped fault.Memory = None
