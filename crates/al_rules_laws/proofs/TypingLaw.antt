-- The typing rules and the walk agree.
use Rattle.std.proofs.Common.{ap}
use Rattle.al_rules.specs.Layouts.{fault_of, layout_of}
use Rattle.al_rules.specs.Programs.{typed_of}
use Rattle.al_rules_laws.specs.TypingLaws.{FaultlessIsWellTyped, WellTypedIsFaultless}
use Rattle.al_rules_laws.proofs.ProgramsSound.{no_fault, well_typed}
use Rattle.al_rules_laws.proofs.ProgramsComplete.{layout_there, typed_there}

pub faultless_is_well_typed : FaultlessIsWellTyped
faultless_is_well_typed p h =
    let l = no_fault (layout_of p) h.laid_out in
    let q = no_fault (typed_of p) h.is_typed in
    well_typed p l.0 q.0 l.1 q.1

pub well_typed_is_faultless : WellTypedIsFaultless
well_typed_is_faultless p d =
    let q = typed_there p d in
    record { laid_out = ap fault_of (layout_there p d); is_typed = ap fault_of q.1 }
