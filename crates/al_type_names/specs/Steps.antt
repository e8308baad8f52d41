-- What a fault without a line is to the definitions.
use Rattle.std.specs.Prelude.{Option, Some, None}
use Rattle.al_rules.specs.declared.faults.TypeKind.{TypeKind}
use Rattle.al_type_names.specs.declared.fault.Fault.{Fault}
use Rattle.al_type_names.specs.declared.fault.Fault.TheVariants.{Kind, Memory}

abbrev pub kind_of : Fault → Option TypeKind
kind_of (Kind kind) = Some kind
kind_of Memory = None
