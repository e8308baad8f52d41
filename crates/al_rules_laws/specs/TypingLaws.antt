-- The typing rules and the walk agree.
use Rattle.std.specs.Prelude.{◌≡◌, None}
use Rattle.al_source.specs.declared.source_tree.Program.{Program}
use Rattle.al_rules.specs.Layouts.{layout_fault}
use Rattle.al_rules.specs.Programs.{type_fault}
use Rattle.al_rules.specs.ProgramRules.{WellTyped}

-- a program with neither a layout fault nor a type fault
pub record IsFaultless (p : Program) : Type 0 where
  pub laid_out : layout_fault p ≡ None
  pub is_typed : type_fault p ≡ None

abbrev pub FaultlessIsWellTyped : Type 0
FaultlessIsWellTyped = (p : Program) → IsFaultless p → WellTyped p

abbrev pub WellTypedIsFaultless : Type 0
WellTypedIsFaultless = (p : Program) → WellTyped p → IsFaultless p
