-- Elements from a place on.
use Rattle.std.specs.Prelude.{Option, Some, None, Ok}
use Rattle.al_source.specs.declared.source_tree.CType.{CType}
use Rattle.al_core.specs.declared.typed_tree.TPlace.{TPlace}
use Rattle.al_core.specs.declared.typed_tree.TPlace.TheVariants as p
use Rattle.al_rules.specs.declared.operands.Operand.{Operand}
use Rattle.al_rules.specs.Checks.{Checked, ◌>>=◌}
use Rattle.al_rules.specs.Operands.{array_in, target}

abbrev pub base_by : Option (CType × TPlace) → Operand → Checked (CType × TPlace)
base_by (Some a) x = Ok a
base_by None x = target x >>= (λ a. Ok (a.0, p.At a.1))

-- the elements' type and the first of them: of an array, or of what a pointer leads to
abbrev pub base_of : Operand → Checked (CType × TPlace)
base_of x = base_by (array_in x) x
