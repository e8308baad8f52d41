-- Operands that are literal numbers.
use Rattle.std.specs.Prelude.{Option, Some, None, ℤ}
use Rattle.al_rules.specs.declared.operands.Operand.{Operand}
use Rattle.al_rules.specs.declared.operands.Operand.TheVariants.{Literal}

abbrev pub literal_of : Operand → Option ℤ
literal_of (Literal n) = Some n
literal_of _ = None
