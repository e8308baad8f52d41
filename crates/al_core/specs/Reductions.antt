-- The operators of reductions.
use Rattle.std.specs.Prelude.{ℤ, pos, negsuc}
use Rattle.std.specs.Int.{w64, int_wrapping_add, int_wrapping_mul, int_min, int_max, int_bit_and, int_bit_or, int_bit_xor}
use Rattle.al_source.specs.declared.operators.RedOp.{RedOp}
use Rattle.al_source.specs.declared.operators.RedOp.TheVariants.{Add, Mul, Min, Max, BitAnd, BitOr, BitXor}

-- what an accumulator starts at: with it every number stays as it is
abbrev pub red_identity : RedOp → ℤ
red_identity Add = pos 0
red_identity Mul = pos 1
red_identity Min = pos 9223372036854775807
red_identity Max = negsuc 9223372036854775807
red_identity BitAnd = negsuc 0
red_identity BitOr = pos 0
red_identity BitXor = pos 0

-- two numbers joined
abbrev pub red_apply : RedOp → ℤ → ℤ → ℤ
red_apply Add a b = int_wrapping_add w64 a b
red_apply Mul a b = int_wrapping_mul w64 a b
red_apply Min a b = int_min a b
red_apply Max a b = int_max a b
red_apply BitAnd a b = int_bit_and w64 a b
red_apply BitOr a b = int_bit_or w64 a b
red_apply BitXor a b = int_bit_xor w64 a b
