-- What the operators compute: integers of 64 bits that wrap.
use Rattle.std.specs.Prelude.{ℕ, Bool, if◌then◌else◌, Result, Ok, Err, ℤ, pos, int_lt, int_le, int_rem, unsigned_abs}
use Rattle.std.specs.Int.{w64, int_wrapping_add, int_wrapping_sub, int_wrapping_mul, int_wrapping_div, int_wrapping_neg, int_rem_euclid, int_bit_not, int_shl, int_shr, int_bit_and, int_bit_or, int_bit_xor}
use Rattle.std.specs.Ordering.{int_eq}
use Rattle.al_source.specs.declared.operators.BinOp.{BinOp}
use Rattle.al_source.specs.declared.operators.BinOp.TheVariants.{Add, Sub, Mul, Div, Rem, Shl, Shr, Lt, Le, Gt, Ge, Eq, Ne, BitAnd, BitXor, BitOr}
use Rattle.al_source.specs.declared.operators.UnOp.{UnOp}
use Rattle.al_source.specs.declared.operators.UnOp.TheVariants.{Neg, BitNot, Not}
use Rattle.al_core.specs.declared.values.Trap.{Trap}
use Rattle.al_core.specs.declared.values.Trap.TheVariants.{Divide}

-- 1 where a test holds, and else 0
abbrev pub truth_value : Bool → ℤ
truth_value b = if b then pos 1 else pos 0

-- a shift count is taken modulo 64
abbrev pub shift_count : ℤ → ℕ
shift_count b = unsigned_abs (int_rem_euclid b (pos 64))

-- a quotient, where the divisor is not 0
abbrev pub divided : ℤ → ℤ → Result ℤ Trap
divided b q = if int_eq b (pos 0) then Err Divide else Ok q

-- `/` truncates towards 0, and of the least number by -1 is that number again; `%` of them is 0
abbrev pub operated : BinOp → ℤ → ℤ → Result ℤ Trap
operated Add a b = Ok (int_wrapping_add w64 a b)
operated Sub a b = Ok (int_wrapping_sub w64 a b)
operated Mul a b = Ok (int_wrapping_mul w64 a b)
operated Div a b = divided b (int_wrapping_div w64 a b)
operated Rem a b = divided b (int_rem a b)
operated Shl a b = Ok (int_shl w64 a (shift_count b))
operated Shr a b = Ok (int_shr a (shift_count b))
operated Lt a b = Ok (truth_value (int_lt a b))
operated Le a b = Ok (truth_value (int_le a b))
operated Gt a b = Ok (truth_value (int_lt b a))
operated Ge a b = Ok (truth_value (int_le b a))
operated Eq a b = Ok (truth_value (int_eq a b))
operated Ne a b = Ok (if int_eq a b then pos 0 else pos 1)
operated BitAnd a b = Ok (int_bit_and w64 a b)
operated BitXor a b = Ok (int_bit_xor w64 a b)
operated BitOr a b = Ok (int_bit_or w64 a b)

-- `!` is 1 at 0, and else 0
abbrev pub unary : UnOp → ℤ → ℤ
unary Neg a = int_wrapping_neg w64 a
unary BitNot a = int_bit_not w64 a
unary Not a = truth_value (int_eq a (pos 0))
