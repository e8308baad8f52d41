-- The numbers that are printed.
use Rattle.std.specs.Prelude.{List, map, ℤ, pos}
use Rattle.al_core.specs.declared.values.Val.{Val}
use Rattle.al_core.specs.declared.values.Val.TheVariants.{Int, Ptr}

abbrev pub int_in : Val → ℤ
int_in (Int n) = n
int_in (Ptr o w) = pos 0

abbrev pub ints : List Val → List ℤ
ints vs = map int_in vs
