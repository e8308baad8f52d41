-- The orders of objects and addresses, by the numbers that name them.
use Rattle.std.specs.Prelude.{ℕ, Bool, List, [], ◌∷◌, ◌++◌}
use Rattle.std.specs.declared.cmp.Ordering.{Ordering}
use Rattle.std.specs.Ordering.{nat_cmp, on, eq_by_cmp}
use Rattle.std.specs.Cmp.Lexicographic.{slice_cmp}
use Rattle.al_core.specs.declared.values.Obj.{Obj}
use Rattle.al_core.specs.declared.values.Obj.TheVariants.{Global, Serial, Iter}
use Rattle.al_core.specs.declared.values.Addr.{Addr}
use Rattle.al_core.specs.declared.values.Addr.TheVariants.{Word, Head, Local}

abbrev pub obj_numbers : Obj → List ℕ
obj_numbers (Global k) = 0 ∷ k ∷ []
obj_numbers (Serial k) = 1 ∷ k ∷ []
obj_numbers (Iter e j k) = 2 ∷ e ∷ j ∷ k ∷ []

abbrev pub obj_cmp : Obj → Obj → Ordering
obj_cmp = on obj_numbers (slice_cmp nat_cmp)

abbrev pub obj_eq : Obj → Obj → Bool
obj_eq = eq_by_cmp obj_cmp

abbrev pub addr_numbers : Addr → List ℕ
addr_numbers (Word o w) = 0 ∷ (obj_numbers o ++ w ∷ [])
addr_numbers (Head o) = 1 ∷ obj_numbers o
addr_numbers (Local k) = 2 ∷ k ∷ []

abbrev pub addr_cmp : Addr → Addr → Ordering
addr_cmp = on addr_numbers (slice_cmp nat_cmp)

abbrev pub addr_eq : Addr → Addr → Bool
addr_eq = eq_by_cmp addr_cmp
