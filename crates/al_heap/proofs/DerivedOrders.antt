-- The derived order of objects is that of the definitions.
use Rattle.std.proofs.Common.{◌≡◌, refl, rules}
use Rattle.std.specs.declared.cmp.Ordering.{Ordering}
use Rattle.al_core.specs.declared.values.Obj.{Obj}
use Rattle.al_core.specs.declared.values.Obj.TheVariants.{Global, Serial, Iter}
use Rattle.al_core.specs.contracts.values.ObjOrd.TheImpl as obj_ord
use Rattle.al_core.specs.Orders.{obj_cmp}

abbrev pub obj_derived : Obj → Obj → Ordering
obj_derived = obj_ord.cmp-value.it

by_object : (a b : Obj) → obj_derived a b ≡ obj_cmp a b
by_object (Global a) (Global b) = search rules
by_object (Global a) (Serial b) = refl
by_object (Global a) (Iter f j k) = refl
by_object (Serial a) (Global b) = refl
by_object (Serial a) (Serial b) = search rules
by_object (Serial a) (Iter f j k) = refl
by_object (Iter f j k) (Global b) = refl
by_object (Iter f j k) (Serial b) = refl
by_object (Iter e i h) (Iter f j k) = search rules

pub obj_order : obj_derived ≡ obj_cmp
obj_order = λ t a b. by_object a b t
