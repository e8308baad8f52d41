-- The derived orders of objects and addresses are those of the definitions.
use Rattle.std.proofs.Common.{◌≡◌, ℕ, refl, rules}
use Rattle.std.specs.declared.cmp.Ordering.{Ordering}
use Rattle.al_core.specs.declared.values.Obj.{Obj}
use Rattle.al_core.specs.declared.values.Obj.TheVariants.{Global, Serial, Iter}
use Rattle.al_core.specs.declared.values.Addr.{Addr}
use Rattle.al_core.specs.declared.values.Addr.TheVariants.{Word, Head, Local}
use Rattle.al_core.specs.contracts.values.ObjOrd.TheImpl as obj_ord
use Rattle.al_core.specs.contracts.values.AddrOrd.TheImpl as addr_ord
use Rattle.al_core.specs.Orders.{obj_cmp, addr_cmp}

abbrev pub obj_derived : Obj → Obj → Ordering
obj_derived = obj_ord.cmp-value.it

abbrev pub addr_derived : Addr → Addr → Ordering
addr_derived = addr_ord.cmp-value.it

by_object : (a b : Obj) → obj_derived a b ≡ obj_cmp a b
by_object (Global a) (Global b) = search rules
by_object (Global a) (Serial b) = refl
by_object (Global a) (Iter f j k) = refl
by_object (Serial a) (Global b) = refl
by_object (Serial a) (Serial b) = search rules
by_object (Serial a) (Iter f j k) = refl
by_object (Iter f j k) (Global b) = refl
by_object (Iter f j k) (Serial b) = refl
by_object (Iter e i h) (Iter f j k) = search rules

pub obj_order : obj_derived ≡ obj_cmp
obj_order = λ t a b. by_object a b t

by_word : (o p : Obj) (v w : ℕ) → addr_derived (Word o v) (Word p w) ≡ addr_cmp (Word o v) (Word p w)
by_word (Global a) (Global b) v w = search rules
by_word (Global a) (Serial b) v w = refl
by_word (Global a) (Iter f j k) v w = refl
by_word (Serial a) (Global b) v w = refl
by_word (Serial a) (Serial b) v w = search rules
by_word (Serial a) (Iter f j k) v w = refl
by_word (Iter f j k) (Global b) v w = refl
by_word (Iter f j k) (Serial b) v w = refl
by_word (Iter e i h) (Iter f j k) v w = search rules

by_head : (o p : Obj) → addr_derived (Head o) (Head p) ≡ addr_cmp (Head o) (Head p)
by_head (Global a) (Global b) = search rules
by_head (Global a) (Serial b) = refl
by_head (Global a) (Iter f j k) = refl
by_head (Serial a) (Global b) = refl
by_head (Serial a) (Serial b) = search rules
by_head (Serial a) (Iter f j k) = refl
by_head (Iter f j k) (Global b) = refl
by_head (Iter f j k) (Serial b) = refl
by_head (Iter e i h) (Iter f j k) = search rules

by_address : (a b : Addr) → addr_derived a b ≡ addr_cmp a b
by_address (Word o v) (Word p w) = by_word o p v w
by_address (Word o v) (Head p) = refl
by_address (Word o v) (Local k) = refl
by_address (Head o) (Word p w) = refl
by_address (Head o) (Head p) = by_head o p
by_address (Head o) (Local k) = refl
by_address (Local k) (Word p w) = refl
by_address (Local k) (Head p) = refl
by_address (Local k) (Local l) = search rules

pub addr_order : addr_derived ≡ addr_cmp
addr_order = λ t a b. by_address a b t
