-- What is said of each kind of type.
use Rattle.std.proofs.Common.{◌≡◌, ℕ, Bool, true, false, Some, None, sym, ap, ◌∙◌}
use Rattle.al_source.specs.declared.source_tree.CType.{CType, out-CType, roll-CType, map-CType, fold-CType, fold-roll-CType}
use Rattle.al_source.specs.declared.source_tree.CType.TheOpen.{CType-F}
use Rattle.al_source.specs.declared.source_tree.CType.TheVariants as t
use Rattle.al_core.specs.declared.values.Kind.TheVariants as kind
use Rattle.al_rules.specs.Names.{Name}
use Rattle.al_rules.specs.Types.{same_case, same_type, is_int_case, is_int, pointee_case, pointee, element_case, element, struct_case, struct_name, kind_case, kind_of, Form, Nothing, Scalar, Structure, pointer_form, array_form, form_case, form, known_case, are_known}

-- ---- one type

abbrev same_alg : CType-F (CType → Bool) → CType → Bool
same_alg a b = same_case a (out-CType b)

of_same : (x : CType-F CType) (c d : CType) → roll-CType x ≡ c → same_type c d ≡ same_case (map-CType CType (CType → Bool) same_type x) (out-CType d)
unfolding same_type
of_same x c d is = ap (λ c. fold-CType (CType → Bool) same_alg c d) (sym is) ∙ ap (λ (f : CType → Bool). f d) (fold-roll-CType (CType → Bool) same_alg x)

pub same-Int : (d : CType) → same_type t.Int d ≡ same_case CType-F.Int (out-CType d)
same-Int d = of_same CType-F.Int _ d t.rolls-Int

pub same-Void : (d : CType) → same_type t.Void d ≡ same_case CType-F.Void (out-CType d)
same-Void d = of_same CType-F.Void _ d t.rolls-Void

pub same-Struct : (name : Name) (d : CType) → same_type (t.Struct name) d ≡ same_case (CType-F.Struct name) (out-CType d)
same-Struct name d = of_same (CType-F.Struct name) _ d (t.rolls-Struct name)

pub same-Ptr : (a d : CType) → same_type (t.Ptr a) d ≡ same_case (CType-F.Ptr (same_type a)) (out-CType d)
same-Ptr a d = of_same (CType-F.Ptr a) _ d (t.rolls-Ptr a)

pub same-Array : (a : CType) (n : ℕ) (d : CType) → same_type (t.Array a n) d ≡ same_case (CType-F.Array (same_type a) n) (out-CType d)
same-Array a n d = of_same (CType-F.Array a n) _ d (t.rolls-Array a n)

-- ---- parts of a type

pub int-Int : is_int t.Int ≡ true
unfolding is_int
int-Int = ap is_int_case t.outs-Int

pub int-Void : is_int t.Void ≡ false
unfolding is_int
int-Void = ap is_int_case t.outs-Void

pub int-Struct : (name : Name) → is_int (t.Struct name) ≡ false
unfolding is_int
int-Struct name = ap is_int_case (t.outs-Struct name)

pub int-Ptr : (a : CType) → is_int (t.Ptr a) ≡ false
unfolding is_int
int-Ptr a = ap is_int_case (t.outs-Ptr a)

pub int-Array : (a : CType) (n : ℕ) → is_int (t.Array a n) ≡ false
unfolding is_int
int-Array a n = ap is_int_case (t.outs-Array a n)

pub pointee-Int : pointee t.Int ≡ None
unfolding pointee
pointee-Int = ap pointee_case t.outs-Int

pub pointee-Void : pointee t.Void ≡ None
unfolding pointee
pointee-Void = ap pointee_case t.outs-Void

pub pointee-Struct : (name : Name) → pointee (t.Struct name) ≡ None
unfolding pointee
pointee-Struct name = ap pointee_case (t.outs-Struct name)

pub pointee-Ptr : (a : CType) → pointee (t.Ptr a) ≡ Some a
unfolding pointee
pointee-Ptr a = ap pointee_case (t.outs-Ptr a)

pub pointee-Array : (a : CType) (n : ℕ) → pointee (t.Array a n) ≡ None
unfolding pointee
pointee-Array a n = ap pointee_case (t.outs-Array a n)

pub element-Int : element t.Int ≡ None
unfolding element
element-Int = ap element_case t.outs-Int

pub element-Void : element t.Void ≡ None
unfolding element
element-Void = ap element_case t.outs-Void

pub element-Struct : (name : Name) → element (t.Struct name) ≡ None
unfolding element
element-Struct name = ap element_case (t.outs-Struct name)

pub element-Ptr : (a : CType) → element (t.Ptr a) ≡ None
unfolding element
element-Ptr a = ap element_case (t.outs-Ptr a)

pub element-Array : (a : CType) (n : ℕ) → element (t.Array a n) ≡ Some a
unfolding element
element-Array a n = ap element_case (t.outs-Array a n)

pub name-Int : struct_name t.Int ≡ None
unfolding struct_name
name-Int = ap struct_case t.outs-Int

pub name-Void : struct_name t.Void ≡ None
unfolding struct_name
name-Void = ap struct_case t.outs-Void

pub name-Struct : (name : Name) → struct_name (t.Struct name) ≡ Some name
unfolding struct_name
name-Struct name = ap struct_case (t.outs-Struct name)

pub name-Ptr : (a : CType) → struct_name (t.Ptr a) ≡ None
unfolding struct_name
name-Ptr a = ap struct_case (t.outs-Ptr a)

pub name-Array : (a : CType) (n : ℕ) → struct_name (t.Array a n) ≡ None
unfolding struct_name
name-Array a n = ap struct_case (t.outs-Array a n)

pub kind-Int : kind_of t.Int ≡ Some kind.Int
unfolding kind_of
kind-Int = ap kind_case t.outs-Int

pub kind-Void : kind_of t.Void ≡ None
unfolding kind_of
kind-Void = ap kind_case t.outs-Void

pub kind-Struct : (name : Name) → kind_of (t.Struct name) ≡ None
unfolding kind_of
kind-Struct name = ap kind_case (t.outs-Struct name)

pub kind-Ptr : (a : CType) → kind_of (t.Ptr a) ≡ Some kind.Ptr
unfolding kind_of
kind-Ptr a = ap kind_case (t.outs-Ptr a)

pub kind-Array : (a : CType) (n : ℕ) → kind_of (t.Array a n) ≡ None
unfolding kind_of
kind-Array a n = ap kind_case (t.outs-Array a n)

-- ---- forms

of_form : (x : CType-F CType) (d : CType) → roll-CType x ≡ d → form d ≡ form_case (map-CType CType Form form x)
unfolding form
of_form x d is = ap (λ d. fold-CType Form form_case d) (sym is) ∙ fold-roll-CType Form form_case x

pub form-Int : form t.Int ≡ Scalar
form-Int = of_form CType-F.Int _ t.rolls-Int

pub form-Void : form t.Void ≡ Nothing
form-Void = of_form CType-F.Void _ t.rolls-Void

pub form-Struct : (name : Name) → form (t.Struct name) ≡ Structure
form-Struct name = of_form (CType-F.Struct name) _ (t.rolls-Struct name)

pub form-Ptr : (a : CType) → form (t.Ptr a) ≡ pointer_form (form a)
form-Ptr a = of_form (CType-F.Ptr a) _ (t.rolls-Ptr a)

pub form-Array : (a : CType) (n : ℕ) → form (t.Array a n) ≡ array_form n (form a)
form-Array a n = of_form (CType-F.Array a n) _ (t.rolls-Array a n)

-- ---- structs

module _ (earlier anywhere : Name → Bool) where
  of_known : (x : CType-F CType) (d : CType) → roll-CType x ≡ d
      → are_known earlier anywhere d ≡ known_case earlier anywhere (map-CType CType (Bool × Bool) (are_known earlier anywhere) x)
  unfolding are_known
  of_known x d is = ap (λ d. fold-CType (Bool × Bool) (known_case earlier anywhere) d) (sym is) ∙ fold-roll-CType (Bool × Bool) (known_case earlier anywhere) x

  pub known-Int : are_known earlier anywhere t.Int ≡ (true, true)
  known-Int = of_known CType-F.Int _ t.rolls-Int

  pub known-Void : are_known earlier anywhere t.Void ≡ (true, true)
  known-Void = of_known CType-F.Void _ t.rolls-Void

  pub known-Struct : (name : Name) → are_known earlier anywhere (t.Struct name) ≡ (earlier name, anywhere name)
  known-Struct name = of_known (CType-F.Struct name) _ (t.rolls-Struct name)

  pub known-Ptr : (a : CType) → are_known earlier anywhere (t.Ptr a) ≡ ((are_known earlier anywhere a).1, (are_known earlier anywhere a).1)
  known-Ptr a = of_known (CType-F.Ptr a) _ (t.rolls-Ptr a)

  pub known-Array : (a : CType) (n : ℕ) → are_known earlier anywhere (t.Array a n) ≡ are_known earlier anywhere a
  known-Array a n = of_known (CType-F.Array a n) _ (t.rolls-Array a n)

pub ruleset same_nodes = (same-Int, same-Void, same-Struct, same-Ptr, same-Array)

pub ruleset part_nodes = (
  int-Int,
  int-Void,
  int-Struct,
  int-Ptr,
  int-Array,
  pointee-Int,
  pointee-Void,
  pointee-Struct,
  pointee-Ptr,
  pointee-Array,
  element-Int,
  element-Void,
  element-Struct,
  element-Ptr,
  element-Array,
  name-Int,
  name-Void,
  name-Struct,
  name-Ptr,
  name-Array,
  kind-Int,
  kind-Void,
  kind-Struct,
  kind-Ptr,
  kind-Array,
)

pub ruleset form_nodes = (form-Int, form-Void, form-Struct, form-Ptr, form-Array)

pub ruleset known_nodes = (known-Int, known-Void, known-Struct, known-Ptr, known-Array)
