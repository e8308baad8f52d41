-- Types: which are one, where each may stand, and what is known of structs.
use Rattle.std.specs.Prelude.{ℕ, zero, suc, ◌==◌, Bool, true, false, ◌&&◌, Option, Some, None}
use Rattle.std.specs.Str.{bytes_eq}
use Rattle.al_source.specs.declared.source_tree.CType.{CType, fold-CType, out-CType}
use Rattle.al_source.specs.declared.source_tree.CType.TheOpen.{CType-F}
use Rattle.al_core.specs.declared.values.Kind.{Kind}
use Rattle.al_core.specs.declared.values.Kind.TheVariants as kind
use Rattle.al_rules.specs.declared.faults.TypeKind.TheVariants.{Unknown, Shape}
use Rattle.al_rules.specs.Names.{Name}
use Rattle.al_rules.specs.Checks.{Checked, ensure, ◌>>◌}

-- ---- one type

abbrev pub same_case : CType-F (CType → Bool) → CType-F CType → Bool
same_case CType-F.Int CType-F.Int = true
same_case CType-F.Void CType-F.Void = true
same_case (CType-F.Struct a) (CType-F.Struct b) = bytes_eq a b
same_case (CType-F.Ptr same) (CType-F.Ptr b) = same b
same_case (CType-F.Array same m) (CType-F.Array b n) = same b && (m == n)
same_case _ _ = false

unfoldable pub same_type : CType → CType → Bool
same_type = fold-CType (CType → Bool) (λ a b. same_case a (out-CType b))

-- ---- parts of a type

abbrev pub is_int_case : CType-F CType → Bool
is_int_case CType-F.Int = true
is_int_case _ = false

unfoldable pub is_int : CType → Bool
is_int a = is_int_case (out-CType a)

-- what a pointer leads to
abbrev pub pointee_case : CType-F CType → Option CType
pointee_case (CType-F.Ptr a) = Some a
pointee_case _ = None

unfoldable pub pointee : CType → Option CType
pointee a = pointee_case (out-CType a)

-- what an array has
abbrev pub element_case : CType-F CType → Option CType
element_case (CType-F.Array a length) = Some a
element_case _ = None

unfoldable pub element : CType → Option CType
element a = element_case (out-CType a)

abbrev pub struct_case : CType-F CType → Option Name
struct_case (CType-F.Struct name) = Some name
struct_case _ = None

unfoldable pub struct_name : CType → Option Name
struct_name a = struct_case (out-CType a)

abbrev pub kind_case : CType-F CType → Option Kind
kind_case CType-F.Int = Some kind.Int
kind_case (CType-F.Ptr a) = Some kind.Ptr
kind_case _ = None

-- what a word of this type is read as
unfoldable pub kind_of : CType → Option Kind
kind_of a = kind_case (out-CType a)

-- ---- where a type may stand

-- `void`; an integer or a pointer; a struct; an array; or what no declaration has: a pointer to `void` or to an
-- array, an array of `void` or of no elements
pub data Form : Type 0 where
  Nothing : Form
  Scalar : Form
  Structure : Form
  Sequence : Form
  Malformed : Form

abbrev pub pointer_form : Form → Form
pointer_form Scalar = Scalar
pointer_form Structure = Scalar
pointer_form _ = Malformed

abbrev pub array_form : ℕ → Form → Form
array_form zero _ = Malformed
array_form (suc n) Scalar = Sequence
array_form (suc n) Structure = Sequence
array_form (suc n) Sequence = Sequence
array_form (suc n) _ = Malformed

abbrev pub form_case : CType-F Form → Form
form_case CType-F.Int = Scalar
form_case CType-F.Void = Nothing
form_case (CType-F.Struct name) = Structure
form_case (CType-F.Ptr form) = pointer_form form
form_case (CType-F.Array form length) = array_form length form

unfoldable pub form : CType → Form
form = fold-CType Form form_case

-- a field or a global
abbrev pub is_held : Form → Bool
is_held Scalar = true
is_held Structure = true
is_held Sequence = true
is_held _ = false

-- a local or a parameter
abbrev pub is_scalar : Form → Bool
is_scalar Scalar = true
is_scalar _ = false

-- what a function gives
abbrev pub is_result : Form → Bool
is_result Scalar = true
is_result Nothing = true
is_result _ = false

-- what `sizeof` and `calloc` take
abbrev pub is_sized : Form → Bool
is_sized Scalar = true
is_sized Structure = true
is_sized _ = false

-- ---- structs

-- whether a type's structs are known: by value by the first test, and behind a pointer by the second
abbrev pub known_case : (Name → Bool) → (Name → Bool) → CType-F (Bool × Bool) → Bool × Bool
known_case earlier anywhere CType-F.Int = (true, true)
known_case earlier anywhere CType-F.Void = (true, true)
known_case earlier anywhere (CType-F.Struct name) = (earlier name, anywhere name)
known_case earlier anywhere (CType-F.Ptr known) = (known.1, known.1)
known_case earlier anywhere (CType-F.Array known length) = known

unfoldable pub are_known : (Name → Bool) → (Name → Bool) → CType → Bool × Bool
are_known earlier anywhere = fold-CType (Bool × Bool) (known_case earlier anywhere)

-- a type that stands where only some forms may
abbrev pub type_checked : (Name → Bool) → (Name → Bool) → (Form → Bool) → CType → Checked (Unit {0})
type_checked earlier anywhere allowed a =
    ensure (are_known earlier anywhere a).0 Unknown >> ensure (allowed (form a)) Shape
