-- What may be done with what an expression is.
use Rattle.std.specs.Prelude.{◌==◌, Bool, true, false, if◌then◌else◌, List, [], ◌∷◌, length, Option, Some, None, is_none, option_map, Ok, Err, pos}
use Rattle.std.specs.Ordering.{int_eq}
use Rattle.al_source.specs.declared.operators.UnOp.{UnOp}
use Rattle.al_source.specs.declared.operators.UnOp.TheVariants.{Neg, BitNot, Not}
use Rattle.al_source.specs.declared.operators.BinOp.{BinOp}
use Rattle.al_source.specs.declared.operators.BinOp.TheVariants.{Eq, Ne}
use Rattle.al_source.specs.declared.source_tree.CType.{CType, out-CType}
use Rattle.al_source.specs.declared.source_tree.CType.TheVariants as type
use Rattle.al_source.specs.declared.source_tree.CType.TheOpen.{CType-F}
use Rattle.al_source.specs.declared.source_tree.Field.{Field}
use Rattle.al_core.specs.declared.values.Kind.TheVariants as kind
use Rattle.al_core.specs.declared.typed_tree.TExpr.{TExpr}
use Rattle.al_core.specs.declared.typed_tree.TExpr.TheVariants as e
use Rattle.al_core.specs.declared.typed_tree.TPlace.{TPlace}
use Rattle.al_core.specs.declared.typed_tree.TPlace.TheVariants as p
use Rattle.al_rules.specs.declared.faults.TypeKind.TheVariants.{Unknown, Mismatch, NotPlace, LocalAddress, Count}
use Rattle.al_rules.specs.declared.operands.Operand.{Operand}
use Rattle.al_rules.specs.declared.operands.Operand.TheVariants.{Literal, Null, Value, Variable, Place}
use Rattle.al_rules.specs.declared.operands.Value.{Value as Used}
use Rattle.al_rules.specs.declared.operands.Value.TheVariants.{Int, Pointer, Useless}
use Rattle.al_rules.specs.Names.{Name}
use Rattle.al_rules.specs.Types.{same_type, element, struct_name}
use Rattle.al_rules.specs.Scopes.{Known, size, field_of, Callee, Function, Input, Inputs, Choose}
use Rattle.al_rules.specs.Scopes.{Variable as Named, Local as named_local, Global as named_global}
use Rattle.al_rules.specs.Checks.{Checked, ◌>>=◌, ◌>>◌, ensure, some_or, or_else}

-- ---- what an operand is where a value is wanted

abbrev pub typed_case : CType-F CType → TExpr → Used
typed_case CType-F.Int x = Int x
typed_case (CType-F.Ptr a) x = Pointer (Some a) x
typed_case _ x = Useless

-- A place is read. An array is a pointer to its first element, which is no array.
abbrev pub read_case : CType-F CType → TPlace → Used
read_case CType-F.Int q = Int (e.Load kind.Int q)
read_case (CType-F.Ptr a) q = Pointer (Some a) (e.Load kind.Ptr q)
read_case (CType-F.Array a length) q = if is_none (element a) then Pointer (Some a) (e.Addr q) else Useless
read_case _ q = Useless

unfoldable pub used : Operand → Used
used (Literal n) = Int (e.Number n)
used Null = Pointer None (e.Number (pos 0))
used (Value a x) = typed_case (out-CType a) x
used (Variable k a) = typed_case (out-CType a) (e.Local k)
used (Place a q) = read_case (out-CType a) q

-- ---- what is wanted

abbrev pub as_integer : Used → Checked TExpr
as_integer (Int x) = Ok x
as_integer _ = Err Mismatch

abbrev pub as_pointer : Used → Checked (Option CType × TExpr)
as_pointer (Pointer a x) = Ok (a, x)
as_pointer _ = Err Mismatch

abbrev pub as_scalar : Used → Checked TExpr
as_scalar (Int x) = Ok x
as_scalar (Pointer a x) = Ok x
as_scalar Useless = Err Mismatch

abbrev pub as_target : Used → Checked (CType × TExpr)
as_target (Pointer (Some a) x) = Ok (a, x)
as_target _ = Err Mismatch

-- an integer
unfoldable pub integer : Operand → Checked TExpr
integer x = as_integer (used x)

-- an integer or a pointer
unfoldable pub scalar : Operand → Checked TExpr
scalar x = as_scalar (used x)

-- a pointer to something, which is followed
unfoldable pub target : Operand → Checked (CType × TExpr)
target x = as_target (used x)

-- a pointer, which the literal 0 is too
unfoldable pub pointer : Operand → Checked (Option CType × TExpr)
pointer (Literal n) = if int_eq n (pos 0) then Ok (None, e.Number (pos 0)) else Err Mismatch
pointer x = as_pointer (used x)

abbrev pub fits : CType → Option CType → Bool
fits a None = true
fits a (Some b) = same_type a b

abbrev pub fitting_case : CType-F CType → Operand → Checked TExpr
fitting_case CType-F.Int x = integer x
fitting_case (CType-F.Ptr a) x = pointer x >>= (λ q. ensure (fits a q.0) Mismatch >> Ok q.1)
fitting_case _ x = Err Mismatch

-- a value of this type
unfoldable pub fitting : CType → Operand → Checked TExpr
fitting a x = fitting_case (out-CType a) x

-- ---- operators

abbrev pub number : TExpr → Operand
number x = Value type.Int x

-- `!` takes pointers too
unfoldable pub unary : UnOp → Operand → Checked Operand
unary Neg x = integer x >>= (λ a. Ok (number (e.Unary Neg a)))
unary BitNot x = integer x >>= (λ a. Ok (number (e.Unary BitNot a)))
unary Not x = scalar x >>= (λ a. Ok (number (e.Unary Not a)))

abbrev pub of_integers : BinOp → Operand → Operand → Checked Operand
of_integers op x y = integer x >>= (λ a. integer y >>= (λ b. Ok (number (e.Binary op a b))))

abbrev pub are_one_type : Option CType → Option CType → Bool
are_one_type (Some a) b = fits a b
are_one_type None b = true

abbrev pub of_pointers : Bool → Operand → Operand → Checked Operand
of_pointers equal x y =
    pointer x >>= (λ a. pointer y >>= (λ b.
    ensure (are_one_type a.0 b.0) Mismatch >> Ok (number (e.Same equal a.1 b.1))))

-- `==` and `!=` compare two integers, or two pointers of one type
unfoldable pub binary : BinOp → Operand → Operand → Checked Operand
binary Eq x y = or_else (of_integers Eq x y) (of_pointers true x y)
binary Ne x y = or_else (of_integers Ne x y) (of_pointers false x y)
binary op x y = of_integers op x y

-- `&&` and `||`
abbrev pub of_scalars : (TExpr → TExpr → TExpr) → Operand → Operand → Checked Operand
of_scalars join x y = scalar x >>= (λ a. scalar y >>= (λ b. Ok (number (join a b))))

-- ---- places

abbrev pub of_variable : Named → Operand
of_variable (named_local k a) = Variable k a
of_variable (named_global k a) = Place a (p.Global k)

-- the elements' type and the place of an operand that is an array
abbrev pub array_in : Operand → Option (CType × TPlace)
array_in (Place a q) = option_map (λ b. (b, q)) (element a)
array_in _ = None

abbrev pub element_place : Known → CType → TPlace → Operand → Checked Operand
element_place known a q i = integer i >>= (λ n. Ok (Place a (p.Elem q n (size known a))))

abbrev pub indexed_by : Known → Option (CType × TPlace) → Operand → Operand → Checked Operand
indexed_by known (Some a) x i = element_place known a.0 a.1 i
indexed_by known None x i = target x >>= (λ a. element_place known a.0 (p.At a.1) i)

-- an element of an array, or of what a pointer leads to
unfoldable pub indexed : Known → Operand → Operand → Checked Operand
indexed known x i = indexed_by known (array_in x) x i

abbrev pub field_place : Known → CType → TPlace → Name → Checked Operand
field_place known a q field =
    some_or (struct_name a) Mismatch >>= (λ name.
    some_or (field_of known name field) Unknown >>= (λ f. Ok (Place f.0 (p.Plus q f.1))))

-- a field of a place
unfoldable pub member : Known → Operand → Name → Checked Operand
member known (Place a q) field = field_place known a q field
member known _ field = Err Mismatch

-- a field of what a pointer leads to
unfoldable pub member_behind : Known → Operand → Name → Checked Operand
member_behind known x field = target x >>= (λ a. field_place known a.0 (p.At a.1) field)

unfoldable pub followed : Operand → Checked Operand
followed x = target x >>= (λ a. Ok (Place a.0 (p.At a.1)))

unfoldable pub address : Operand → Checked Operand
address (Place a q) = ensure (is_none (element a)) Mismatch >> Ok (Value (type.Ptr a) (e.Addr q))
address (Variable k a) = Err LocalAddress
address _ = Err NotPlace

-- ---- calls

-- each argument is of the type of its parameter, of which there are as many
abbrev pub fitting_all : List Field → List Operand → Checked (List TExpr)
fitting_all [] xs = Ok []
fitting_all (f ∷ fs) [] = Ok []
fitting_all (f ∷ fs) (x ∷ xs) = fitting f.ty x >>= (λ a. fitting_all fs xs >>= (λ as'. Ok (a ∷ as')))

-- the type and the term of a call
unfoldable pub called : Callee → List Operand → Checked (CType × TExpr)
called (Function k f) xs =
    ensure (length xs == length f.params) Count >> fitting_all f.params xs >>= (λ args. Ok (f.result, e.Call k args))
called Input (x ∷ []) = integer x >>= (λ a. Ok (type.Int, e.Input a))
called Input _ = Err Count
called Inputs [] = Ok (type.Int, e.Inputs)
called Inputs _ = Err Count
called (Choose op) (x ∷ y ∷ []) = integer x >>= (λ a. integer y >>= (λ b. Ok (type.Int, e.Choose op a b)))
called (Choose op) _ = Err Count

-- a statement that frees what a pointer leads to
unfoldable pub freed : List Operand → Checked TExpr
freed (x ∷ []) = pointer x >>= (λ a. Ok (e.Free a.1))
freed _ = Err Count
