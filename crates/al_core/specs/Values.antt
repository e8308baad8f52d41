-- What is computed of values, with no state.
use Rattle.std.specs.Prelude.{ℕ, ◌+◌, ◌*◌, ◌^◌, Bool, true, false, not, ◌&&◌, if◌then◌else◌, ◌==◌, nat_lt, List, [], ◌∷◌, ◌++◌, Option, Some, None, Result, Ok, Err, slice_get, ℤ, pos, negsuc, ◌+ℤ◌, ◌-ℤ◌, ◌*ℤ◌}
use Rattle.std.specs.Ordering.{int_eq}
use Rattle.std.specs.Fmt.{signed_decimal}
use Rattle.al_source.specs.Steps.{and_then}
use Rattle.al_source.specs.declared.limits.TheConstants.{LOOP_TRIPS}
use Rattle.al_source.specs.declared.operators.BinOp.{BinOp}
use Rattle.al_source.specs.declared.operators.UnOp.{UnOp}
use Rattle.al_source.specs.declared.operators.UnOp.TheVariants.{Neg, BitNot, Not}
use Rattle.al_source.specs.declared.operators.RedOp.{RedOp}
use Rattle.al_source.specs.declared.texts.Piece.{Piece}
use Rattle.al_source.specs.declared.texts.Piece.TheVariants as piece
use Rattle.al_core.specs.declared.values.Val.TheVariants.{Int, Ptr}
use Rattle.al_core.specs.declared.values.Kind.TheVariants as kind
use Rattle.al_core.specs.declared.values.Trap.TheVariants as trap
use Rattle.al_core.specs.Arithmetic.{truth_value, operated, unary}
use Rattle.al_core.specs.Reductions.{red_apply}
use Rattle.al_core.specs.Orders.{obj_eq}
use Rattle.al_core.specs.World.{Obj, Val, Kind, Trap, Pointer}

-- a condition holds where its value is neither 0 nor null
abbrev pub truth : Val → Bool
truth (Int n) = not (int_eq n (pos 0))
truth (Ptr o w) = true

abbrev pub of_test : Bool → Val
of_test b = Int (truth_value b)

abbrev pub number : Val → Result ℤ Trap
number (Int n) = Ok n
number (Ptr o w) = Err trap.Kind

abbrev pub numbers : List Val → Result (List ℤ) Trap
numbers [] = Ok []
numbers (v ∷ vs) = and_then (number v) (λ n. and_then (numbers vs) (λ ns. Ok (n ∷ ns)))

-- a binary operator of two numbers
unfoldable pub operate : BinOp → Val → Val → Result Val Trap
operate op a b = and_then (number a) (λ x. and_then (number b) (λ y. and_then (operated op x y) (λ z. Ok (Int z))))

-- `!` takes pointers too
unfoldable pub operate_one : UnOp → Val → Result Val Trap
operate_one Neg a = and_then (number a) (λ x. Ok (Int (unary Neg x)))
operate_one BitNot a = and_then (number a) (λ x. Ok (Int (unary BitNot x)))
operate_one Not a = Ok (of_test (not (truth a)))

-- the built-in `min` and `max`
unfoldable pub choose : RedOp → Val → Val → Result Val Trap
choose op a b = and_then (number a) (λ x. and_then (number b) (λ y. Ok (Int (red_apply op x y))))

-- pointers are equal where they lead to the same offset of the same object, or are both null
abbrev pub same : Val → Val → Bool
same (Int a) (Int b) = int_eq a b
same (Ptr o v) (Ptr p w) = obj_eq o p && (v == w)
same _ _ = false

-- whether two pointers are equal, or whether they differ
unfoldable pub compare : Bool → Val → Val → Val
compare true a b = of_test (same a b)
compare false a b = of_test (not (same a b))

-- a value that is read as an integer is a number, and one that is read as a pointer is a pointer or null
abbrev pub of_kind : Kind → Val → Result Val Trap
of_kind kind.Int (Int n) = Ok (Int n)
of_kind kind.Int (Ptr o w) = Err trap.Kind
of_kind kind.Ptr (Int n) = if int_eq n (pos 0) then Ok (Int n) else Err trap.Kind
of_kind kind.Ptr (Ptr o w) = Ok (Ptr o w)

-- where a pointer leads
abbrev pub point : Val → Result Pointer Trap
point (Int n) = Err trap.Null
point (Ptr o w) = Ok (o, w)

-- an offset has 32 bits
abbrev pub offset_at : Obj → ℤ → Result Pointer Trap
offset_at o (pos n) = if nat_lt n (2 ^ 32) then Ok (o, n) else Err trap.Bounds
offset_at o (negsuc n) = Err trap.Bounds

-- so many words on
unfoldable pub shift : Pointer → ℕ → Result Pointer Trap
shift p n = offset_at p.0 (pos (p.1 + n))

-- the element of that index, where an element has so many words
unfoldable pub element : Pointer → Val → ℕ → Result Pointer Trap
element p i size = and_then (number i) (λ n. offset_at p.0 (pos p.1 +ℤ (n *ℤ pos size)))

-- the input number of that index
abbrev pub input_number : Option ℤ → Result Val Trap
input_number (Some n) = Ok (Int n)
input_number None = Err trap.Input

abbrev pub input_at : List ℤ → ℤ → Result Val Trap
input_at input (pos i) = input_number (slice_get input i)
input_at input (negsuc i) = Err trap.Input

-- the words of so many elements; a count past 32 bits passes every limit of allocation
unfoldable pub words_of : ℤ → ℕ → Result ℕ Trap
words_of (pos n) size = if nat_lt (n * size) (2 ^ 32) then Ok (n * size) else Err trap.Alloc
words_of (negsuc n) size = Err trap.Alloc

-- the bytes that a format prints of numbers
abbrev pub text : List Piece → List ℤ → List ℕ
text [] ns = []
text (piece.Plain bytes ∷ pieces) ns = bytes ++ text pieces ns
text (piece.Number ∷ pieces) [] = text pieces []
text (piece.Number ∷ pieces) (n ∷ ns) = signed_decimal n ++ text pieces ns

abbrev pub not_negative : ℤ → ℕ
not_negative (pos n) = n
not_negative (negsuc n) = 0

-- how often an annotated loop runs from a start to below a bound
abbrev pub trip_count : ℤ → ℤ → ℕ
trip_count lo hi = not_negative (hi -ℤ lo)

-- only so often at the most
unfoldable pub trips : ℤ → ℤ → Result ℕ Trap
trips lo hi = if nat_lt LOOP_TRIPS (trip_count lo hi) then Err trap.Trips else Ok (trip_count lo hi)
