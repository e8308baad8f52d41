-- A value in two numbers of 64 bits.
use Rattle.std.specs.Prelude.{ℕ, ℤ, ◌+◌, ◌*◌, ◌/◌, ◌%◌, Bool, true, List, if◌then◌else◌, ◌==◌, nat_lt, Option, Some, None}
use Rattle.std.specs.Coded.{Coded, coded_list}
use Rattle.std.specs.Int.{cast_signed, cast_unsigned, w64}
use Rattle.al_core.specs.declared.values.Obj.TheVariants.{Global, Serial, Iter}
use Rattle.al_core.specs.declared.values.Val.TheVariants.{Int, Ptr}
use Rattle.al_core.specs.declared.values.Val.{Val}
use Rattle.al_core.specs.contracts.values.Val as val
use Rattle.al_core.specs.World.{Pointer}

-- The first number has the kind in 2 bits, and of an object of an iteration the execution in 32 and the iteration in
-- 30. The second has the object's number in 32 bits and the offset in 32. So packed pointers are in the order of words.
abbrev pub by_kind : ℕ → ℕ → ℕ → Val
by_kind kind hi lo =
    if kind == 0 then Int (cast_signed w64 lo)
    else if kind == 1 then Ptr (Global (lo / 4294967296)) (lo % 4294967296)
    else if kind == 2 then Ptr (Serial (lo / 4294967296)) (lo % 4294967296)
    else Ptr (Iter (hi / 1073741824 % 4294967296) (hi % 1073741824) (lo / 4294967296)) (lo % 4294967296)

abbrev pub val_of : ℕ → ℕ → Val
val_of hi lo = by_kind (hi / 4611686018427387904) hi lo

-- every value fits but a pointer into an object of an iteration from 2 ^ 30 on
abbrev pub fits : Val → Bool
fits (Int n) = true
fits (Ptr (Global k) w) = true
fits (Ptr (Serial k) w) = true
fits (Ptr (Iter e j k) w) = nat_lt j 1073741824

-- the two numbers of a value
abbrev pub hi_of : Val → ℕ
hi_of (Int n) = 0
hi_of (Ptr (Global k) w) = 4611686018427387904
hi_of (Ptr (Serial k) w) = 9223372036854775808
hi_of (Ptr (Iter e j k) w) = 13835058055282163712 + e * 1073741824 + j

abbrev pub lo_of : Val → ℕ
lo_of (Int n) = cast_unsigned w64 n
lo_of (Ptr (Global k) w) = k * 4294967296 + w
lo_of (Ptr (Serial k) w) = k * 4294967296 + w
lo_of (Ptr (Iter e j k) w) = k * 4294967296 + w

-- what a value is
abbrev pub number_of : Val → Option ℤ
number_of (Int n) = Some n
number_of (Ptr o w) = None

abbrev pub pointer_of : Val → Option Pointer
pointer_of (Int n) = None
pointer_of (Ptr o w) = Some (o, w)

-- a pointer's offset, and the pointer to another word of its object
abbrev pub offset_of : Val → Option ℕ
offset_of (Int n) = None
offset_of (Ptr o w) = Some w

abbrev pub with_offset : Val → ℕ → Option Val
with_offset (Int n) at = None
with_offset (Ptr o w) at = Some (Ptr o at)

abbrev pub words_code : Coded (List Val)
words_code = coded_list val.the_row.coded
