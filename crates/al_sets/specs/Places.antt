-- Blocks of 512 addresses: words of an object, heads of objects whose names differ in their last number alone, or
-- locals. A block has a place, which is written as an address.
use Rattle.std.specs.Prelude.{ℕ, ◌+◌, ◌*◌, ◌/◌, ◌%◌, Bool, nat_lt}
use Rattle.al_core.specs.declared.values.Obj.{Obj}
use Rattle.al_core.specs.declared.values.Obj.TheVariants.{Global, Serial, Iter}
use Rattle.al_core.specs.declared.values.Addr.{Addr}
use Rattle.al_core.specs.declared.values.Addr.TheVariants.{Word, Head, Local}

-- the last number of a name
abbrev pub number_of : Obj → ℕ
number_of (Global k) = k
number_of (Serial k) = k
number_of (Iter e j k) = k

-- a name with another last number
abbrev pub renumbered : Obj → ℕ → Obj
renumbered (Global k) n = Global n
renumbered (Serial k) n = Serial n
renumbered (Iter e j k) n = Iter e j n

-- the place of the block that has an address
abbrev pub place_of : Addr → Addr
place_of (Word o w) = Word o (w / 512)
place_of (Head o) = Head (renumbered o (number_of o / 512))
place_of (Local k) = Local (k / 512)

-- where it is in the block
abbrev pub offset_of : Addr → ℕ
offset_of (Word o w) = w % 512
offset_of (Head o) = number_of o % 512
offset_of (Local k) = k % 512

-- the address at an offset of the block of a place
abbrev pub address_at : Addr → ℕ → Addr
address_at (Word o p) n = Word o (p * 512 + n)
address_at (Head o) n = Head (renumbered o (number_of o * 512 + n))
address_at (Local p) n = Local (p * 512 + n)

-- whether the numbers of a block's addresses have 32 bits
abbrev pub is_place : Addr → Bool
is_place (Word o p) = nat_lt p 8388608
is_place (Head o) = nat_lt (number_of o) 8388608
is_place (Local p) = nat_lt p 8388608
