-- The values of the addresses of blocks, a row for each block.
use Rattle.std.specs.Prelude.{◌≡◌, ℕ, zero, suc, ◌-◌, ◌<◌, true, ◌==◌, if◌then◌else◌, List, [], ◌∷◌, ◌++◌, length, map, slice_index_or, Option, Some, None, pos}
use Rattle.std.specs.Coded.{Coded, coded_list}
use Rattle.std.specs.FinMap as map
use Rattle.std.specs.FinMap.{FinMap}
use Rattle.al_core.specs.declared.values.Addr.{Addr}
use Rattle.al_core.specs.declared.values.Val.{Val}
use Rattle.al_core.specs.declared.values.Val.TheVariants.{Int}
use Rattle.al_core.specs.contracts.values.Addr as addr
use Rattle.al_core.specs.contracts.values.Val as val
use Rattle.al_core.specs.Orders.{addr_cmp}
use Rattle.al_planes.specs.Masks.{bit_in}
use Rattle.al_sets.specs.declared.blocks.Block.{Block}
use Rattle.al_sets.specs.Places.{offset_of, address_at}
use Rattle.al_sets.specs.Blocks.{IsAscending, ArePlaces, block_has}
use Rattle.al_sets.specs.Members.{passing}

-- the value at an offset; past the end it is 0
abbrev pub value_in_row : List Val → ℕ → Val
value_in_row row n = slice_index_or row n (Int (pos 0))

-- values with so many zeros before them
abbrev pub row_from : ℕ → List Val → List Val
row_from zero vs = vs
row_from (suc n) vs = Int (pos 0) ∷ row_from n vs

-- a row with one value alone
abbrev pub IsSingle : List Val → ℕ → Type 0
IsSingle row k = (n : ℕ) → value_in_row row n ≡ (if n == k then value_in_row row k else value_in_row [] n)

-- the value of an address that is in one of the blocks
abbrev pub value_in : List Block → List (List Val) → Addr → Option Val
value_in [] rows a = None
value_in (b ∷ bs) [] a = None
value_in (b ∷ bs) (row ∷ rows) a =
    if block_has a b then Some (value_in_row row (offset_of a)) else value_in bs rows a

-- blocks with their rows, and what is left of them without the last that have no address
pub record IsTrimmed (bs : List Block) (rows : List (List Val)) (cs : List Block) (new : List (List Val)) : Type 0 where
  pub ascending : IsAscending cs
  pub long : length new ≡ length cs
  pub places : ArePlaces cs
  pub values : (a : Addr) → value_in cs new a ≡ value_in bs rows a

-- the last block has an address at an offset
pub record HasLast (bs : List Block) (n : ℕ) : Type 0 where
  pub there : 0 < length bs
  pub within : n < 512
  pub one : (d : Block) → bit_in (slice_index_or bs (length bs - 1) d).masks n ≡ true

abbrev pub row_entries : Block → List Val → List (Addr × Val)
row_entries b row = map (λ n. (address_at b.place n, value_in_row row n)) (passing (bit_in b.masks) 512)

abbrev pub entries_of : List Block → List (List Val) → List (Addr × Val)
entries_of [] rows = []
entries_of (b ∷ bs) [] = []
entries_of (b ∷ bs) (row ∷ rows) = row_entries b row ++ entries_of bs rows

abbrev pub values_of : List Block → List (List Val) → FinMap addr_cmp Val
values_of bs rows = map.from_entries (entries_of bs rows)

abbrev pub row_code : Coded (List Val)
row_code = coded_list val.the_row.coded

abbrev pub values_code : Coded (FinMap addr_cmp Val)
values_code = map.code addr.the_row.coded val.the_row.coded
