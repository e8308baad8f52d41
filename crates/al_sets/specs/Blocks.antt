-- Blocks of addresses, in the order of their places.
use Rattle.std.specs.Prelude.{◌≡◌, ℕ, ◌<◌, ◌≤◌, Bool, true, ◌&&◌, List, length, slice_index_or}
use Rattle.std.specs.List.{list_any}
use Rattle.std.specs.declared.cmp.Ordering.TheVariants.{Less, Greater}
use Rattle.al_core.specs.declared.values.Addr.{Addr}
use Rattle.al_core.specs.Orders.{addr_cmp, addr_eq}
use Rattle.al_core.specs.Lines.{line_of}
use Rattle.al_planes.specs.Masks.{bit_in}
use Rattle.al_sets.specs.declared.blocks.Block.{Block}
use Rattle.al_sets.specs.Places.{place_of, offset_of, address_at, is_place}

-- each place is below those after it
abbrev pub IsAscending : List Block → Type 0
IsAscending bs =
    (i j : ℕ) (d : Block) → i < j → j < length bs
    → addr_cmp (slice_index_or bs i d).place (slice_index_or bs j d).place ≡ Less

-- the addresses of each have 32 bits
abbrev pub ArePlaces : List Block → Type 0
ArePlaces bs = (i : ℕ) (d : Block) → i < length bs → is_place (slice_index_or bs i d).place ≡ true

-- the block at i is that of the place
pub record IsAt (bs : List Block) (p : Addr) (i : ℕ) : Type 0 where
  pub in_range : i < length bs
  pub same : (d : Block) → (slice_index_or bs i d).place ≡ p

-- there is no block of the place, and one would go at i
pub record IsGapFor (bs : List Block) (p : Addr) (i : ℕ) : Type 0 where
  pub in_range : i ≤ length bs
  pub before : (j : ℕ) (d : Block) → j < i → addr_cmp (slice_index_or bs j d).place p ≡ Less
  pub after : (j : ℕ) (d : Block) → i ≤ j → j < length bs
      → addr_cmp (slice_index_or bs j d).place p ≡ Greater

-- whether a block has an address
abbrev pub block_has : Addr → Block → Bool
block_has a b = addr_eq (place_of a) b.place && bit_in b.masks (offset_of a)

-- whether an address is in one of the blocks
abbrev pub has_address : List Block → Addr → Bool
has_address bs a = list_any (block_has a) bs

-- an address that is in both
pub record CommonAddress (bs cs : List Block) : Type 0 where
  pub address : Addr
  pub in_first : has_address bs address ≡ true
  pub in_second : has_address cs address ≡ true

-- an offset of the one and an offset of the other whose addresses are in one line of g, in blocks of one place
pub record CommonOffsets (g : ℕ) (p : Addr) (a b : List ℕ) : Type 0 where
  pub first : ℕ
  pub second : ℕ
  pub first_below : first < 512
  pub second_below : second < 512
  pub in_a : bit_in a first ≡ true
  pub in_b : bit_in b second ≡ true
  pub same : line_of g (address_at p first) ≡ line_of g (address_at p second)

-- an address of the one and an address of the other in one line of g
pub record CommonLine (g : ℕ) (bs cs : List Block) : Type 0 where
  pub first : Addr
  pub second : Addr
  pub in_first : has_address bs first ≡ true
  pub in_second : has_address cs second ≡ true
  pub same : line_of g first ≡ line_of g second
