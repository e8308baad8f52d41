-- The addresses of blocks, as a set.
use Rattle.std.specs.Prelude.{ℕ, zero, suc, Bool, if◌then◌else◌, List, [], ◌∷◌, map, flat_map, refl}
use Rattle.std.specs.Coded.{Coded, code_by, coded×, coded_ℕ}
use Rattle.std.specs.FinSet as set
use Rattle.std.specs.FinSet.{FinSet}
use Rattle.al_core.specs.declared.values.Addr.{Addr}
use Rattle.al_core.specs.contracts.values.Addr as addr
use Rattle.al_core.specs.Orders.{addr_cmp}
use Rattle.al_planes.specs.Masks.{bit_in}
use Rattle.al_sets.specs.declared.blocks.Block.{Block}
use Rattle.al_sets.specs.Places.{address_at}

-- A set of addresses, how many blocks it takes, and for how many more there is room. An address takes at most one.
pub record AddressSet : Type 0 where
  pub members : FinSet addr_cmp
  pub size : ℕ
  pub room : ℕ

-- the numbers below n that pass
unfoldable pub passing : (ℕ → Bool) → ℕ → List ℕ
passing p zero = []
passing p (suc n) = if p n then n ∷ passing p n else passing p n

abbrev pub block_members : Block → List Addr
block_members b = map (address_at b.place) (passing (bit_in b.masks) 512)

abbrev pub members : List Block → FinSet addr_cmp
members bs = set.from_list (flat_map block_members bs)

abbrev pub set_code : Coded AddressSet
set_code =
    code_by (FinSet addr_cmp × (ℕ × ℕ)) (coded× (set.code addr.the_row.coded) (coded× coded_ℕ coded_ℕ))
    (λ s. (s.members, (s.size, s.room))) (λ p. record { members = p.0; size = p.1.0; room = p.1.1 }) (λ _. refl)
