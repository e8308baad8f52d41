-- Addresses that are in two lists of blocks.
use Rattle.std.proofs.Common.{◌≡◌, ℕ, zero, suc, ◌<◌, true, false, List, [], ◌∷◌, length, get_or, refl, sym, ap, subst, ◌∙◌, arith}
use Rattle.std.proofs.lemmas.List.Folds.{list_any_at}
use Rattle.al_core.specs.declared.values.Addr.{Addr}
use Rattle.al_planes.specs.Masks.{bit_in, CommonPlace}
use Rattle.al_sets.specs.declared.blocks.Block.{Block}
use Rattle.al_sets.specs.Places.{offset_of, address_at}
use Rattle.al_sets.specs.Blocks.{IsAscending, IsAt, IsGapFor, CommonAddress, block_has, has_address}
use Rattle.al_sets.proofs.Placing.{place_there, offset_there, offset_below}
use Rattle.al_sets.proofs.Found.{has_at, had_at, address_in_block, no_address}

-- the address at an offset of a block is in it where its bit is set
pub bit_there : (b : Block) (n : ℕ) → n < 512 → bit_in b.masks n ≡ true → block_has (address_at b.place n) b ≡ true
bit_there b n h set =
    has_at (address_at b.place n) b (sym (place_there b.place n h)) ∙ ap (bit_in b.masks) (offset_there b.place n h) ∙ set

-- the same of the block at i
pub bit_there_in : (bs : List Block) (i : ℕ) (d : Block) (p : Addr) (n : ℕ) → IsAscending bs → IsAt bs p i → n < 512
    → bit_in (get_or bs i d).masks n ≡ true → has_address bs (address_at p n) ≡ true
bit_there_in bs i d p n up at h set =
    address_in_block bs (address_at p n) up i d (subst (λ q. IsAt bs q i) (sym (place_there p n h)) at)
    ∙ ap (bit_in (get_or bs i d).masks) (offset_there p n h)
    ∙ set

pub common_address : (xs bs : List Block) (k i : ℕ) (d : Block) → IsAscending bs → k < length xs
    → IsAt bs (get_or xs k d).place i → CommonPlace (get_or xs k d).masks (get_or bs i d).masks → CommonAddress xs bs
common_address xs bs k i d up within at c =
    let b : Block = get_or xs k d in
    let a : Addr = address_at b.place c.place in
    record {
      address = a;
      in_first = list_any_at (block_has a) xs k d within (bit_there b c.place c.below c.in_a);
      in_second = bit_there_in bs i d b.place c.place up at c.below c.in_b;
    }

-- an address of a block that is in the other list is at a common place of the masks
common_place : (bs : List Block) (b d : Block) (i : ℕ) (a : Addr) → IsAscending bs → IsAt bs b.place i → block_has a b ≡ true
    → has_address bs a ≡ true → CommonPlace b.masks (get_or bs i d).masks
common_place bs b d i a up at h g =
    let p = had_at a b h in
    record {
      place = offset_of a;
      below = offset_below a;
      in_a = sym (has_at a b p) ∙ h;
      in_b = sym (address_in_block bs a up i d (subst (λ q. IsAt bs q i) p at)) ∙ g;
    }

none_common : (bs : List Block) (b : Block) (i : ℕ) (a : Addr) → IsGapFor bs b.place i → block_has a b ≡ true
    → has_address bs a ≡ false
none_common bs b i a gap h = no_address bs a i (subst (λ q. IsGapFor bs q i) (had_at a b h) gap)

at_any : {X : Type 0} (xs : List X) (j : ℕ) (d e : X) → j < length xs → get_or xs j d ≡ get_or xs j e
at_any [] j d e h = absurd (omega arith)
at_any (x ∷ xs) zero d e h = refl
at_any (x ∷ xs) (suc j) d e h = at_any xs j d e (omega arith)

pub same_default : {X : Type 0} (xs : List X) (k j : ℕ) (d e : X) → k ≡ j → j < length xs → get_or xs k d ≡ get_or xs j e
same_default xs k j d e s h = ap (λ (i : ℕ). get_or xs i d) s ∙ at_any xs j d e h

-- the same for the block at k of a list
pub common_place_at : (xs bs : List Block) (k j i : ℕ) (d e : Block) (a : Addr) → IsAscending bs → k ≡ j → j < length xs
    → IsAt bs (get_or xs j e).place i → block_has a (get_or xs k d) ≡ true → has_address bs a ≡ true
    → CommonPlace (get_or xs j e).masks (get_or bs i e).masks
common_place_at xs bs k j i d e a up s within at h g =
    common_place bs (get_or xs j e) e i a up at (ap (block_has a) (sym (same_default xs k j d e s within)) ∙ h) g

pub none_common_at : (xs bs : List Block) (k j i : ℕ) (d e : Block) (a : Addr) → k ≡ j → j < length xs
    → IsGapFor bs (get_or xs j e).place i → block_has a (get_or xs k d) ≡ true → has_address bs a ≡ false
none_common_at xs bs k j i d e a s within gap h =
    none_common bs (get_or xs j e) i a gap (ap (block_has a) (sym (same_default xs k j d e s within)) ∙ h)
