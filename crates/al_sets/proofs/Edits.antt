-- What an edit at the place that a search found does to ascending blocks.
use Rattle.std.proofs.Common.{◌≡◌, ◌≢◌, ℕ, zero, suc, ◌+◌, ◌<◌, ◌≤◌, Bool, true, false, ◌&&◌, ◌||◌, nat_eq, List, length, take, get_or, slice_set, refl, sym, ap, ◌∙◌, inl, inr, arith}
use Rattle.std.specs.declared.cmp.Ordering.TheVariants.{Less}
use Rattle.std.specs.Ordering.{ordering_reverse}
use Rattle.std.specs.List.{insert}
use Rattle.std.proofs.lemmas.Bool.{cases_lt}
use Rattle.std.proofs.lemmas.Bool.Decides.{eqb_tells}
use Rattle.std.proofs.lemmas.Grind.{get_or-set_at}
use Rattle.std.proofs.lemmas.List.{get_or-set_other, length-set}
use Rattle.std.proofs.lemmas.List.Folds.{list_any_more}
use Rattle.std.proofs.lemmas.List.Edits.{length-insert, get_or-insert_below, get_or-insert_at, get_or-insert_above}
use Rattle.al_core.specs.declared.values.Addr.{Addr}
use Rattle.al_core.specs.Orders.{addr_cmp, addr_eq}
use Rattle.al_laws.proofs.Orders.{addr_total}
use Rattle.al_planes.specs.Masks.{bit_in}
use Rattle.al_sets.specs.declared.blocks.Block.{Block}
use Rattle.al_sets.specs.Places.{place_of, offset_of, is_place}
use Rattle.al_sets.specs.Blocks.{IsAscending, ArePlaces, IsAt, IsGapFor, block_has, has_address}
use Rattle.al_sets.proofs.Truth.{any_set, any_insert}
use Rattle.al_sets.proofs.Placing.{by_place}

-- a block with one address alone
single_has : (at : Addr) (x : Block) → x.place ≡ place_of at
    → ((j : ℕ) → bit_in x.masks j ≡ nat_eq j (offset_of at)) → (a : Addr) → block_has a x ≡ addr_eq a at
single_has at x place bits a =
    (λ t. addr_eq (place_of a) (place t) && bits (offset_of a) t) ∙ sym (by_place a at)

distributed : (c m b : Bool) → (c && (m || b)) ≡ ((c && m) || (c && b))
distributed true m b = refl
distributed false m b = refl

-- a block with an address more
pub more_has : (at : Addr) (b x : Block) → b.place ≡ place_of at → x.place ≡ b.place → (n : ℕ) → n ≡ offset_of at
    → ((j : ℕ) → bit_in x.masks j ≡ (nat_eq j n || bit_in b.masks j))
    → (a : Addr) → block_has a x ≡ (addr_eq a at || block_has a b)
more_has at b x was place n e bits a =
    (λ t. addr_eq (place_of a) (place t) && bits (offset_of a) t)
    ∙ distributed (addr_eq (place_of a) b.place) (nat_eq (offset_of a) n) (bit_in b.masks (offset_of a))
    ∙ (λ t. (addr_eq (place_of a) (was t) && nat_eq (offset_of a) (e t)) || block_has a b)
    ∙ ap (λ c. c || block_has a b) (sym (by_place a at))

-- the block at i with an address more
pub address_set : (bs : List Block) (at : Addr) (i : ℕ) (x d : Block) → IsAt bs (place_of at) i
    → x.place ≡ (get_or bs i d).place → (n : ℕ) → n ≡ offset_of at
    → ((j : ℕ) → bit_in x.masks j ≡ (nat_eq j n || bit_in (get_or bs i d).masks j))
    → (a : Addr) → has_address (slice_set bs i x) a ≡ (addr_eq a at || has_address bs a)
address_set bs at i x d there place n e bits a =
    any_set (block_has a) bs i x d (addr_eq a at) there.in_range
    (more_has at (get_or bs i d) x (there.same d) place n e bits a)

pub address_inserted : (bs : List Block) (at : Addr) (i : ℕ) (x : Block) → x.place ≡ place_of at
    → ((j : ℕ) → bit_in x.masks j ≡ nat_eq j (offset_of at)) → (a : Addr)
    → has_address (insert bs i x) a ≡ (addr_eq a at || has_address bs a)
address_inserted bs at i x place bits a =
    any_insert (block_has a) bs i x ∙ ap (λ b. b || has_address bs a) (single_has at x place bits a)

-- ---- a block joined

joined_has : (b x m : Block) → b.place ≡ m.place → x.place ≡ b.place
    → ((j : ℕ) → bit_in x.masks j ≡ (bit_in m.masks j || bit_in b.masks j))
    → (a : Addr) → block_has a x ≡ (block_has a m || block_has a b)
joined_has b x m same place bits a =
    (λ t. addr_eq (place_of a) (place t) && bits (offset_of a) t)
    ∙ distributed (addr_eq (place_of a) b.place) (bit_in m.masks (offset_of a)) (bit_in b.masks (offset_of a))
    ∙ (λ t. (addr_eq (place_of a) (same t) && bit_in m.masks (offset_of a)) || block_has a b)

-- the block at i with the addresses of another of its place
pub block_joined : (bs : List Block) (i : ℕ) (x m d : Block) → IsAt bs m.place i → x.place ≡ (get_or bs i d).place
    → ((j : ℕ) → bit_in x.masks j ≡ (bit_in m.masks j || bit_in (get_or bs i d).masks j))
    → (a : Addr) → has_address (slice_set bs i x) a ≡ (block_has a m || has_address bs a)
block_joined bs i x m d there place bits a =
    any_set (block_has a) bs i x d (block_has a m) there.in_range (joined_has (get_or bs i d) x m (there.same d) place bits a)

pub block_added : (bs : List Block) (i : ℕ) (m : Block) (a : Addr)
    → has_address (insert bs i m) a ≡ (block_has a m || has_address bs a)
block_added bs i m a = any_insert (block_has a) bs i m

turned : (b a o : Bool) → (b || (a || o)) ≡ ((a || b) || o)
turned true true o = refl
turned true false o = refl
turned false true o = refl
turned false false o = refl

-- a block more of those that are joined
pub joined_more : (more : List Block) (i : ℕ) (d : Block) (a : Addr) (next now old : Bool) → i < length more
    → next ≡ (block_has a (get_or more i d) || now) → now ≡ (has_address (take i more) a || old)
    → next ≡ (has_address (take (i + 1) more) a || old)
joined_more more i d a next now old h e f =
    e ∙ ap (λ b. block_has a (get_or more i d) || b) f
    ∙ turned (block_has a (get_or more i d)) (has_address (take i more) a) old
    ∙ ap (λ b. b || old) (sym (list_any_more (block_has a) more i d h))

-- ---- the order

module _ (bs : List Block) (p : Addr) (i : ℕ) (x : Block) (place : x.place ≡ p) where
  same_place : IsAt bs p i → (k : ℕ) (d : Block) → (get_or (slice_set bs i x) k d).place ≡ (get_or bs k d).place
  same_place at k d = elim (eqb_tells k i) [
    | inl s ↦
        ap (λ (b : Block). b.place) (get_or-set_at bs i k x d s.1 at.in_range)
        ∙ place
        ∙ sym (at.same d)
        ∙ ap (λ (j : ℕ). (get_or bs j d).place) (sym s.1)
    | inr u ↦ ap (λ (b : Block). b.place) (get_or-set_other bs i k x d u.1)
  ]

  pub ascending_set : IsAt bs p i → IsAscending bs → IsAscending (slice_set bs i x)
  ascending_set at up j k d lt within =
      let long : length (slice_set bs i x) ≡ length bs = length-set bs i x in
      (λ t. addr_cmp (same_place at j d t) (same_place at k d t)) ∙ up j k d lt (omega arith)

  pub places_set : IsAt bs p i → ArePlaces bs → ArePlaces (slice_set bs i x)
  places_set at all k d h = ap is_place (same_place at k d) ∙ all k d (omega (arith, length-set bs i x, h))

  module _ (gap : IsGapFor bs p i) where
    at_below : (k : ℕ) (d : Block) → k < i → (get_or (insert bs i x) k d).place ≡ (get_or bs k d).place
    at_below k d lt = ap (λ (b : Block). b.place) (get_or-insert_below bs i x d k lt gap.in_range)

    at_it : (k : ℕ) (d : Block) → k ≡ i → (get_or (insert bs i x) k d).place ≡ p
    at_it k d e =
        ap (λ (j : ℕ). (get_or (insert bs i x) j d).place) e
        ∙ ap (λ (b : Block). b.place) (get_or-insert_at bs i x d gap.in_range)
        ∙ place

    at_above : (k : ℕ) (d : Block) → i < suc k → (get_or (insert bs i x) (suc k) d).place ≡ (get_or bs k d).place
    at_above k d lt =
        let e : suc k ≡ k + 1 = omega arith in
        ap (λ (j : ℕ). (get_or (insert bs i x) j d).place) e
        ∙ ap (λ (b : Block). b.place) (get_or-insert_above bs i x d k (omega arith) gap.in_range)

    above : (k : ℕ) (d : Block) → i ≤ k → k < length bs → addr_cmp p (get_or bs k d).place ≡ Less
    above k d le within = addr_total.antisymm p (get_or bs k d).place ∙ ap ordering_reverse (gap.after k d le within)

    past : (j k : ℕ) (d : Block) → i < j → j < suc k → k < length bs → i < suc k → IsAscending bs
        → addr_cmp (get_or (insert bs i x) j d).place (get_or (insert bs i x) (suc k) d).place ≡ Less
    past zero k d h lt within high up = absurd (omega arith)
    past (suc j) k d h lt within high up =
        (λ t. addr_cmp (at_above j d h t) (at_above k d high t)) ∙ up j k d (omega arith) within

    from : (j k : ℕ) (d : Block) → i ≤ j → j < suc k → k < length bs → i < suc k → IsAscending bs
        → addr_cmp (get_or (insert bs i x) j d).place (get_or (insert bs i x) (suc k) d).place ≡ Less
    from j k d low lt within high up = elim (eqb_tells j i) [
      | inl s ↦ (λ t. addr_cmp (at_it j d s.1 t) (at_above k d high t)) ∙ above k d (omega arith) within
      | inr u ↦ past j k d (let n : j ≢ i = u.1 in omega arith) lt within high up
    ]

    pub ascending_inserted : IsAscending bs → IsAscending (insert bs i x)
    ascending_inserted up j zero d lt within = absurd (omega arith)
    ascending_inserted up j (suc k) d lt within =
        let long : length (insert bs i x) ≡ length bs + 1 = length-insert bs i x gap.in_range in
        elim (cases_lt (suc k) i) [
          | inl low ↦
              (λ t. addr_cmp (at_below j d (omega arith) t) (at_below (suc k) d low t))
              ∙ up j (suc k) d lt (omega (arith, gap.in_range))
          | inr le ↦ elim (cases_lt i (suc k)) [
            | inr at ↦
                let e : suc k ≡ i = omega arith in
                (λ t. addr_cmp (at_below j d (omega arith) t) (at_it (suc k) d e t)) ∙ gap.before j d (omega arith)
            | inl high ↦ elim (cases_lt j i) [
              | inl low ↦
                  (λ t. addr_cmp (at_below j d low t) (at_above k d high t)) ∙ up j k d (omega arith) (omega arith)
              | inr le ↦ from j k d le lt (omega arith) high up
            ]
          ]
        ]

    pub places_inserted : is_place p ≡ true → ArePlaces bs → ArePlaces (insert bs i x)
    places_inserted one all zero d h = elim (eqb_tells 0 i) [
      | inl s ↦ ap is_place (at_it 0 d s.1) ∙ one
      | inr u ↦
          let n : 0 ≢ i = u.1 in
          ap is_place (at_below 0 d (omega arith)) ∙ all 0 d (omega (arith, gap.in_range))
    ]
    places_inserted one all (suc k) d h =
        let long : length (insert bs i x) ≡ length bs + 1 = length-insert bs i x gap.in_range in
        elim (cases_lt (suc k) i) [
          | inl low ↦ ap is_place (at_below (suc k) d low) ∙ all (suc k) d (omega (arith, gap.in_range))
          | inr le ↦ elim (eqb_tells (suc k) i) [
            | inl s ↦ ap is_place (at_it (suc k) d s.1) ∙ one
            | inr u ↦
                let n : suc k ≢ i = u.1 in
                ap is_place (at_above k d (omega arith)) ∙ all k d (omega arith)
          ]
        ]
