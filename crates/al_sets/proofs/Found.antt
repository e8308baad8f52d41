-- What a search among ascending blocks finds.
use Rattle.std.proofs.Common.{◌≡◌, ℕ, ◌+◌, ◌<◌, true, false, ◌&&◌, List, [], length, get_or, Result, Ok, Err, IfOk, IfErr, sym, ap, ◌∙◌, inl, inr, arith}
use Rattle.std.specs.declared.cmp.Ordering.TheVariants.{Less, Equal, Greater}
use Rattle.std.specs.Ordering.{ordering_reverse, is_lt}
use Rattle.std.specs.Cmp.{tied_itself}
use Rattle.std.specs.List.Sorted.{IsSearchInRange, IsBinarySearchResult, IsSortedBy}
use Rattle.std.proofs.Math.Bool.{true≢false}
use Rattle.std.proofs.lemmas.Bool.{cases_lt}
use Rattle.std.proofs.lemmas.List.Folds.{list_any_at}
use Rattle.std.proofs.lemmas.List.Sorted.{searchable_from_sorted}
use Rattle.al_core.specs.declared.values.Addr.{Addr}
use Rattle.al_core.specs.Orders.{addr_cmp, addr_eq}
use Rattle.al_laws.proofs.Orders.{addr_total, addr_apart, addr_equal, addr_itself}
use Rattle.al_planes.specs.Masks.{bit_in}
use Rattle.al_sets.specs.declared.blocks.Block.{Block}
use Rattle.al_sets.specs.Places.{place_of, offset_of}
use Rattle.al_sets.specs.Blocks.{IsAscending, IsAt, IsGapFor, block_has, has_address}
use Rattle.al_sets.proofs.Truth.{one_of, same_truth, left_true}

module _ (bs : List Block) (up : IsAscending bs) (p : Addr) where
  in_order : IsSortedBy (λ (a b : Block). is_lt (addr_cmp a.place b.place)) bs
  in_order k d low high =
      ap is_lt (addr_total.antisymm (get_or bs (k + 1) d).place (get_or bs k d).place
      ∙ ap ordering_reverse (up k (k + 1) d (omega arith) high))

  pub searched : (r : Result ℕ ℕ) → IsSearchInRange r (length bs) → IsBinarySearchResult (λ (b : Block). addr_cmp b.place p) bs r
      → record { found : IfOk r (IsAt bs p); absent : IfErr r (IsGapFor bs p) }
  searched (Ok i) within equal =
      record { found = record { in_range = within; same = λ d. addr_apart _ p (equal d) }; absent = tt }
  searched (Err i) within parted =
      let parts = parted (searchable_from_sorted addr_total (λ (b : Block). b.place) bs p in_order) in
      record {
        found = tt;
        absent = record {
          in_range = within;
          before = λ j d lt. parts.0 j d (omega arith) lt;
          after = λ j d le lt. parts.1 j d le lt;
        };
      }

-- a block that has an address is at its place
pub had_at : (a : Addr) (b : Block) → block_has a b ≡ true → b.place ≡ place_of a
had_at a b h = sym (addr_equal (place_of a) b.place (left_true _ _ h))

-- a block at its place has the address where its bit is set
pub has_at : (a : Addr) (b : Block) → b.place ≡ place_of a → block_has a b ≡ bit_in b.masks (offset_of a)
has_at a b e =
    (λ t. addr_eq (place_of a) (e t) && bit_in b.masks (offset_of a))
    ∙ ap (λ c. c && bit_in b.masks (offset_of a)) (addr_itself (place_of a))

itself : (p q : Addr) → p ≡ q → addr_cmp p q ≡ Equal
itself p q e = ap (addr_cmp p) (sym e) ∙ tied_itself addr_total p

not_less : (p q : Addr) → p ≡ q → addr_cmp p q ≡ Less → ⊥
not_less p q e h = let k : Less ≡ Equal = sym h ∙ itself p q e in cc

not_greater : (p q : Addr) → p ≡ q → addr_cmp p q ≡ Greater → ⊥
not_greater p q e h = let k : Greater ≡ Equal = sym h ∙ itself p q e in cc

module _ (bs : List Block) (a : Addr) where
  pub only_at : IsAscending bs → (i : ℕ) (d : Block) → IsAt bs (place_of a) i → (k : ℕ) → k < length bs
      → block_has a (get_or bs k d) ≡ true → k ≡ i
  only_at up i d at k within h =
      let same = had_at a (get_or bs k d) h ∙ sym (at.same d) in
      elim (cases_lt k i) [
        | inl lt ↦ absurd (not_less _ _ same (up k i d lt at.in_range))
        | inr le ↦ elim (cases_lt i k) [
          | inl gt ↦ absurd (not_less _ _ (sym same) (up i k d gt within))
          | inr ge ↦ omega arith
        ]
      ]

  pub address_in_block : IsAscending bs → (i : ℕ) (d : Block) → IsAt bs (place_of a) i
      → has_address bs a ≡ bit_in (get_or bs i d).masks (offset_of a)
  address_in_block up i d at = same_truth _ _
      (λ h.
      let m = one_of (block_has a) bs h in
      let e = only_at up i d at m.0 m.1 (m.2 d) in
      ap (λ (k : ℕ). bit_in (get_or bs k d).masks (offset_of a)) (sym e)
      ∙ sym (has_at a (get_or bs m.0 d) (had_at a (get_or bs m.0 d) (m.2 d)))
      ∙ m.2 d)
      (λ h. list_any_at (block_has a) bs i d at.in_range (has_at a (get_or bs i d) (at.same d) ∙ h))

  -- no block has an address whose block is missing
  pub not_in_gap : (i : ℕ) → IsGapFor bs (place_of a) i → (k : ℕ) (d : Block) → k < length bs
      → block_has a (get_or bs k d) ≡ true → ⊥
  not_in_gap i gap k d within h =
      let same = had_at a (get_or bs k d) h in
      elim (cases_lt k i) [
        | inl lt ↦ not_less _ _ same (gap.before k d lt)
        | inr le ↦ not_greater _ _ same (gap.after k d le within)
      ]

  pub no_address : (i : ℕ) → IsGapFor bs (place_of a) i → has_address bs a ≡ false
  no_address i gap = same_truth _ _
      (λ h.
      let m = one_of (block_has a) bs h in
      let d : Block = record { place = place_of a; masks = [] } in
      absurd (not_in_gap i gap m.0 d m.1 (m.2 d)))
      (λ h. absurd (true≢false (sym h)))
