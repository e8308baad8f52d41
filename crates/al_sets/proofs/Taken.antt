-- A value that is taken out, and last blocks with no address that are dropped.
use Rattle.std.proofs.Common.{◌≡◌, ℕ, zero, suc, ◌-◌, ◌<◌, ◌≤◌, Bool, true, false, not, ◌&&◌, cond, nat_eq, List, [], ◌∷◌, length, take, get_or, slice_set, Some, None, refl, sym, ap, subst, ◌∙◌, arith}
use Rattle.std.specs.FinMap as fin
use Rattle.std.proofs.lemmas.Grind.{get_or-set_at}
use Rattle.std.proofs.lemmas.List.{length-set}
use Rattle.al_core.specs.declared.values.Addr.{Addr}
use Rattle.al_core.specs.declared.values.Val.{Val}
use Rattle.al_core.specs.Orders.{addr_cmp, addr_eq}
use Rattle.al_laws.proofs.Orders.{addr_total, addr_apart, addr_equal}
use Rattle.al_planes.specs.Masks.{bit_in}
use Rattle.al_sets.specs.declared.blocks.Block.{Block}
use Rattle.al_sets.specs.Places.{place_of, offset_of, address_at, is_place}
use Rattle.al_sets.specs.Blocks.{IsAscending, ArePlaces, IsAt, block_has}
use Rattle.al_sets.specs.Rows.{value_in_row, value_in, values_of, IsTrimmed}
use Rattle.al_sets.proofs.Edits.{ascending_set}
use Rattle.al_sets.proofs.Placing.{at_offset, offset_below, place_there, offset_there}
use Rattle.al_sets.proofs.RowLemmas.{value_found, values_have}

-- ---- a value that is taken out

other_kept : (a : Addr) (bs : List Block) (rows : List (List Val)) (i : ℕ) (x d : Block) → block_has a x ≡ false
    → block_has a (get_or bs i d) ≡ false → value_in (slice_set bs i x) rows a ≡ value_in bs rows a
other_kept a [] rows i x d h g = refl
other_kept a (b ∷ bs) [] zero x d h g = refl
other_kept a (b ∷ bs) [] (suc i) x d h g = refl
other_kept a (b ∷ bs) (r ∷ rows) zero x d h g =
    ap (λ t. cond t (Some (value_in_row r (offset_of a))) (value_in bs rows a)) (h ∙ sym g)
other_kept a (b ∷ bs) (r ∷ rows) (suc i) x d h g =
    ap (cond (block_has a b) (Some (value_in_row r (offset_of a)))) (other_kept a bs rows i x d h g)

elsewhere : (a : Addr) (b : Block) (p : Addr) → b.place ≡ p → addr_eq (place_of a) p ≡ false → block_has a b ≡ false
elsewhere a b p e h = ap (λ q. addr_eq (place_of a) q && bit_in b.masks (offset_of a)) e ∙ ap (λ c. c && bit_in b.masks (offset_of a)) h

without : (n c : Bool) (v : Val) → cond (not n && c) (Some v) None ≡ cond n None (cond c (Some v) None)
without true c v = refl
without false c v = refl

module _ (bs : List Block) (rows : List (List Val)) (up : IsAscending bs) (long : length rows ≡ length bs) (i n : ℕ)
    (x d : Block) (p : Addr) (there : IsAt bs p i) (within : n < 512) (place : x.place ≡ p)
    (bits : (j : ℕ) → bit_in x.masks j ≡ (not (nat_eq j n) && bit_in (get_or bs i d).masks j)) where
  pub value_taken : (a : Addr) → value_in (slice_set bs i x) rows a ≡ cond (addr_eq a (address_at p n)) None (value_in bs rows a)
  value_taken a =
      elim (addr_eq (place_of a) p) as (λ c. addr_eq (place_of a) p ≡ c
      → value_in (slice_set bs i x) rows a ≡ cond (addr_eq a (address_at p n)) None (value_in bs rows a)) [
        | true ↦ λ e.
            let same : p ≡ place_of a = sym (addr_equal _ _ e) in
            let o : ℕ = offset_of a in
            let here_x : get_or (slice_set bs i x) i d ≡ x = get_or-set_at bs i i x d refl there.in_range in
            let there2 : IsAt (slice_set bs i x) p i = record {
              in_range = omega (arith, length-set bs i x, there.in_range);
              same = λ d. ap (λ (b : Block). b.place) (get_or-set_at bs i i x d refl there.in_range) ∙ place;
            } in
            value_found a (slice_set bs i x) rows (ascending_set bs p i x place there up) (long ∙ sym (length-set bs i x)) i d
            (subst (λ p. IsAt (slice_set bs i x) p i) same there2)
            ∙ ap (λ (b : Block). cond (bit_in b.masks o) (Some (value_in_row (get_or rows i []) o)) None) here_x
            ∙ ap (λ b. cond b (Some (value_in_row (get_or rows i []) o)) None) (bits o)
            ∙ without (nat_eq o n) (bit_in (get_or bs i d).masks o) (value_in_row (get_or rows i []) o)
            ∙ (λ t. cond (sym (at_offset a p n within ∙ ap (λ c. c && nat_eq o n) e) t) None
            (sym (value_found a bs rows up long i d (subst (λ p. IsAt bs p i) same there)) t))
        | false ↦ λ e.
            other_kept a bs rows i x d (elsewhere a x p place e) (elsewhere a (get_or bs i d) p (there.same d) e)
            ∙ ap (λ c. cond c None (value_in bs rows a)) (sym (at_offset a p n within ∙ ap (λ c. c && nat_eq (offset_of a) n) e))
      ] refl

  pub value_there : bit_in (get_or bs i d).masks n ≡ true → value_in bs rows (address_at p n) ≡ Some (value_in_row (get_or rows i []) n)
  value_there one =
      let at : Addr = address_at p n in
      value_found at bs rows up long i d (subst (λ p. IsAt bs p i) (sym (place_there p n within)) there)
      ∙ (λ t. cond (bit_in (get_or bs i d).masks (offset_there p n within t))
      (Some (value_in_row (get_or rows i []) (offset_there p n within t))) None)
      ∙ ap (λ b. cond b (Some (value_in_row (get_or rows i []) n)) None) one

-- ---- last blocks that are dropped

take_at : {X : Type 0} (xs : List X) (k i : ℕ) (d : X) → i < k → get_or (take k xs) i d ≡ get_or xs i d
take_at [] zero i d h = refl
take_at [] (suc k) i d h = refl
take_at (x ∷ xs) zero i d h = absurd (omega arith)
take_at (x ∷ xs) (suc k) zero d h = refl
take_at (x ∷ xs) (suc k) (suc i) d h = take_at xs k i d (omega arith)

take_length : {X : Type 0} (xs : List X) (k : ℕ) → k ≤ length xs → length (take k xs) ≡ k
take_length [] zero h = refl
take_length [] (suc k) h = absurd (omega arith)
take_length (x ∷ xs) zero h = refl
take_length (x ∷ xs) (suc k) h = ap (λ (n : ℕ). suc n) (take_length xs k (omega arith))

last_dropped : (a : Addr) (k : ℕ) (bs : List Block) (rows : List (List Val)) (d : Block) → length bs ≡ suc k → length rows ≡ suc k
    → block_has a (get_or bs k d) ≡ false → value_in (take k bs) (take k rows) a ≡ value_in bs rows a
last_dropped a k [] rows d e f h = absurd (omega arith)
last_dropped a k (b ∷ bs) [] d e f h = absurd (omega arith)
last_dropped a zero (b ∷ []) (r ∷ rows) d e f h =
    ap (λ t. cond t (Some (value_in_row r (offset_of a))) None) (sym h)
last_dropped a zero (b ∷ c ∷ bs) (r ∷ rows) d e f h = absurd (omega arith)
last_dropped a (suc k) (b ∷ bs) (r ∷ rows) d e f h =
    ap (cond (block_has a b) (Some (value_in_row r (offset_of a)))) (last_dropped a k bs rows d (omega arith) (omega arith) h)

no_address : (a : Addr) (b : Block) → ((n : ℕ) → n < 512 → bit_in b.masks n ≡ false) → block_has a b ≡ false
no_address a b none = ap (λ c. addr_eq (place_of a) b.place && c) (none (offset_of a) (offset_below a)) ∙ none_and (addr_eq (place_of a) b.place)
  where
    none_and : (b : Bool) → (b && false) ≡ false
    none_and true = refl
    none_and false = refl

pub trimmed_none : (bs : List Block) (rows : List (List Val)) → IsAscending bs → length rows ≡ length bs → ArePlaces bs
    → IsTrimmed bs rows bs rows
trimmed_none bs rows up long places = record { ascending = up; long = long; places = places; values = λ a. refl }

pub trimmed_more : (bs cs : List Block) (rows more : List (List Val)) → IsTrimmed bs rows cs more → 0 < length cs → (d : Block)
    → ((n : ℕ) → n < 512 → bit_in (get_or cs (length cs - 1) d).masks n ≡ false)
    → (k m : ℕ) → k ≡ length cs - 1 → m ≡ length more - 1 → IsTrimmed bs rows (take k cs) (take m more)
trimmed_more bs cs rows more t some d none k m e f =
    let same : m ≡ k = omega (arith, e, f, t.long) in
    let few : k ≤ length cs = omega (arith, e) in
    let long_k : length (take k cs) ≡ k = take_length cs k few in
    subst (λ (m : ℕ). IsTrimmed bs rows (take k cs) (take m more)) (sym same) (record {
      ascending = λ i j d lt h.
          let low : j < k = omega (arith, h, long_k) in
          (λ z. addr_cmp (take_at cs k i d (omega arith) z).place (take_at cs k j d low z).place)
          ∙ t.ascending i j d lt (omega arith);
      long = take_length more k (omega (arith, t.long, few)) ∙ sym long_k;
      places = λ i d h.
          let low : i < k = omega (arith, h, long_k) in
          ap (λ (b : Block). is_place b.place) (take_at cs k i d low) ∙ t.places i d (omega arith);
      values = λ a.
          last_dropped a k cs more d (omega (arith, e, some)) (omega (arith, e, some, t.long))
          (no_address a (get_or cs k d)
          (λ n h. ap (λ (l : ℕ). bit_in (get_or cs l d).masks n) e ∙ none n h))
          ∙ t.values a;
    })

pub trimmed_to : (bs cs : List Block) (rows more : List (List Val)) → IsTrimmed bs rows cs more → 0 < length cs → (d : Block)
    → ((n : ℕ) → n < 512 → bit_in (get_or cs (length cs - 1) d).masks n ≡ false)
    → (new : List Block) → new ≡ take (length cs - 1) cs → (left : List (List Val)) → left ≡ take (length more - 1) more
    → IsTrimmed bs rows new left
trimmed_to bs cs rows more t some d none new e left f =
    subst (λ (l : List Block). IsTrimmed bs rows l left) (sym e)
    (subst (λ (l : List (List Val)). IsTrimmed bs rows (take (length cs - 1) cs) l) (sym f)
    (trimmed_more bs cs rows more t some d none (length cs - 1) (length more - 1) refl refl))

-- ---- as a map

pub values_removed : (bs cs : List Block) (rows more : List (List Val)) (at : Addr)
    → ((a : Addr) → value_in cs more a ≡ cond (addr_eq a at) None (value_in bs rows a))
    → values_of cs more ≡ fin.remove (values_of bs rows) at
values_removed bs cs rows more at e = fin.same_map addr_total addr_apart _ _ (λ q.
    values_have cs more q
    ∙ e q
    ∙ ap (cond (addr_eq q at) None) (sym (values_have bs rows q))
    ∙ sym (fin.get-remove addr_total (values_of bs rows) at q))
