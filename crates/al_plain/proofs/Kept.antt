-- What an ordered map or set of std holds, as a finite map or set.
use Rattle.std.proofs.Common.{◌≡◌, List, [], ◌∷◌, Some, None, Bool, true, false, cond, ◌||◌, ◌&&◌, T, refl, sym, ap, subst, ◌∙◌}
use Rattle.std.specs.declared.cmp.Ordering.{Ordering}
use Rattle.std.specs.declared.cmp.Ordering.TheVariants.{Less}
use Rattle.std.specs.Ordering.{is_eq, is_lt, eq_by_cmp}
use Rattle.std.specs.Cmp.{IsTotalOrder, Equal-is, eq_by_cmp_equiv, tied_itself}
use Rattle.std.specs.List.{list_any, AllByRecursion}
use Rattle.std.specs.List.Sorted.{IsStrictlySortedBy}
use Rattle.std.specs.Map.{lookup, keys_of}
use Rattle.std.specs.BTreeMap.{BTreeMap, is_at}
use Rattle.std.specs.BTreeMap as tree
use Rattle.std.specs.BTreeSet.{BTreeSet}
use Rattle.std.specs.BTreeSet as sorted
use Rattle.std.specs.FinMap as map
use Rattle.std.specs.FinMap.{IsAntisymmetric, find, from_entries, from_sorted, entries}
use Rattle.std.specs.FinMap.Entries.{is_sorted, below_all}
use Rattle.std.specs.FinSet as set
use Rattle.std.specs.FinSet.{FinSet, from_list}
use Rattle.std.proofs.Math.Bool.{true≢false}
use Rattle.std.proofs.lemmas.Map.Keys.{sorted_head, sorted_tail}

or_cond : (a : Bool) (b : Bool) → cond a true b ≡ (a || b)
or_cond true b = refl
or_cond false b = refl

pub both : (a b : Bool) → T a → T b → T (a && b)
both true b h k = k
both false b h k = h

-- C is the order that the map or set has, and R the same as the definitions have it
module _ {K : Type 0} (C R : K → K → Ordering) (order : C ≡ R) (o : IsTotalOrder R) (same : IsAntisymmetric R) where
  at_turned : (k q : K) → is_at (C k) q ≡ eq_by_cmp R q k
  at_turned k q = ap (λ c. is_eq (c k q)) order ∙ (eq_by_cmp_equiv o).symm k q

  -- ---- sets

  pub set_contains : (s : BTreeSet K) (q : K) → sorted.contains C s q ≡ set.contains (from_list {R = R} s.keys) q
  set_contains s q = ap (λ c. sorted.contains c s q) order ∙ sym (set.contains-from_list o s.keys q)

  pub set_insert : (s t : BTreeSet K) (k : K) → ((q : K) → sorted.contains C t q ≡ cond (is_at (C k) q) true (sorted.contains C s q))
      → from_list {R = R} t.keys ≡ set.insert (from_list s.keys) k
  set_insert s t k e = set.same_set o same _ _ (λ q.
      sym (set_contains t q) ∙ e q
      ∙ (λ i. cond (at_turned k q i) true (set_contains s q i))
      ∙ or_cond (eq_by_cmp R q k) (set.contains (from_list s.keys) q)
      ∙ sym (set.contains-insert o (from_list s.keys) k q))

  -- ---- maps

  module _ {X : Type 0} where
    found : (es : List (K × X)) (q : K) → lookup (is_at (R q)) es ≡ find R q es
    found [] q = refl
    found (e ∷ es) q = ap (cond (is_at (R q) e.0) (Some e.1)) (found es q)

    pub map_get : (m : BTreeMap K X) (q : K) → tree.get C m q ≡ map.get (from_entries {R = R} m.entries) q
    map_get m q = ap (λ c. tree.get c m q) order ∙ found m.entries q ∙ sym (map.get-from_entries o m.entries q)

    pub map_insert : (m n : BTreeMap K X) (k : K) (v : X) → ((q : K) → tree.get C n q ≡ cond (is_at (C k) q) (Some v) (tree.get C m q))
        → from_entries {R = R} n.entries ≡ map.insert (from_entries m.entries) k v
    map_insert m n k v e = map.same_map o same _ _ (λ q.
        sym (map_get n q) ∙ e q
        ∙ (λ i. cond (at_turned k q i) (Some v) (map_get m q i))
        ∙ sym (map.get-insert o (from_entries m.entries) k v q))

    pub map_remove : (m n : BTreeMap K X) (k : K) → ((q : K) → tree.get C n q ≡ cond (is_at (C k) q) None (tree.get C m q))
        → from_entries {R = R} n.entries ≡ map.remove (from_entries m.entries) k
    map_remove m n k e = map.same_map o same _ _ (λ q.
        sym (map_get n q) ∙ e q
        ∙ (λ i. cond (at_turned k q i) None (map_get m q i))
        ∙ sym (map.get-remove o (from_entries m.entries) k q))

-- a set with more members
abbrev pub with_all : {K : Type 0} {R : K → K → Ordering} → FinSet R → List K → FinSet R
with_all s [] = s
with_all s (k ∷ ks) = with_all (set.insert s k) ks

-- ---- in order

module _ {K : Type 0} {R : K → K → Ordering} (o : IsTotalOrder R) (same : IsAntisymmetric R) where
  module _ {X : Type 0} where
    all_below : (k : K) (es : List (K × X)) → AllByRecursion (λ y. R k y ≡ Less) (keys_of es) → T (below_all R k es)
    all_below k [] h = tt
    all_below k (e ∷ es) h = both _ _ (subst (λ r. T (is_lt r)) (sym h.0) tt) (all_below k es h.1)

    pub rises : (es : List (K × X)) → IsStrictlySortedBy R (keys_of es) → T (is_sorted R es)
    rises [] h = tt
    rises (e ∷ es) h = both _ _ (all_below e.0 es (sorted_head R e.0 (keys_of es) h)) (rises es (sorted_tail R e.0 (keys_of es) h))

    pub entries_kept : (es : List (K × X)) → T (is_sorted R es) → entries (from_entries {R = R} es) ≡ es
    entries_kept es h =
        ap entries (map.same_map o same (from_entries es) (from_sorted es) (λ q. map.get-from_entries o es q ∙ sym (map.get-from_sorted R es q h)))
        ∙ map.entries-from_sorted R es h

  -- whether a member of a set passes a test
  or_true : (a : Bool) → (a || true) ≡ true
  or_true true = refl
  or_true false = refl

  any_of : (p : K → Bool) (x : K) (ks : List K) → p x ≡ true → list_any (eq_by_cmp R x) ks ≡ true → list_any p ks ≡ true
  any_of p x [] px h = h
  any_of p x (k ∷ ks) px h =
      elim (eq_by_cmp R x k) as (λ b. eq_by_cmp R x k ≡ b → (b || list_any (eq_by_cmp R x) ks) ≡ true → (p k || list_any p ks) ≡ true) [
        | true ↦ λ t _. ap (λ b. b || list_any p ks) (sym (ap p (same x k ((Equal-is (R x k)).0 t))) ∙ px)
        | false ↦ λ t r. ap (λ b. p k || b) (any_of p x ks px r) ∙ or_true (p k)
      ] refl h

  one_of : (p : K → Bool) (ks : List K) → list_any p ks ≡ true → (x : K) × (p x ≡ true) × (list_any (eq_by_cmp R x) ks ≡ true)
  one_of p [] h = absurd (true≢false (sym h))
  one_of p (k ∷ ks) h =
      elim (p k) as (λ b. p k ≡ b → (b || list_any p ks) ≡ true → (x : K) × (p x ≡ true) × (list_any (eq_by_cmp R x) (k ∷ ks) ≡ true)) [
        | true ↦ λ t _. (k, t, ap (λ b. b || list_any (eq_by_cmp R k) ks) (ap is_eq (tied_itself o k)))
        | false ↦ λ t r. let x = one_of p ks r in (x.0, x.1, ap (λ b. eq_by_cmp R x.0 k || b) x.2 ∙ or_true (eq_by_cmp R x.0 k))
      ] refl h

  any_within : (p : K → Bool) (xs ys : List K) → ((x : K) → list_any (eq_by_cmp R x) xs ≡ list_any (eq_by_cmp R x) ys) → list_any p xs ≡ true
      → list_any p ys ≡ true
  any_within p xs ys e h = let x = one_of p xs h in any_of p x.0 ys x.1 (sym (e x.0) ∙ x.2)

  same_truth : (a b : Bool) → (a ≡ true → b ≡ true) → (b ≡ true → a ≡ true) → a ≡ b
  same_truth true b h k = sym (h refl)
  same_truth false true h k = k refl
  same_truth false false h k = refl

  pub any_kept : (p : K → Bool) (ks : List K) → list_any p (set.items (from_list {R = R} ks)) ≡ list_any p ks
  any_kept p ks =
      let e : (x : K) → list_any (eq_by_cmp R x) (set.items (from_list {R = R} ks))
      ≡ list_any (eq_by_cmp R x) ks = λ x. sym (set.contains-items (from_list ks) x) ∙ set.contains-from_list o ks x in
      same_truth _ _ (any_within p (set.items (from_list ks)) ks e) (any_within p ks (set.items (from_list ks)) (λ x. sym (e x)))

  or_moved : (a b c : Bool) → ((a || b) || c) ≡ (b || (a || c))
  or_moved true true c = refl
  or_moved true false c = refl
  or_moved false b c = refl

  or_none : (a : Bool) → a ≡ (a || false)
  or_none true = refl
  or_none false = refl

  contains_with_all : (s : FinSet R) (ks : List K) (q : K) → set.contains (with_all s ks) q ≡ (set.contains s q || list_any (eq_by_cmp R q) ks)
  contains_with_all s [] q = or_none (set.contains s q)
  contains_with_all s (k ∷ ks) q =
      contains_with_all (set.insert s k) ks q ∙ ap (λ b. b || list_any (eq_by_cmp R q) ks) (set.contains-insert o s k q)
      ∙ or_moved (eq_by_cmp R q k) (set.contains s q) (list_any (eq_by_cmp R q) ks)

  pub with_all_is_union : (s : FinSet R) (ks : List K) → with_all s ks ≡ set.union s (from_list ks)
  with_all_is_union s ks = set.same_set o same _ _ (λ q.
      contains_with_all s ks q ∙ ap (λ b. set.contains s q || b) (sym (set.contains-from_list o ks q)) ∙ sym (set.contains-union o s (from_list ks) q))
