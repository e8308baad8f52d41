-- What an ordered map of std holds, as a finite map.
use Rattle.std.proofs.Common.{◌≡◌, ℕ, zero, suc, ◌-◌, ◌<◌, List, [], ◌∷◌, Some, None, is_some, cond, refl, sym, ap, ◌∙◌, arith}
use Rattle.std.proofs.Math.Bool.{true≢false}
use Rattle.std.specs.declared.cmp.Ordering.{Ordering}
use Rattle.std.specs.Ordering.{is_eq, eq_by_cmp}
use Rattle.std.specs.Cmp.{IsTotalOrder, eq_by_cmp_equiv}
use Rattle.std.specs.Map.{lookup}
use Rattle.std.specs.BTreeMap.{BTreeMap, is_at}
use Rattle.std.specs.BTreeMap as tree
use Rattle.std.specs.FinMap as map
use Rattle.std.specs.FinMap.{FinMap, IsAntisymmetric, find, from_entries}

-- C is the order that the map has, and R the same as the definitions have it
module _ {K : Type 0} (C R : K → K → Ordering) (order : C ≡ R) (o : IsTotalOrder R) (same : IsAntisymmetric R) where
  found : {X : Type 0} (es : List (K × X)) (q : K) → lookup (is_at (R q)) es ≡ find R q es
  found [] q = refl
  found (e ∷ es) q = ap (cond (is_at (R q) e.0) (Some e.1)) (found es q)

  at_turned : (k q : K) → is_at (C k) q ≡ eq_by_cmp R q k
  at_turned k q = ap (λ c. is_eq (c k q)) order ∙ (eq_by_cmp_equiv o).symm k q

  pub map_get : {X : Type 0} (m : BTreeMap K X) (q : K) → tree.get C m q ≡ map.get (from_entries {R = R} m.entries) q
  map_get m q = ap (λ c. tree.get c m q) order ∙ found m.entries q ∙ sym (map.get-from_entries o m.entries q)

  pub map_insert : {X : Type 0} (m n : BTreeMap K X) (k : K) (v : X)
      → ((q : K) → tree.get C n q ≡ cond (is_at (C k) q) (Some v) (tree.get C m q))
      → from_entries {R = R} n.entries ≡ map.insert (from_entries m.entries) k v
  map_insert m n k v e = map.same_map o same _ _ (λ q.
      sym (map_get n q)
      ∙ e q
      ∙ (λ i. cond (at_turned k q i) (Some v) (map_get m q i))
      ∙ sym (map.get-insert o (from_entries m.entries) k v q))

  pub map_remove : {X : Type 0} (m n : BTreeMap K X) (k : K)
      → ((q : K) → tree.get C n q ≡ cond (is_at (C k) q) None (tree.get C m q))
      → from_entries {R = R} n.entries ≡ map.remove (from_entries m.entries) k
  map_remove m n k e = map.same_map o same _ _ (λ q.
      sym (map_get n q)
      ∙ e q
      ∙ (λ i. cond (at_turned k q i) None (map_get m q i))
      ∙ sym (map.get-remove o (from_entries m.entries) k q))

-- ---- fewer entries

module _ {K X : Type 0} {R : K → K → Ordering} (o : IsTotalOrder R) (m : FinMap R X) (k : K) (v : X) where
  not_empty : map.get m k ≡ Some v → (n : ℕ) → map.len m ≡ n → 0 < n
  not_empty e zero z =
      absurd (true≢false (sym (ap is_some e) ∙ ap (λ m. is_some (map.get m k)) (map.empty_of_len m z) ∙ ap is_some (map.get-empty R k)))
  not_empty e (suc n) z = omega arith

  -- a map without an entry that it has
  pub fewer : map.get m k ≡ Some v → map.len (map.remove m k) < map.len m
  fewer e =
      let some = not_empty e (map.len m) refl in
      let less : map.len (map.remove m k) ≡ map.len m - 1 =
      map.len-remove o m k ∙ ap (λ b. cond b (map.len m - 1) (map.len m)) (ap is_some e) in
      omega arith
