-- The entries of what an outcome wrote and made, by the lists of addresses and objects.
use Rattle.std.proofs.Common.{◌≡◌, List, [], ◌∷◌, length, arith, Option, Some, None, true, false, cond, ◌||◌, T, refl, sym, ap, ◌∙◌, subst}
use Rattle.std.specs.Prelude.{if◌then◌else◌, map, filter_map}
use Rattle.std.specs.List.{list_any, cons_option, AllByRecursion}
use Rattle.std.specs.List.Sorted.{IsStrictlySortedBy}
use Rattle.std.specs.declared.cmp.Ordering.{Ordering}
use Rattle.std.specs.declared.cmp.Ordering.TheVariants.{Less}
use Rattle.std.specs.Ordering.{is_lt, eq_by_cmp}
use Rattle.std.specs.Cmp.{IsTotalOrder, Equal-is}
use Rattle.std.specs.FinMap as fin
use Rattle.std.specs.FinMap.{FinMap, IsAntisymmetric, find}
use Rattle.std.specs.FinMap.Entries.{is_sorted, below_all}
use Rattle.std.specs.FinSet as set
use Rattle.std.specs.FinSet.{FinSet, from_list}
use Rattle.std.proofs.lemmas.Map.Keys.{sorted_head, sorted_tail}
use Rattle.al_core.specs.declared.choices.Red.{Red}
use Rattle.al_core.specs.declared.values.Val.{Val}
use Rattle.al_core.specs.declared.values.Addr.{Addr}
use Rattle.al_core.specs.declared.values.Obj.{Obj}
use Rattle.al_core.specs.Orders.{obj_cmp, addr_cmp}
use Rattle.al_core.specs.Memory.{Memory, value_at}
use Rattle.al_core.specs.Chunk.{with_present, writes_of, made_objects, sum_of}
use Rattle.al_core.specs.Applied.{with_sums}
use Rattle.al_laws.proofs.Orders.{obj_total, obj_apart, addr_total, addr_apart}
use Rattle.al_laws.proofs.Overlay.{get_written, get_made_objects}
use Rattle.al_plain.proofs.Kept.{both, entries_kept}

-- ---- the keys that have a value, with it

module _ {K X : Type 0} {R : K → K → Ordering} (total : IsTotalOrder R) (apart : IsAntisymmetric R) (f : K → Option X) where
  abbrev pub there : K → Option (K × X)
  there k = with_present k (f k)

  same_key : (x y : K) → eq_by_cmp R x y ≡ true → x ≡ y
  same_key x y t = apart x y ((Equal-is (R x y)).0 t)

  find_there : (ks : List K) (q : K) → find R q (filter_map there ks) ≡ (if list_any (eq_by_cmp R q) ks then f q else None)
  find_there [] q = refl
  find_there (k ∷ ks) q =
      elim (f k) as (λ x. f k ≡ x
      → find R q (cons_option (with_present k x) (filter_map there ks)) ≡ (if eq_by_cmp R q k || list_any (eq_by_cmp R q) ks then f q else None)) [
        | None ↦ λ e. find_there ks q
            ∙ elim (eq_by_cmp R q k) as (λ t. eq_by_cmp R q k ≡ t
            → (if list_any (eq_by_cmp R q) ks then f q else None) ≡ (if t || list_any (eq_by_cmp R q) ks then f q else None)) [
              | true ↦ λ t.
                  let none = ap f (same_key q k t) ∙ e in
                  elim (list_any (eq_by_cmp R q) ks) as (λ z. (if z then f q else None) ≡ f q) [ true ↦ refl | false ↦ sym none ]
              | false ↦ λ t. refl
            ] refl
        | Some v ↦ λ e. elim (eq_by_cmp R q k) as (λ t. eq_by_cmp R q k ≡ t
            → cond t (Some v) (find R q (filter_map there ks)) ≡ (if t || list_any (eq_by_cmp R q) ks then f q else None)) [
              | true ↦ λ t. sym (ap f (same_key q k t) ∙ e)
              | false ↦ λ t. find_there ks q
            ] refl
      ] refl

  there_below : (k : K) (ks : List K) → AllByRecursion (λ y. R k y ≡ Less) ks → T (below_all R k (filter_map there ks))
  there_below k [] h = tt
  there_below k (b ∷ ks) h =
      elim (f b) as (λ x. T (below_all R k (cons_option (with_present b x) (filter_map there ks)))) [
        | None ↦ there_below k ks h.1
        | Some v ↦ both _ _ (subst (λ r. T (is_lt r)) (sym h.0) tt) (there_below k ks h.1)
      ]

  there_sorted : (ks : List K) → IsStrictlySortedBy R ks → T (is_sorted R (filter_map there ks))
  there_sorted [] h = tt
  there_sorted (b ∷ ks) h =
      let rest = there_sorted ks (sorted_tail R b ks h) in
      elim (f b) as (λ x. T (is_sorted R (cons_option (with_present b x) (filter_map there ks)))) [
        | None ↦ rest
        | Some v ↦ both _ _ (there_below b ks (sorted_head R b ks h)) rest
      ]

  there_entries : (ks : List K) (s : FinSet R) (es : FinMap R X)
      → ((q : K) → find R q (fin.entries es) ≡ (if set.contains s q then f q else None))
      → from_list ks ≡ s → IsStrictlySortedBy R ks → filter_map there ks ≡ fin.entries es
  there_entries ks s es got e h =
      sym (ap fin.entries (fin.same_map total apart es (fin.from_entries (filter_map there ks)) (λ q.
      fin.get-entries es q ∙ got q
      ∙ ap (λ b. if b then f q else None) (ap (λ s. set.contains s q) (sym e) ∙ set.contains-from_list total ks q)
      ∙ sym (find_there ks q) ∙ sym (fin.get-from_entries total (filter_map there ks) q)))
      ∙ entries_kept total apart (filter_map there ks) (there_sorted ks h))

module _ (m : Memory) where
  abbrev pub written : Addr → Option (Addr × Val)
  written a = with_present a (value_at m a)

  abbrev pub made_at : Obj → Option (Obj × List Val)
  made_at o = with_present o (fin.get m.objects o)

  pub written_entries : (ks : List Addr) (s : FinSet addr_cmp) → from_list ks ≡ s → IsStrictlySortedBy addr_cmp ks
      → filter_map written ks ≡ fin.entries (writes_of m s)
  written_entries ks s = there_entries addr_total addr_apart (value_at m) ks s (writes_of m s) (get_written m s)

  pub made_entries : (ks : List Obj) (s : FinSet obj_cmp) → from_list ks ≡ s → IsStrictlySortedBy obj_cmp ks
      → filter_map made_at ks ≡ fin.entries (made_objects m s)
  made_entries ks s = there_entries obj_total obj_apart (fin.get m.objects) ks s (made_objects m s) (get_made_objects m s)

-- where nothing was gathered, nothing is joined
pub none_gathered : (reds : List Red) (vs : List Val) (m : Memory) → length vs ≡ 0 → m ≡ with_sums reds (map sum_of vs) m
none_gathered [] vs m e = refl
none_gathered (r ∷ reds) [] m e = refl
none_gathered (r ∷ reds) (v ∷ vs) m e = absurd (omega arith)
