-- An outcome laid over the memory that the chunk ran on gives the chunk's private memory.
use Rattle.std.proofs.Common.{◌≡◌, ◌≢◌, ℕ, zero, suc, List, [], ◌∷◌, Option, Some, None, Bool, true, false, cond, ◌||◌, ◌&&◌, T, refl, sym, ap, ◌∙◌}
use Rattle.std.specs.Prelude.{if◌then◌else◌, is_some, option_map, slice_get, slice_set, filter_map}
use Rattle.std.specs.List.{list_any, cons_option}
use Rattle.std.specs.declared.cmp.Ordering.{Ordering}
use Rattle.std.specs.declared.cmp.Ordering.TheVariants.{Less, Equal, Greater}
use Rattle.std.specs.Ordering.{is_eq, is_lt, eq_by_cmp}
use Rattle.std.specs.Cmp.{IsTotalOrder, Equal-is}
use Rattle.std.specs.FinMap as fin
use Rattle.std.specs.FinMap.Entries.{find, is_sorted, below_all}
use Rattle.std.specs.FinSet as set
use Rattle.std.specs.FinSet.{FinSet}
use Rattle.std.proofs.Math.Bool.{true≢false}
use Rattle.al_core.specs.declared.values.Val.{Val}
use Rattle.al_core.specs.declared.values.Addr.{Addr}
use Rattle.al_core.specs.declared.values.Addr.TheVariants.{Word, Head, Local}
use Rattle.al_core.specs.declared.values.Obj.{Obj}
use Rattle.al_core.specs.Orders.{obj_cmp, obj_eq, addr_cmp, addr_eq}
use Rattle.al_core.specs.Memory.{Memory, word_in, value_at, put, add, remove}
use Rattle.al_core.specs.Chunk.{with_present, writes_of, made_objects}
use Rattle.al_core.specs.Applied.{with_writes, with_made, without_freed}
use Rattle.al_laws.proofs.Orders.{obj_total, addr_total, obj_equal, obj_itself, addr_equal, addr_itself}
use Rattle.al_laws.proofs.Words.{get_set_other}
use Rattle.al_laws.specs.PrivateMemories.{is_among}
use Rattle.al_laws.proofs.Stays.{get_put, get_remove}

-- ---- sorted lists have each key once

both_first : (a b : Bool) → T (a && b) → T a
both_first true b h = tt
both_first false b h = h

both_second : (a b : Bool) → T (a && b) → T b
both_second true b h = h
both_second false b h = absurd h

module _ {K X : Type 0} (R : K → K → Ordering) (o : IsTotalOrder R) where
  not_found : (q x : K) (es : List (K × X)) → R q x ≡ Equal → T (below_all R x es) → find R q es ≡ None
  not_found q x [] tie h = refl
  not_found q x (e ∷ es) tie h =
      elim (R x e.0) as (λ r. R x e.0 ≡ r → T (is_lt r && below_all R x es) → find R q (e ∷ es) ≡ None) [
        | Less ↦ λ t h. ap (λ r. cond (is_eq r) (Some e.1) (find R q es)) (o.congr q x e.0 tie ∙ t) ∙ not_found q x es tie h
        | Equal ↦ λ t h. absurd h
        | Greater ↦ λ t h. absurd h
      ] refl h

-- ---- a value laid over another, where there is one

abbrev pub over : Option Val → Option Val → Option Val
over (Some v) (Some x) = Some v
over (Some v) None = None
over None x = x

pub over_same : (x y : Option Val) → is_some x ≡ is_some y → over x y ≡ x
over_same (Some v) (Some x) e = refl
over_same (Some v) None e = absurd (true≢false e)
over_same None (Some x) e = absurd (true≢false (sym e))
over_same None None e = refl

pub set_over : (l : List Val) (i : ℕ) (v : Val) → slice_get (slice_set l i v) i ≡ over (Some v) (slice_get l i)
set_over [] i v = refl
set_over (x ∷ l) zero v = refl
set_over (x ∷ l) (suc i) v = set_over l i v

word_set : (x : Option (List Val)) (i : ℕ) (v : Val) → word_in (option_map (λ l. slice_set l i v) x) i ≡ over (Some v) (word_in x i)
word_set (Some l) i v = set_over l i v
word_set None i v = refl

word_set_other : (x : Option (List Val)) (i k : ℕ) (v : Val) → i ≢ k → word_in (option_map (λ l. slice_set l k v) x) i ≡ word_in x i
word_set_other (Some l) i k v n = get_set_other l i k v n
word_set_other None i k v n = refl

-- ---- written words

pub put_here : (m : Memory) (q : Obj) (i : ℕ) (v : Val) → word_in (fin.get (put m (Word q i) v).objects q) i ≡ over (Some v) (word_in (fin.get m.objects q) i)
put_here m q i v =
    ap (λ x. word_in x i)
    (get_put m q i v q ∙ ap (λ b. if b then option_map (λ l. slice_set l i v) (fin.get m.objects q) else fin.get m.objects q) (obj_itself q))
    ∙ word_set (fin.get m.objects q) i v

pub put_elsewhere : (m : Memory) (o : Obj) (w : ℕ) (v : Val) (q : Obj) (i : ℕ) → Word q i ≢ Word o w
    → word_in (fin.get (put m (Word o w) v).objects q) i ≡ word_in (fin.get m.objects q) i
put_elsewhere m o w v q i n =
    ap (λ x. word_in x i) (get_put m o w v q)
    ∙ elim (obj_eq q o) as
    (λ b. obj_eq q o ≡ b
    → word_in (if b then option_map (λ l. slice_set l w v) (fin.get m.objects q) else fin.get m.objects q) i ≡ word_in (fin.get m.objects q) i) [
      | true ↦ λ t. word_set_other (fin.get m.objects q) i w v (λ e. n (λ z. Word (obj_equal q o t z) (e z)))
      | false ↦ λ t. refl
    ] refl

differs : (a b : Addr) → addr_eq a b ≡ false → a ≢ b
differs a b f e = true≢false (sym (addr_itself a) ∙ ap (addr_eq a) e ∙ f)

pub written_words : (es : List (Addr × Val)) (m : Memory) (q : Obj) (i : ℕ) → T (is_sorted addr_cmp es)
    → word_in (fin.get (with_writes es m).objects q) i ≡ over (find addr_cmp (Word q i) es) (word_in (fin.get m.objects q) i)
written_words [] m q i s = refl
written_words ((Word o w, v) ∷ es) m q i s =
    written_words es (put m (Word o w) v) q i (both_second (below_all addr_cmp (Word o w) es) (is_sorted addr_cmp es) s)
    ∙ elim (addr_eq (Word q i) (Word o w)) as (λ b. addr_eq (Word q i) (Word o w) ≡ b
    → over (find addr_cmp (Word q i) es) (word_in (fin.get (put m (Word o w) v).objects q) i) ≡ over (cond b (Some v) (find addr_cmp (Word q i) es))
    (word_in (fin.get m.objects q) i)) [
      | true ↦ λ t.
          let none = not_found addr_cmp addr_total (Word q i) (Word o w) es ((Equal-is (addr_cmp (Word q i) (Word o w))).0 t)
          (both_first (below_all addr_cmp (Word o w) es) (is_sorted addr_cmp es) s) in
          ap (λ x. over x (word_in (fin.get (put m (Word o w) v).objects q) i)) none
          ∙ ap (λ a. word_in (fin.get (put m a v).objects q) i) (sym (addr_equal (Word q i) (Word o w) t)) ∙ put_here m q i v
      | false ↦ λ t. ap (over (find addr_cmp (Word q i) es)) (put_elsewhere m o w v q i (differs (Word q i) (Word o w) t))
    ] refl
written_words ((Head o, v) ∷ es) m q i s = written_words es m q i (both_second (below_all addr_cmp (Head o) es) (is_sorted addr_cmp es) s)
written_words ((Local k, v) ∷ es) m q i s = written_words es (put m (Local k) v) q i (both_second (below_all addr_cmp (Local k) es) (is_sorted addr_cmp es) s)

pub written_locals : (es : List (Addr × Val)) (m : Memory) (k : ℕ) → T (is_sorted addr_cmp es)
    → slice_get (with_writes es m).locals k ≡ over (find addr_cmp (Local k) es) (slice_get m.locals k)
written_locals [] m k s = refl
written_locals ((Word o w, v) ∷ es) m k s = written_locals es (put m (Word o w) v) k (both_second (below_all addr_cmp (Word o w) es) (is_sorted addr_cmp es) s)
written_locals ((Head o, v) ∷ es) m k s = written_locals es m k (both_second (below_all addr_cmp (Head o) es) (is_sorted addr_cmp es) s)
written_locals ((Local j, v) ∷ es) m k s =
    written_locals es (put m (Local j) v) k (both_second (below_all addr_cmp (Local j) es) (is_sorted addr_cmp es) s)
    ∙ elim (addr_eq (Local k) (Local j)) as (λ b. addr_eq (Local k) (Local j) ≡ b
    → over (find addr_cmp (Local k) es) (slice_get (slice_set m.locals j v) k) ≡ over (cond b (Some v) (find addr_cmp (Local k) es)) (slice_get m.locals k)) [
      | true ↦ λ t.
          let none = not_found addr_cmp addr_total (Local k) (Local j) es ((Equal-is (addr_cmp (Local k) (Local j))).0 t)
          (both_first (below_all addr_cmp (Local j) es) (is_sorted addr_cmp es) s) in
          ap (λ x. over x (slice_get (slice_set m.locals j v) k)) none ∙ ap (λ a. slice_get (put m a v).locals k) (sym (addr_equal (Local k) (Local j) t))
          ∙ set_over m.locals k v
      | false ↦ λ t. ap (over (find addr_cmp (Local k) es)) (get_set_other m.locals k j v (λ e. differs (Local k) (Local j) t (ap (λ k. Local k) e)))
    ] refl

-- an object is there exactly where it was
pub written_there : (es : List (Addr × Val)) (m : Memory) (q : Obj) → is_some (fin.get (with_writes es m).objects q) ≡ is_some (fin.get m.objects q)
written_there [] m q = refl
written_there ((Word o w, v) ∷ es) m q =
    written_there es (put m (Word o w) v) q ∙ ap is_some (get_put m o w v q)
    ∙ elim (obj_eq q o) as
    (λ b. is_some (if b then option_map (λ l. slice_set l w v) (fin.get m.objects q) else fin.get m.objects q) ≡ is_some (fin.get m.objects q)) [
      | true ↦ elim (fin.get m.objects q) as (λ x. is_some (option_map (λ l. slice_set l w v) x) ≡ is_some x) [ None ↦ refl | Some l ↦ refl ]
      | false ↦ refl
    ]
written_there ((Head o, v) ∷ es) m q = written_there es m q
written_there ((Local k, v) ∷ es) m q = written_there es (put m (Local k) v) q

-- ---- made objects

pub get_with_made : (es : List (Obj × List Val)) (m : Memory) (q : Obj) → T (is_sorted obj_cmp es)
    → fin.get (with_made es m).objects q ≡ elim (find obj_cmp q es) as (λ _. Option (List Val)) [ None ↦ fin.get m.objects q | Some ws ↦ Some ws ]
get_with_made [] m q s = refl
get_with_made (e ∷ es) m q s =
    get_with_made es (add m e.0 e.1) q (both_second (below_all obj_cmp e.0 es) (is_sorted obj_cmp es) s)
    ∙ elim (obj_eq q e.0) as (λ b. obj_eq q e.0 ≡ b
    → elim (find obj_cmp q es) as (λ _. Option (List Val)) [
      | None ↦ fin.get (add m e.0 e.1).objects q
      | Some ws ↦ Some ws
    ] ≡ elim (cond b (Some e.1) (find obj_cmp q es)) as (λ _. Option (List Val)) [ None ↦ fin.get m.objects q | Some ws ↦ Some ws ]) [
      | true ↦ λ t.
          let none = not_found obj_cmp obj_total q e.0 es ((Equal-is (obj_cmp q e.0)).0 t) (both_first (below_all obj_cmp e.0 es) (is_sorted obj_cmp es) s) in
          ap (λ x. elim x as (λ _. Option (List Val)) [ None ↦ fin.get (add m e.0 e.1).objects q | Some ws ↦ Some ws ]) none
          ∙ fin.get-insert obj_total m.objects e.0 e.1 q ∙ ap (λ b. cond b (Some e.1) (fin.get m.objects q)) t
      | false ↦ λ t. ap (λ x. elim (find obj_cmp q es) as (λ _. Option (List Val)) [
        | None ↦ x
        | Some ws ↦ Some ws
      ]) (fin.get-insert obj_total m.objects e.0 e.1 q ∙ ap (λ b. cond b (Some e.1) (fin.get m.objects q)) t)
    ] refl

pub locals_with_made : (es : List (Obj × List Val)) (m : Memory) → (with_made es m).locals ≡ m.locals
locals_with_made [] m = refl
locals_with_made (e ∷ es) m = locals_with_made es (add m e.0 e.1)

-- ---- what an outcome has

find_written : (m : Memory) (items : List Addr) (a : Addr)
    → find addr_cmp a (filter_map (λ b. with_present b (value_at m b)) items) ≡ (if list_any (eq_by_cmp addr_cmp a) items then value_at m a else None)
find_written m [] a = refl
find_written m (b ∷ items) a =
    elim (value_at m b) as
    (λ x. value_at m b ≡ x
    → find addr_cmp a (cons_option (with_present b x) (filter_map (λ b. with_present b (value_at m b)) items)) ≡
    (if addr_eq a b || list_any (eq_by_cmp addr_cmp a) items then value_at m a else None)) [
      | None ↦ λ e. find_written m items a
          ∙ elim (addr_eq a b) as
          (λ t. addr_eq a b ≡ t
          → (if list_any (eq_by_cmp addr_cmp a) items then value_at m a else None) ≡
          (if t || list_any (eq_by_cmp addr_cmp a) items then value_at m a else None)) [
            | true ↦ λ t. let none = ap (value_at m) (addr_equal a b t)
                ∙ e in elim (list_any (eq_by_cmp addr_cmp a) items) as (λ z. (if z then value_at m a else None) ≡ value_at m a) [
                  | true ↦ refl
                  | false ↦ sym none
                ]
            | false ↦ λ t. refl
          ] refl
      | Some v ↦ λ e. elim (addr_eq a b) as
          (λ t. addr_eq a b ≡ t
          → cond t (Some v) (find addr_cmp a (filter_map (λ b. with_present b (value_at m b)) items)) ≡
          (if t || list_any (eq_by_cmp addr_cmp a) items then value_at m a else None)) [
            | true ↦ λ t. sym (ap (value_at m) (addr_equal a b t) ∙ e)
            | false ↦ λ t. find_written m items a
          ] refl
    ] refl

find_made : (m : Memory) (items : List Obj) (q : Obj)
    → find obj_cmp q (filter_map (λ o. with_present o (fin.get m.objects o)) items) ≡
    (if list_any (eq_by_cmp obj_cmp q) items then fin.get m.objects q else None)
find_made m [] q = refl
find_made m (o ∷ items) q =
    elim (fin.get m.objects o) as
    (λ x. fin.get m.objects o ≡ x
    → find obj_cmp q (cons_option (with_present o x) (filter_map (λ o. with_present o (fin.get m.objects o)) items)) ≡
    (if obj_eq q o || list_any (eq_by_cmp obj_cmp q) items then fin.get m.objects q else None)) [
      | None ↦ λ e. find_made m items q
          ∙ elim (obj_eq q o) as
          (λ t. obj_eq q o ≡ t
          → (if list_any (eq_by_cmp obj_cmp q) items then fin.get m.objects q else None) ≡
          (if t || list_any (eq_by_cmp obj_cmp q) items then fin.get m.objects q else None)) [
            | true ↦ λ t. let none = ap (fin.get m.objects) (obj_equal q o t)
                ∙ e in elim (list_any (eq_by_cmp obj_cmp q) items) as (λ z. (if z then fin.get m.objects q else None) ≡ fin.get m.objects q) [
                  | true ↦ refl
                  | false ↦ sym none
                ]
            | false ↦ λ t. refl
          ] refl
      | Some ws ↦ λ e. elim (obj_eq q o) as
          (λ t. obj_eq q o ≡ t
          → cond t (Some ws) (find obj_cmp q (filter_map (λ o. with_present o (fin.get m.objects o)) items)) ≡
          (if t || list_any (eq_by_cmp obj_cmp q) items then fin.get m.objects q else None)) [
            | true ↦ λ t. sym (ap (fin.get m.objects) (obj_equal q o t) ∙ e)
            | false ↦ λ t. find_made m items q
          ] refl
    ] refl

pub get_written : (m : Memory) (touched : FinSet addr_cmp) (a : Addr)
    → find addr_cmp a (fin.entries (writes_of m touched)) ≡ (if set.contains touched a then value_at m a else None)
unfolding writes_of
get_written m touched a =
    sym (fin.get-entries (fin.from_entries (filter_map (λ b. with_present b (value_at m b)) (set.items touched))) a)
    ∙ fin.get-from_entries addr_total (filter_map (λ b. with_present b (value_at m b)) (set.items touched)) a
    ∙ find_written m (set.items touched) a ∙ ap (λ b. if b then value_at m a else None) (sym (set.contains-items touched a))

pub get_made_objects : (m : Memory) (made : FinSet obj_cmp) (q : Obj)
    → find obj_cmp q (fin.entries (made_objects m made)) ≡ (if set.contains made q then fin.get m.objects q else None)
unfolding made_objects
get_made_objects m made q =
    sym (fin.get-entries (fin.from_entries (filter_map (λ o. with_present o (fin.get m.objects o)) (set.items made))) q)
    ∙ fin.get-from_entries obj_total (filter_map (λ o. with_present o (fin.get m.objects o)) (set.items made)) q
    ∙ find_made m (set.items made) q ∙ ap (λ b. if b then fin.get m.objects q else None) (sym (set.contains-items made q))

-- ---- freed objects

gone_either : (b : Bool) (x : Option (List Val)) → x ≡ None → (if b then None else x) ≡ None
gone_either true x e = refl
gone_either false x e = e

pub get_without_freed : (os : List Obj) (m : Memory) (q : Obj) → fin.get (without_freed os m).objects q ≡ (if is_among os q then None else fin.get m.objects q)
get_without_freed [] m q = refl
get_without_freed (o ∷ os) m q =
    get_without_freed os (remove m o) q
    ∙ ap (λ x. if is_among os q then None else x) (get_remove m o q)
    ∙ elim (obj_eq q o) as
    (λ b. (if is_among os q then None else cond b None (fin.get m.objects q)) ≡ (if b || is_among os q then None else fin.get m.objects q)) [
      | true ↦ gone_either (is_among os q) None refl
      | false ↦ refl
    ]

pub locals_without_freed : (os : List Obj) (m : Memory) → (without_freed os m).locals ≡ m.locals
locals_without_freed [] m = refl
locals_without_freed (o ∷ os) m = locals_without_freed os (remove m o)
