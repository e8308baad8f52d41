-- The operations of a memory keep it that all values are fine, those of the accumulators too.
use Rattle.std.proofs.Common.{◌≡◌, ℕ, zero, suc, ◌+◌, ◌<◌, ◌≤◌, List, [], ◌∷◌, Option, Some, None, Result, Ok, Err, Bool, true, false, cond, refl, sym, subst, ◌∙◌, arith}
use Rattle.std.specs.Prelude.{pos, if◌then◌else◌, nat_lt, slice_get, slice_set, replicate, option_map}
use Rattle.std.specs.Ordering.{int_eq}
use Rattle.std.specs.FinMap as fin
use Rattle.std.specs.FinSet as set
use Rattle.std.proofs.lemmas.Bool.{ltb-false}
use Rattle.al_core.specs.declared.values.Obj.{Obj}
use Rattle.al_core.specs.declared.values.Val.{Val}
use Rattle.al_core.specs.declared.values.Val.TheVariants.{Int, Ptr}
use Rattle.al_core.specs.declared.values.Addr.{Addr}
use Rattle.al_core.specs.declared.values.Addr.TheVariants.{Word, Head, Local}
use Rattle.al_core.specs.declared.values.Kind.{Kind}
use Rattle.al_core.specs.declared.values.Kind.TheVariants as kind
use Rattle.al_core.specs.declared.values.Trap.{Trap}
use Rattle.al_core.specs.declared.values.Trap.TheVariants as trap
use Rattle.al_core.specs.Orders.{obj_eq}
use Rattle.al_core.specs.Values.{of_kind}
use Rattle.al_core.specs.Memory.{Memory, has_object, word_in, value_at, put, add, remove}
use Rattle.al_core.specs.Access.{AccessRecord, Content, name_of, word_limit, with_memory, with_accesses, with_read, with_head, record_load, record_store, record_make, record_free, free_recorded, read_as, loaded, store_in, is_own, red_index, load_recorded, store_recorded, load_by, store_by, is_freeable, free_there, free_if, load, store, make, free, print}
use Rattle.al_core.specs.Action.{or_zero}
use Rattle.al_laws.proofs.Words.{same_some, some_none}
use Rattle.al_laws.proofs.Stays.{limited, get_put, get_add, get_remove}
use Rattle.al_graded_laws.proofs.Graded.{Fineness, Fine, FineAll, OkIs, Any}
use Rattle.al_graded_laws.proofs.Steady.{fine_set, fine_get, fine_replicate}
use Rattle.al_graded_laws.proofs.Alone.{Keeps}

module _ (F : Fineness) (zero_fine : F.num (pos 0)) where
  abbrev pub FineSums : Option AccessRecord → Type 0
  FineSums (Some accesses) = FineAll F accesses.accumulators
  FineSums None = Unit {0}

  abbrev pub FineObjects : Memory → Type 0
  FineObjects m = (o : Obj) (ws : List Val) → fin.get m.objects o ≡ Some ws → FineAll F ws

  -- every value is fine, and so is every object that may be made
  pub record Within (c : Content) : Type 0 where
    pub objects : FineObjects c.memory
    pub locals : FineAll F c.memory.locals
    pub sums : FineSums c.accesses
    pub counted : c.allocations.next ≤ c.allocations.words
    pub named : (k : ℕ) → k < word_limit c.allocations.allocator → F.obj (name_of c.allocations.allocator k)

  -- ---- the values of a memory

  pub fine_at : (l : List Val) (k : ℕ) (v : Val) → FineAll F l → slice_get l k ≡ Some v → Fine F v
  fine_at [] k v f e = absurd (some_none v (sym e))
  fine_at (x ∷ l) zero v f e = subst (Fine F) (same_some x v e) f.0
  fine_at (x ∷ l) (suc k) v f e = fine_at l k v f.1 e

  fine_word : (z : Option (List Val)) (w : ℕ) (v : Val) → ((ws : List Val) → z ≡ Some ws → FineAll F ws) → word_in z w ≡ Some v → Fine F v
  fine_word (Some ws) w v h e = fine_at ws w v (h ws refl) e
  fine_word None w v h e = absurd (some_none v (sym e))

  pub value_fine : (m : Memory) (a : Addr) (v : Val) → FineObjects m → FineAll F m.locals → value_at m a ≡ Some v → Fine F v
  value_fine m (Word o w) v h l e = fine_word (fin.get m.objects o) w v (h o) e
  value_fine m (Head o) v h l e = absurd (some_none v (sym e))
  value_fine m (Local k) v h l e = fine_at m.locals k v l e

  -- ---- loads

  fine_as : (k : Kind) (v : Val) → Fine F v → OkIs (Fine F) (of_kind k v)
  fine_as kind.Int (Int n) f = f
  fine_as kind.Int (Ptr o i) f = tt
  fine_as kind.Ptr (Int n) f = elim (int_eq n (pos 0)) as (λ b. OkIs (Fine F) (if b then Ok (Int n) else Err trap.Kind)) [ true ↦ f | false ↦ tt ]
  fine_as kind.Ptr (Ptr o i) f = f

  fine_read : (a : Addr) (k : Kind) (v : Val) → Fine F v → OkIs (Fine F) (read_as a k v)
  fine_read (Word o i) k v f = fine_as k v f
  fine_read (Head o) k v f = f
  fine_read (Local i) k v f = f

  fine_loaded : (m : Memory) (a : Addr) (k : Kind) (y : Option Val) → ((v : Val) → y ≡ Some v → Fine F v) → OkIs (Fine F) (loaded m a k y)
  fine_loaded m a k (Some v) f = fine_read a k v (f v refl)
  fine_loaded m a k None f = tt

  -- ---- records

  fine_head : (l : AccessRecord) (a : Addr) → FineAll F l.accumulators → FineAll F (with_head l a).accumulators
  fine_head l (Word o w) h = h
  fine_head l (Head o) h = h
  fine_head l (Local k) h = h

  fine_if_read : (b : Bool) (l : AccessRecord) (a : Addr) → FineAll F l.accumulators → FineAll F (if b then l else with_read l a).accumulators
  fine_if_read true l a h = h
  fine_if_read false l a h = h

  fine_record_load : (l : AccessRecord) (a : Addr) (y : Option Val) → FineAll F l.accumulators → FineAll F (record_load l a y).accumulators
  fine_record_load l a (Some v) h = fine_if_read (set.contains (with_head l a).touched a) (with_head l a) a (fine_head l a h)
  fine_record_load l a None h = fine_head l a h

  fine_record_store : (l : AccessRecord) (a : Addr) (y : Option Val) → FineAll F l.accumulators → FineAll F (record_store l a y).accumulators
  fine_record_store l a (Some v) h = fine_head l a h
  fine_record_store l a None h = fine_head l a h

  fine_record_free : (b : Bool) (l : AccessRecord) (o : Obj) → FineAll F l.accumulators → FineAll F (record_free l o b).accumulators
  fine_record_free true l o h = h
  fine_record_free false l o h = h

  fine_freed : (z : Option AccessRecord) (o : Obj) (there : Bool) → FineSums z → FineSums (free_recorded z o there)
  fine_freed None o there h = h
  fine_freed (Some l) o there h =
      elim (set.contains l.made o) as (λ b. FineAll F (if b then l else record_free l o there).accumulators) [ true ↦ h | false ↦ fine_record_free there l o h ]

  fine_made : (z : Option AccessRecord) (o : Obj) → FineSums z → FineSums (record_make z o)
  fine_made None o h = h
  fine_made (Some l) o h = h

  with_record : (c : Content) (z : Option AccessRecord) → FineSums z → Within c → Within (record c { accesses = z })
  with_record c z f h = record { objects = h.objects; locals = h.locals; sums = f; counted = h.counted; named = h.named }

  with_record_if : (b : Bool) (c : Content) (l : AccessRecord) → FineAll F l.accumulators → Within c → Within (if b then c else with_accesses c l)
  with_record_if true c l f h = h
  with_record_if false c l f h = with_record c (Some l) f h

  -- ---- changes of a memory

  pub put_object : (b : Bool) (z : Option (List Val)) (w : ℕ) (v : Val) (ws : List Val) → ((us : List Val) → z ≡ Some us → FineAll F us) → Fine F v
      → (if b then option_map (λ l. slice_set l w v) z else z) ≡ Some ws → FineAll F ws
  put_object true (Some us) w v ws h f e = subst (FineAll F) (same_some (slice_set us w v) ws e) (fine_set F us w v f (h us refl))
  put_object true None w v ws h f e = absurd (some_none ws (sym e))
  put_object false z w v ws h f e = h ws e

  put_within : (c : Content) (a : Addr) (v : Val) → Fine F v → Within c → Within (with_memory c (put c.memory a v))
  put_within c (Word o w) v f h = record {
    objects = λ q ws e. put_object (obj_eq q o) (fin.get c.memory.objects q) w v ws (h.objects q) f (sym (get_put c.memory o w v q) ∙ e);
    locals = h.locals;
    sums = h.sums;
    counted = h.counted;
    named = h.named;
  }
  put_within c (Head o) v f h = record { objects = h.objects; locals = h.locals; sums = h.sums; counted = h.counted; named = h.named }
  put_within c (Local k) v f h =
      record { objects = h.objects; locals = fine_set F c.memory.locals k v f h.locals; sums = h.sums; counted = h.counted; named = h.named }

  stored : (c : Content) (a : Addr) (v : Val) (y : Option Val) → Fine F v → Within c
      → OkIs {A = Unit {0}} Any (store_in c a v y).0 × Within (store_in c a v y).1
  stored c a v (Some old) f h = (tt, put_within c a v f h)
  stored c a v None f h = (tt, h)

  one_more : (b : Bool) (vs : List Val) (z : Option (List Val)) (ws : List Val) → FineAll F vs → ((us : List Val) → z ≡ Some us → FineAll F us)
      → cond b (Some vs) z ≡ Some ws → FineAll F ws
  one_more true vs z ws f h e = subst (FineAll F) (same_some vs ws e) f
  one_more false vs z ws f h e = h ws e

  one_less : (b : Bool) (z : Option (List Val)) (ws : List Val) → ((us : List Val) → z ≡ Some us → FineAll F us) → cond b None z ≡ Some ws → FineAll F ws
  one_less true z ws h e = absurd (some_none ws (sym e))
  one_less false z ws h e = h ws e

  pub remove_fine : (m : Memory) (o : Obj) → FineObjects m → FineObjects (remove m o)
  remove_fine m o h q ws e = one_less (obj_eq q o) (fin.get m.objects q) ws (h q) (sym (get_remove m o q) ∙ e)

  pub add_fine : (m : Memory) (o : Obj) (vs : List Val) → FineAll F vs → FineObjects m → FineObjects (add m o vs)
  add_fine m o vs f h q ws e = one_more (obj_eq q o) vs (fin.get m.objects q) ws f (h q) (sym (get_add m o vs q) ∙ e)

  made : (c : Content) (words : ℕ) (b : Bool) → nat_lt (word_limit c.allocations.allocator) (c.allocations.words + words + 1) ≡ b → Within c
      → OkIs F.obj (limited c b words).0 × Within (limited c b words).1
  made c words true e h = (tt, h)
  made c words false e h =
      let o = name_of c.allocations.allocator c.allocations.next in
      let low = ltb-false (word_limit c.allocations.allocator) (c.allocations.words + words + 1) e in (
        h.named c.allocations.next (omega (arith, low, h.counted)),
        record {
          objects = add_fine c.memory o (replicate words (Int (pos 0))) (fine_replicate F words zero_fine) h.objects;
          locals = h.locals;
          sums = fine_made c.accesses o h.sums;
          counted = omega (arith, h.counted);
          named = h.named;
        },
      )

  taken_out : (c : Content) (o : Obj) (b : Bool) → Within c → Within (free_there c o b).1
  taken_out c o true h = record { objects = remove_fine c.memory o h.objects; locals = h.locals; sums = h.sums; counted = h.counted; named = h.named }
  taken_out c o false h = h

  freed_if : (c : Content) (o : Obj) (b : Bool) → Within c → Within (free_if c o b).1
  freed_if c o true h =
      let there = has_object c.memory o in
      taken_out (record c { accesses = free_recorded c.accesses o there }) o there
      (with_record c (free_recorded c.accesses o there) (fine_freed c.accesses o there h.sums) h)
  freed_if c o false h = h

  -- ---- the operations

  load_from : (c : Content) (z : Option AccessRecord) (a : Addr) (k : Kind) → FineSums z → Within c
      → OkIs (Fine F) (load_by z c a k).0 × Within (load_by z c a k).1
  load_from c None a k f h = (fine_loaded c.memory a k (value_at c.memory a) (λ v e. value_fine c.memory a v h.objects h.locals e), h)
  load_from c (Some l) a k f h =
      elim (red_index l.reds a) as (λ i. OkIs (Fine F) (load_recorded c l a k i).0 × Within (load_recorded c l a k i).1) [
        | Some i ↦ (fine_read a k (or_zero (slice_get l.accumulators i)) (fine_get F l.accumulators i zero_fine f), h)
        | None ↦ (
          fine_loaded c.memory a k (value_at c.memory a) (λ v e. value_fine c.memory a v h.objects h.locals e),
          with_record_if (is_own l a) c (record_load l a (value_at c.memory a)) (fine_record_load l a (value_at c.memory a) f) h,
        )
      ]

  store_from : (c : Content) (z : Option AccessRecord) (a : Addr) (v : Val) → FineSums z → Fine F v → Within c
      → OkIs {A = Unit {0}} Any (store_by z c a v).0 × Within (store_by z c a v).1
  store_from c None a v f g h = stored c a v (value_at c.memory a) g h
  store_from c (Some l) a v f g h =
      elim (red_index l.reds a) as (λ i. OkIs {A = Unit {0}} Any (store_recorded c l a v i).0 × Within (store_recorded c l a v i).1) [
        | Some i ↦ (tt, with_record c (Some (record l { accumulators = slice_set l.accumulators i v })) (fine_set F l.accumulators i v g f) h)
        | None ↦ stored (if is_own l a then c else with_accesses c (record_store l a (value_at c.memory a))) a v (value_at c.memory a) g
            (with_record_if (is_own l a) c (record_store l a (value_at c.memory a)) (fine_record_store l a (value_at c.memory a) f) h)
      ]

  any_unit : (e : Result (Unit {0}) Trap) → OkIs Any e
  any_unit (Ok u) = tt
  any_unit (Err t) = tt

  pub load_keeps : (a : Addr) (k : Kind) → Keeps F zero_fine Within (Fine F) (load a k)
  unfolding load
  load_keeps a k = record { by = λ c h. load_from c c.accesses a k h.sums h }

  pub store_keeps : (a : Addr) (v : Val) → Fine F v → Keeps F zero_fine Within {A = Unit {0}} Any (store a v)
  unfolding store
  store_keeps a v f = record { by = λ c h. store_from c c.accesses a v h.sums f h }

  pub make_keeps : (words : ℕ) → Keeps F zero_fine Within F.obj (make words)
  unfolding make
  make_keeps words = record { by = λ c h. made c words (nat_lt (word_limit c.allocations.allocator) (c.allocations.words + words + 1)) refl h }

  pub free_keeps : (o : Obj) (i : ℕ) → Keeps F zero_fine Within {A = Unit {0}} Any (free o i)
  unfolding free
  free_keeps o i = record { by = λ c h. (any_unit (free_if c o (is_freeable o i)).0, freed_if c o (is_freeable o i) h) }

  pub print_keeps : (bytes : List ℕ) → Keeps F zero_fine Within {A = Unit {0}} Any (λ c. (Ok tt, print bytes c))
  unfolding print
  print_keeps bytes = record { by = λ c h. (tt, record { objects = h.objects; locals = h.locals; sums = h.sums; counted = h.counted; named = h.named }) }
