-- No reduction variable is among what a chunk read or touched: an instance of the abstraction theorem.
use Rattle.std.proofs.Common.{arith, ◌≡◌, ℕ, ◌+◌, List, Option, Some, None, Result, Ok, Bool, true, false, ◌||◌, refl, sym, ap, subst, ◌∙◌}
use Rattle.std.specs.Prelude.{if◌then◌else◌, is_some, nat_lt}
use Rattle.std.specs.FinSet as set
use Rattle.std.specs.FinSet.{FinSet, contains-empty}
use Rattle.std.proofs.Math.Bool.{true≢false}
use Rattle.al_core.specs.declared.choices.Red.{Red}
use Rattle.al_core.specs.declared.values.Val.{Val}
use Rattle.al_core.specs.declared.values.Addr.{Addr}
use Rattle.al_core.specs.declared.values.Addr.TheVariants.{Word, Head, Local}
use Rattle.al_core.specs.declared.values.Kind.{Kind}
use Rattle.al_core.specs.declared.values.Trap.{Trap}
use Rattle.al_core.specs.declared.values.Obj.{Obj}
use Rattle.al_core.specs.Orders.{addr_cmp, addr_eq}
use Rattle.al_core.specs.Memory.{Memory, has_object, value_at}
use Rattle.al_core.specs.Access.{AccessRecord, Content, with_accesses, with_head, record_load, record_store, record_make, record_free, free_recorded, is_own, red_index, load_recorded, store_recorded, load_by, store_by, store_in, word_limit, name_of, is_freeable, free_there, free_if, load, store, make, free, print, in_iteration}
use Rattle.al_core.specs.Iteration.{Execution, Finished}
use Rattle.al_core.specs.Chunk.{chunk_start, chunk_end, chunk_runs, chunk_from, outcome_of, outcome}
use Rattle.al_laws.proofs.Orders.{addr_total, addr_equal}
use Rattle.al_laws.specs.Commits.{IsVariable, ReductionsAreUnrecorded}
use Rattle.al_laws.proofs.Keeps.{KeepsOp, KeepsWorld, chunk_holds}
use Rattle.al_laws.proofs.Stays.{limited}

module _ (reds : List Red) where
  abbrev is_red : Addr → Bool
  is_red a = is_some (red_index reds a)

  -- a set without reduction variables
  abbrev Clear : FinSet addr_cmp → Type 0
  Clear s = (a : Addr) → set.contains s a ≡ true → IsVariable a → is_red a ≡ false

  record ClearOf (l : AccessRecord) : Type 0 where
    pub reds_are : l.reds ≡ reds
    pub reads : Clear l.reads
    pub touched : Clear l.touched

  abbrev ClearOr : Option AccessRecord → Type 0
  ClearOr (Some l) = ClearOf l
  ClearOr None = Unit {0}

  abbrev Holds : Content → Type 0
  Holds c = ClearOr c.accesses

  inserted : (s : FinSet addr_cmp) (b : Addr) → (IsVariable b → is_red b ≡ false) → Clear s → Clear (set.insert s b)
  inserted s b f h a e v =
      elim (addr_eq a b) as (λ t. addr_eq a b ≡ t → (t || set.contains s a) ≡ true → is_red a ≡ false) [
        | true ↦ λ t e. ap is_red (addr_equal a b t) ∙ f (subst IsVariable (addr_equal a b t) v)
        | false ↦ λ t e. h a e v
      ] refl (sym (set.contains-insert addr_total s b a) ∙ e)

  head_clear : (l : AccessRecord) (a : Addr) → ClearOf l → ClearOf (with_head l a)
  head_clear l (Word o w) h = record { reds_are = h.reds_are; reads = inserted l.reads (Head o) (λ v. absurd v) h.reads; touched = h.touched }
  head_clear l (Head o) h = h
  head_clear l (Local k) h = h

  either_clear : (b : Bool) (l k : AccessRecord) → ClearOf l → ClearOf k → ClearOf (if b then l else k)
  either_clear true l k h g = h
  either_clear false l k h g = g

  load_clear : (l : AccessRecord) (a : Addr) (v : Option Val) → is_red a ≡ false → ClearOf l → ClearOf (record_load l a v)
  load_clear l a (Some v) f h =
      let g = head_clear l a h in
      either_clear (set.contains (with_head l a).touched a) (with_head l a) (record (with_head l a) { reads = set.insert (with_head l a).reads a }) g (record {
        reds_are = g.reds_are;
        reads = inserted (with_head l a).reads a (λ v. f) g.reads;
        touched = g.touched;
      })
  load_clear l a None f h = head_clear l a h

  store_clear : (l : AccessRecord) (a : Addr) (v : Option Val) → is_red a ≡ false → ClearOf l → ClearOf (record_store l a v)
  store_clear l a (Some v) f h = let g = head_clear l a h in record {
    reds_are = g.reds_are;
    reads = g.reads;
    touched = inserted (with_head l a).touched a (λ v. f) g.touched;
  }
  store_clear l a None f h = head_clear l a h

  own_or : (c : Content) (b : Bool) (l : AccessRecord) → Holds c → ClearOf l → Holds (if b then c else with_accesses c l)
  own_or c true l h g = h
  own_or c false l h g = g

  load_index : (c : Content) (l : AccessRecord) (a : Addr) (k : Kind) (i : Option ℕ) → red_index reds a ≡ i → Holds c → ClearOf l
      → Holds (load_recorded c l a k i).1
  load_index c l a k (Some i) e h g = h
  load_index c l a k None e h g = own_or c (is_own l a) (record_load l a (value_at c.memory a)) h (load_clear l a (value_at c.memory a) (ap is_some e) g)

  load_holds : (c : Content) (a : Addr) (k : Kind) (l : Option AccessRecord) → Holds c → ClearOr l → Holds (load_by l c a k).1
  load_holds c a k None h g = h
  load_holds c a k (Some l) h g = load_index c l a k (red_index l.reds a) (ap (λ z. red_index z a) (sym g.reds_are)) h g

  store_in_holds : (c : Content) (a : Addr) (x : Val) (v : Option Val) → Holds c → Holds (store_in c a x v).1
  store_in_holds c a x (Some v) h = h
  store_in_holds c a x None h = h

  store_index : (c : Content) (l : AccessRecord) (a : Addr) (x : Val) (i : Option ℕ) → red_index reds a ≡ i → Holds c → ClearOf l
      → Holds (store_recorded c l a x i).1
  store_index c l a x (Some i) e h g = record { reds_are = g.reds_are; reads = g.reads; touched = g.touched }
  store_index c l a x None e h g =
      store_in_holds (if is_own l a then c else with_accesses c (record_store l a (value_at c.memory a))) a x (value_at c.memory a)
      (own_or c (is_own l a) (record_store l a (value_at c.memory a)) h (store_clear l a (value_at c.memory a) (ap is_some e) g))

  store_holds : (c : Content) (a : Addr) (x : Val) (l : Option AccessRecord) → Holds c → ClearOr l → Holds (store_by l c a x).1
  store_holds c a x None h g = store_in_holds c a x (value_at c.memory a) h
  store_holds c a x (Some l) h g = store_index c l a x (red_index l.reds a) (ap (λ z. red_index z a) (sym g.reds_are)) h g

  made_clear : (o : Obj) (l : Option AccessRecord) → ClearOr l → ClearOr (record_make l o)
  made_clear o None h = tt
  made_clear o (Some l) h = record { reds_are = h.reds_are; reads = h.reads; touched = inserted l.touched (Head o) (λ v. absurd v) h.touched }

  limited_holds : (c : Content) (words : ℕ) (b : Bool) → Holds c → Holds (limited c b words).1
  limited_holds c words true h = h
  limited_holds c words false h = made_clear (name_of c.allocations.allocator c.allocations.next) c.accesses h

  load_keeps : (a : Addr) (k : Kind) → KeepsOp Holds (load a k)
  unfolding load
  load_keeps a k = record { by = λ c h. load_holds c a k c.accesses h h }

  store_keeps : (a : Addr) (x : Val) → KeepsOp Holds (store a x)
  unfolding store
  store_keeps a x = record { by = λ c h. store_holds c a x c.accesses h h }

  make_keeps : (words : ℕ) → KeepsOp Holds (make words)
  unfolding make
  make_keeps words = record { by = λ c h. limited_holds c words (nat_lt (word_limit c.allocations.allocator) (c.allocations.words + words + 1)) h }

  freed_clear : (l : AccessRecord) (o : Obj) (there : Bool) → ClearOf l → ClearOf (record_free l o there)
  freed_clear l o true h = record {
    reds_are = h.reds_are;
    reads = inserted l.reads (Head o) (λ v. absurd v) h.reads;
    touched = inserted l.touched (Head o) (λ v. absurd v) h.touched;
  }
  freed_clear l o false h = record { reds_are = h.reds_are; reads = inserted l.reads (Head o) (λ v. absurd v) h.reads; touched = h.touched }

  free_log_clear : (o : Obj) (there : Bool) (l : Option AccessRecord) → ClearOr l → ClearOr (free_recorded l o there)
  free_log_clear o there None h = tt
  free_log_clear o there (Some l) h = either_clear (set.contains l.made o) l (record_free l o there) h (freed_clear l o there h)

  free_there_holds : (c : Content) (o : Obj) (there : Bool) → Holds c → Holds (free_there c o there).1
  free_there_holds c o true h = h
  free_there_holds c o false h = h

  free_holds : (c : Content) (o : Obj) (b : Bool) → Holds c → Holds (free_if c o b).1
  free_holds c o true h =
      free_there_holds (record c { accesses = free_recorded c.accesses o (has_object c.memory o) }) o (has_object c.memory o)
      (free_log_clear o (has_object c.memory o) c.accesses h)
  free_holds c o false h = h

  free_keeps : (o : Obj) (at : ℕ) → KeepsOp Holds (free o at)
  unfolding free
  free_keeps o at = record { by = λ c h. free_holds c o (is_freeable o at) h }

  print_keeps : (bytes : List ℕ) → KeepsOp Holds {A = Result (Unit {0}) Trap} (λ c. (Ok tt, print bytes c))
  unfolding print
  print_keeps bytes = record { by = λ c h. h }

  clear_world : KeepsWorld Holds in_iteration
  clear_world = record {
    load = load_keeps;
    store = store_keeps;
    make = make_keeps;
    free = free_keeps;
    print = print_keeps;
    visit = λ loop lo hi locals. record { by = λ c h. h };
  }

  none_in_empty : Clear set.empty
  none_in_empty a e v = absurd (true≢false (sym e ∙ contains-empty addr_cmp a))

  chunk_clear : (x : Execution) (m : Memory) (c : ℕ) → Holds (chunk_runs x c (chunk_from x reds m c)).content
  chunk_clear x m c =
      chunk_holds Holds Holds clear_world (λ d h. h) x (chunk_start x c) (chunk_end x c) (λ j d f l h. h) c (omega arith) (omega arith) (chunk_from x reds m c)
      (record { reds_are = refl; reads = none_in_empty; touched = none_in_empty })

  reads_clear : (r : Finished) (l : Option AccessRecord) → ClearOr l → Clear (outcome_of r l).reads
  reads_clear r (Some l) h = h.reads
  reads_clear r None h = none_in_empty

  touched_clear : (r : Finished) (l : Option AccessRecord) → ClearOr l → Clear (outcome_of r l).touched
  touched_clear r (Some l) h = h.touched
  touched_clear r None h = none_in_empty

  -- what is a reduction variable is not in the set
  not_in : (s : FinSet addr_cmp) (a : Addr) → IsVariable a → is_red a ≡ true → Clear s → set.contains s a ≡ false
  not_in s a v e h =
      elim (set.contains s a) as (λ b. set.contains s a ≡ b → b ≡ false) [ true ↦ λ t. absurd (true≢false (sym e ∙ h a t v)) | false ↦ λ t. refl ] refl

pub reductions_are_unrecorded : ReductionsAreUnrecorded
unfolding outcome
reductions_are_unrecorded x reds m c a v e =
    let r = chunk_runs x c (chunk_from x reds m c) in
    let h = chunk_clear reds x m c in (
      not_in reds (outcome_of r r.content.accesses).reads a v e (reads_clear reds r r.content.accesses h),
      not_in reds (outcome_of r r.content.accesses).touched a v e (touched_clear reds r r.content.accesses h),
    )
