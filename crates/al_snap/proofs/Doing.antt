-- What stores, allocations and frees of a chunk do, from what was found.
use Rattle.std.proofs.Common.{◌≡◌, ℕ, ◌+◌, Bool, true, false, cond, nat_lt, List, [], ◌∷◌, ◌++◌, Option, Some, None, is_some, Result, Ok, Err, refl, sym, ap, ◌∙◌}
use Rattle.std.specs.Prelude.{replicate, pos, is_ok}
use Rattle.std.specs.FinSet as set
use Rattle.std.proofs.Math.Bool.{true≢false}
use Rattle.al_core.specs.declared.choices.Red.{Red}
use Rattle.al_core.specs.declared.values.Obj.{Obj}
use Rattle.al_core.specs.declared.values.Val.{Val}
use Rattle.al_core.specs.declared.values.Val.TheVariants.{Int}
use Rattle.al_core.specs.declared.values.Addr.{Addr}
use Rattle.al_core.specs.declared.values.Addr.TheVariants.{Word, Head, Local}
use Rattle.al_core.specs.declared.values.Trap.{Trap}
use Rattle.al_core.specs.declared.values.Trap.TheVariants as trap
use Rattle.al_core.specs.Memory.{Memory, value_at, has_object, put, add, remove}
use Rattle.al_core.specs.Access as spec
use Rattle.al_core.specs.Access.{Allocations, AccessRecord, Content, is_own, record_store, record_free, with_touched, with_object, red_index, store_in, missing_or_outside, word_limit, name_of, one_more, is_freeable}
use Rattle.al_heap.specs.Stores.{value_or_trap}
use Rattle.al_snap.specs.declared.marks.Marks.{Marks}
use Rattle.al_snap.specs.Makers.{allocated}
use Rattle.al_snap.specs.Layers.{Layers, own_has, made_by, touched_unless}
use Rattle.al_snap.specs.Marks.{marked, with_stored, with_freed}
use Rattle.al_snap.specs.Snaps.{chunk_record}

pub own_is : (l : Layers) (reds : List Red) (accumulators : List Val) (m : Marks) (a : Addr)
    → own_has l a ≡ is_own (marked (chunk_record l reds accumulators) m) a
own_is l reds accumulators m (Word o w) = refl
own_is l reds accumulators m (Head o) = refl
own_is l reds accumulators m (Local k) = refl

-- ---- what is recorded once the layers are changed

module _ (l n : Layers) (reds : List Red) (accumulators : List Val) (before after : Marks) where
  abbrev pub recorded : AccessRecord
  recorded = marked (chunk_record n reds accumulators) before

  -- of a store that found a value
  pub stored_after : (own : Bool) (a : Addr) → made_by l.own ≡ made_by n.own → l.freed ≡ n.freed
      → l.touched ≡ touched_unless own n.touched a
      → ((r : AccessRecord) → marked r after ≡ with_stored (marked r before) own a false)
      → marked (chunk_record l reds accumulators) after ≡ with_stored recorded own a true
  stored_after true a made freed touched marks =
      (λ t. marked (record {
        reads = set.empty;
        touched = touched t;
        made = made t;
        freed = freed t;
        reds = reds;
        accumulators = accumulators;
      }) after)
      ∙ marks (chunk_record n reds accumulators)
  stored_after false a made freed touched marks =
      (λ t. marked (record {
        reads = set.empty;
        touched = touched t;
        made = made t;
        freed = freed t;
        reds = reds;
        accumulators = accumulators;
      }) after)
      ∙ ap (λ (r : AccessRecord). with_touched r a) (marks (chunk_record n reds accumulators))

  -- of an object that was freed
  pub freed_after : (own : Bool) (o : Obj) → made_by l.own ≡ made_by n.own
      → l.touched ≡ touched_unless own n.touched (Head o)
      → ((r : AccessRecord) → marked r after ≡ with_freed (marked r before) own o false)
      → marked (chunk_record l reds accumulators) after ≡ with_freed (record recorded { freed = l.freed }) own o true
  freed_after true o made touched marks =
      (λ t. marked (record {
        reads = set.empty;
        touched = touched t;
        made = made t;
        freed = l.freed;
        reds = reds;
        accumulators = accumulators;
      }) after)
      ∙ marks (record (chunk_record n reds accumulators) { freed = l.freed })
  freed_after false o made touched marks =
      (λ t. marked (record {
        reads = set.empty;
        touched = touched t;
        made = made t;
        freed = l.freed;
        reds = reds;
        accumulators = accumulators;
      }) after)
      ∙ ap (λ (r : AccessRecord). with_touched r (Head o)) (marks (record (chunk_record n reds accumulators) { freed = l.freed }))

-- of an object that was made
pub made_record : (l n : Layers) (o : Obj) (reds : List Red) (accumulators : List Val)
    → made_by l.own ≡ set.insert (made_by n.own) o → l.freed ≡ n.freed → l.touched ≡ set.insert n.touched (Head o)
    → chunk_record l reds accumulators
    ≡ with_touched (record (chunk_record n reds accumulators) { made = set.insert (made_by n.own) o }) (Head o)
made_record l n o reds accumulators made freed touched = λ t. record {
  reads = set.empty;
  touched = touched t;
  made = made t;
  freed = freed t;
  reds = reds;
  accumulators = accumulators;
}

module _ (m : Memory) (al : Allocations) (printed : List ℕ) (x : AccessRecord) where
  content : AccessRecord → Content
  content y = record { memory = m; allocations = al; printed = printed; accesses = Some y }

  -- ---- stores

  stored_if : (b : Bool) (y : AccessRecord)
      → cond b (content x) (record (content x) { accesses = Some y }) ≡ content (cond b x y)
  unfolding content
  stored_if true y = refl
  stored_if false y = refl

  found_is : (a : Addr) (vo : Option Val) → is_ok (value_or_trap m a vo) ≡ is_some vo
  found_is a (Some v) = refl
  found_is a None = refl

  stored_by : (b : Bool) (a : Addr) (vo : Option Val) → with_stored x b a (is_some vo) ≡ cond b x (record_store x a vo)
  stored_by true a vo = refl
  stored_by false a (Some v) = refl
  stored_by false a None = refl

  module _ (a : Addr) (v : Val) (none : red_index x.reds a ≡ None) (found : Result Val Trap)
      (is : found ≡ value_or_trap m a (value_at m a)) (own : Bool) (owned : own ≡ is_own x a)
      (y : AccessRecord) (recorded : y ≡ with_stored x own a (is_ok found)) where
    recorded_is : y ≡ cond (is_own x a) x (record_store x a (value_at m a))
    recorded_is =
        recorded
        ∙ (λ t. with_stored x (owned t) a ((ap is_ok is ∙ found_is a (value_at m a)) t))
        ∙ stored_by (is_own x a) a (value_at m a)

    store_is : spec.store a v (record { memory = m; allocations = al; printed = printed; accesses = Some x })
        ≡ store_in (content y) a v (value_at m a)
    unfolding spec.store content
    store_is =
        ap (spec.store_recorded (content x) x a v) none
        ∙ ap (λ (c : Content). store_in c a v (value_at m a)) (stored_if (is_own x a) (record_store x a (value_at m a)))
        ∙ ap (λ (y : AccessRecord). store_in (content y) a v (value_at m a)) (sym recorded_is)

    missing_by : (vo : Option Val) (t : Trap) → value_or_trap m a vo ≡ Err t → store_in (content y) a v vo ≡ (Err t, content y)
    unfolding content
    missing_by (Some old) t e = absurd (cc)
    missing_by None t e = let same : missing_or_outside m a ≡ t = cc in λ z. (Err (same z), content y)

    pub store_missing : (t : Trap) → found ≡ Err t
        → spec.store a v (record { memory = m; allocations = al; printed = printed; accesses = Some x })
        ≡ (Err t, record { memory = m; allocations = al; printed = printed; accesses = Some y })
    unfolding content
    store_missing t e = store_is ∙ missing_by (value_at m a) t (sym is ∙ e)

    there_by : (vo : Option Val) (w : Val) → value_or_trap m a vo ≡ Ok w
        → store_in (content y) a v vo ≡ (Ok tt, record (content y) { memory = put m a v })
    unfolding content
    there_by (Some old) w e = refl
    there_by None w e = absurd (cc)

    pub store_there : (w : Val) → found ≡ Ok w → (n : Memory) → n ≡ put m a v
        → spec.store a v (record { memory = m; allocations = al; printed = printed; accesses = Some x })
        ≡ (Ok tt, record { memory = n; allocations = al; printed = printed; accesses = Some y })
    unfolding content
    store_there w e n f =
        store_is
        ∙ there_by (value_at m a) w (sym is ∙ e)
        ∙ (λ t. (Ok tt, record { memory = sym f t; allocations = al; printed = printed; accesses = Some y }))

  -- ---- allocations

  make_by : (b : Bool) (words : ℕ) (obj name : Obj) (r : Result Obj Trap) (more : Allocations) → r ≡ Ok obj
      → ◌≡◌ {A = Result Obj Trap × Allocations} (r, more) (cond b (Err trap.Alloc, al) (Ok name, one_more al words)) → (n : Memory)
      → n ≡ add m obj (replicate words (Int (pos 0))) → (y : AccessRecord)
      → y ≡ with_touched (record x { made = set.insert x.made obj }) (Head obj)
      → ◌≡◌ {A = Result Obj Trap × Content} (cond b (Err trap.Alloc, content x) (Ok name, with_object (content x) name words))
      (Ok obj, record { memory = n; allocations = more; printed = printed; accesses = Some y })
  unfolding content
  make_by true words obj name r more e f n g y h = absurd (let k : r ≡ Err trap.Alloc = ap (λ p. p.0) f in cc)
  make_by false words obj name r more e f n g y h =
      let k : r ≡ Ok name = ap (λ p. p.0) f in
      let same : name ≡ obj = cc in
      λ t. (
        Ok (same t),
        record {
          memory = (ap (λ o. add m o (replicate words (Int (pos 0)))) same ∙ sym g) t;
          allocations = sym (ap (λ p. p.1) f) t;
          printed = printed;
          accesses = Some ((ap (λ o. with_touched (record x { made = set.insert x.made o }) (Head o)) same ∙ sym h) t);
        },
      )

  pub make_does : (words : ℕ) (obj : Obj) (r : Result Obj Trap) (more : Allocations) → r ≡ Ok obj
      → ◌≡◌ {A = Result Obj Trap × Allocations} (r, more) (allocated al words)
      → (n : Memory) → n ≡ add m obj (replicate words (Int (pos 0))) → (y : AccessRecord)
      → y ≡ with_touched (record x { made = set.insert x.made obj }) (Head obj)
      → spec.make words (record { memory = m; allocations = al; printed = printed; accesses = Some x })
      ≡ (Ok obj, record { memory = n; allocations = more; printed = printed; accesses = Some y })
  unfolding spec.make content
  make_does words obj r more e f n g y h =
      make_by (nat_lt (word_limit al.allocator) (al.words + words + 1)) words obj (name_of al.allocator al.next) r more e f n g y h

  -- ---- frees

  free_missing_by : (o : Obj) (own there : Bool) → there ≡ false → (y : AccessRecord) → y ≡ with_freed x own o there
      → spec.free_there (content (cond own x (record_free x o there))) o there ≡ (Err trap.Freed, content y)
  unfolding content
  free_missing_by o own true e y f = absurd (true≢false e)
  free_missing_by o true false e y f = λ t. (Err trap.Freed, content (sym f t))
  free_missing_by o false false e y f = λ t. (Err trap.Freed, content (sym f t))

  pub free_missing : (o : Obj) (w : ℕ) → is_freeable o w ≡ true → (own : Bool) → own ≡ set.contains x.made o → (there : Bool)
      → there ≡ has_object m o → there ≡ false → (y : AccessRecord) → y ≡ with_freed x own o there
      → spec.free o w (record { memory = m; allocations = al; printed = printed; accesses = Some x })
      ≡ (Err trap.Freed, record { memory = m; allocations = al; printed = printed; accesses = Some y })
  unfolding spec.free content
  free_missing o w can own owned there is e y f =
      ap (spec.free_if (content x) o) can
      ∙ (λ t. spec.free_there (content (cond (sym owned t) x (record_free x o (sym is t)))) o (sym is t))
      ∙ free_missing_by o own there e y f

  free_there_by : (o : Obj) (own there : Bool) → there ≡ true → (freed : List Obj) → freed ≡ cond own x.freed (x.freed ++ o ∷ [])
      → (y : AccessRecord) → y ≡ with_freed (record x { freed = freed }) own o there → (n : Memory) → n ≡ remove m o
      → spec.free_there (content (cond own x (record_free x o there))) o there
      ≡ (Ok tt, record { memory = n; allocations = al; printed = printed; accesses = Some y })
  unfolding content
  free_there_by o own false e freed g y f n h = absurd (true≢false (sym e))
  free_there_by o true true e freed g y f n h = λ t. (
    Ok tt,
    record {
      memory = sym h t;
      allocations = al;
      printed = printed;
      accesses = Some (((λ z. record x { freed = sym g z }) ∙ sym f) t);
    },
  )
  free_there_by o false true e freed g y f n h = λ t. (
    Ok tt,
    record {
      memory = sym h t;
      allocations = al;
      printed = printed;
      accesses = Some (((λ z. with_freed (record x { freed = sym g z }) false o true) ∙ sym f) t);
    },
  )

  pub free_done : (o : Obj) (w : ℕ) → is_freeable o w ≡ true → (own : Bool) → own ≡ set.contains x.made o → (there : Bool)
      → there ≡ has_object m o → there ≡ true → (freed : List Obj)
      → freed ≡ cond (set.contains x.made o) x.freed (x.freed ++ o ∷ [])
      → (y : AccessRecord) → y ≡ with_freed (record x { freed = freed }) own o there → (n : Memory) → n ≡ remove m o
      → spec.free o w (record { memory = m; allocations = al; printed = printed; accesses = Some x })
      ≡ (Ok tt, record { memory = n; allocations = al; printed = printed; accesses = Some y })
  unfolding spec.free content
  free_done o w can own owned there is e freed g y f n h =
      ap (spec.free_if (content x) o) can
      ∙ (λ t. spec.free_there (content (cond (sym owned t) x (record_free x o (sym is t)))) o (sym is t))
      ∙ free_there_by o own there e freed (g ∙ ap (λ b. cond b x.freed (x.freed ++ o ∷ [])) (sym owned)) y f n h
