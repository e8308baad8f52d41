-- A chunk depends on what it read and on nothing else: an instance of the abstraction theorem.
use Rattle.std.proofs.Common.{◌≡◌, ℕ, zero, suc, ◌+◌, List, [], ◌∷◌, ◌++◌, length, Option, Some, None, Result, Ok, Err, Bool, true, false, cond, ◌||◌, refl, sym, ap, subst, ◌∙◌, arith, length-set}
use Rattle.std.specs.Prelude.{pos, if◌then◌else◌, nat_lt, is_some, option_map, slice_get, slice_set, replicate}
use Rattle.std.specs.FinMap as map
use Rattle.std.specs.FinSet as set
use Rattle.std.specs.FinSet.{FinSet}
use Rattle.std.proofs.Math.Bool.{true≢false}
use Rattle.al_core.specs.declared.values.Val.{Val}
use Rattle.al_core.specs.declared.values.Val.TheVariants.{Int}
use Rattle.al_core.specs.declared.values.Addr.{Addr}
use Rattle.al_core.specs.declared.values.Addr.TheVariants.{Word, Head, Local}
use Rattle.al_core.specs.declared.values.Kind.{Kind}
use Rattle.al_core.specs.declared.values.Trap.{Trap}
use Rattle.al_core.specs.declared.values.Trap.TheVariants as trap
use Rattle.al_core.specs.declared.values.Obj.{Obj}
use Rattle.al_core.specs.Orders.{obj_eq, addr_cmp, addr_eq}
use Rattle.al_core.specs.Memory.{Memory, AgreeAt, has_object, word_in, value_at, put, add, remove}
use Rattle.al_core.specs.Access.{AccessRecord, Content, Allocations, with_accesses, with_touched, with_head, with_object, one_more, record_load, record_store, record_make, record_free, free_recorded, load_in, loaded, missing_or_outside, is_own, red_index, load_recorded, store_recorded, load_by, store_by, store_in, word_limit, name_of, is_freeable, free_there, free_if, load, store, make, free, print, in_iteration}
use Rattle.al_laws.proofs.Orders.{obj_total, addr_total, obj_equal, obj_itself, addr_equal, addr_itself}
use Rattle.al_laws.proofs.Words.{get_set_other}
use Rattle.al_laws.proofs.Laid.{same_shape}
use Rattle.al_laws.proofs.Overlay.{put_elsewhere}
use Rattle.al_laws.specs.PrivateMemories.{SameBut, is_among}
use Rattle.al_laws.proofs.Stays.{Grows, lacks, load_reads, get_put, get_remove, weaker, word_put, inserted_here, inserted_more, limited, or_left, or_right, among_append, none_set, none_left, obj_differs}
use Rattle.al_laws.proofs.Agree.{Matches, Kept}

set_both : (x y : List Val) (w : ℕ) (v : Val) → is_some (slice_get x w) ≡ true → is_some (slice_get y w) ≡ true
    → slice_get (slice_set x w v) w ≡ slice_get (slice_set y w v) w
set_both [] y w v p q = absurd (true≢false (sym p))
set_both (a ∷ x) [] w v p q = absurd (true≢false (sym q))
set_both (a ∷ x) (b ∷ y) zero v p q = refl
set_both (a ∷ x) (b ∷ y) (suc w) v p q = set_both x y w v p q

-- what a put leaves at another address
pub put_other : (s : Memory) (o : Obj) (w : ℕ) (v : Val) (a : Addr) → addr_eq a (Word o w) ≡ false → value_at (put s (Word o w) v) a ≡ value_at s a
put_other s o w v (Word q i) f = put_elsewhere s o w v q i (λ e. true≢false (sym (addr_itself (Word q i)) ∙ ap (addr_eq (Word q i)) e ∙ f))
put_other s o w v (Head q) f = refl
put_other s o w v (Local k) f = refl

pub local_other : (s : Memory) (k : ℕ) (v : Val) (a : Addr) → addr_eq a (Local k) ≡ false → value_at (put s (Local k) v) a ≡ value_at s a
local_other s k v (Word q i) f = refl
local_other s k v (Head q) f = refl
local_other s k v (Local i) f = get_set_other s.locals i k v (λ e. true≢false (sym (addr_itself (Local i)) ∙ ap (λ j. addr_eq (Local i) (Local j)) e ∙ f))

-- what is touched now and is not the new address was touched before
touched_before : (u : FinSet addr_cmp) (b a : Addr) → addr_eq a b ≡ false → set.contains (set.insert u b) a ≡ true → set.contains u a ≡ true
touched_before u b a f c = ap (λ z. z || set.contains u a) (sym f) ∙ sym (set.contains-insert addr_total u b a) ∙ c

module _ (m n : Memory) (same_count : length m.locals ≡ length n.locals) where
  -- what a memory still has of the one that it was copied from
  pub record Half (from now : Memory) (accesses : AccessRecord) : Type 0 where
    pub kept : (o : Obj) → set.contains accesses.made o ≡ false → is_among accesses.freed o ≡ false
        → SameBut accesses.touched o (map.get from.objects o) (map.get now.objects o)
    pub gone : (o : Obj) → set.contains accesses.made o ≡ false → is_among accesses.freed o ≡ true → map.get now.objects o ≡ None
    pub locals_length : length now.locals ≡ length from.locals
    pub locals : (k : ℕ) → set.contains accesses.touched (Local k) ≡ false → slice_get now.locals k ≡ slice_get from.locals k

  -- two runs so far: the same record, allocations and printed bytes, and the same values where something was touched or made
  pub record Near (s t : Content) : Type 0 where
    pub accesses : AccessRecord
    pub is_s : s.accesses ≡ Some accesses
    pub is_t : t.accesses ≡ Some accesses
    pub allocations : s.allocations ≡ t.allocations
    pub printed : s.printed ≡ t.printed
    pub made : (o : Obj) → set.contains accesses.made o ≡ true → map.get s.memory.objects o ≡ map.get t.memory.objects o
    pub touched : (a : Addr) → set.contains accesses.touched a ≡ true → value_at s.memory a ≡ value_at t.memory a
    pub half_s : Half m s.memory accesses
    pub half_t : Half n t.memory accesses

  abbrev pub AgreeOn : FinSet addr_cmp → Type 0
  AgreeOn reads = (a : Addr) → set.contains reads a ≡ true → AgreeAt m n a

  abbrev pub GoodLog : Option AccessRecord → Type 0
  GoodLog None = Unit {0}
  GoodLog (Some accesses) = AgreeOn accesses.reads

  -- the two memories agree at each read
  abbrev pub Good : Content → Type 0
  Good c = GoodLog c.accesses

  -- ---- what agreement at a head gives

  abbrev same_length : Option (List Val) → Option (List Val) → Type 0
  same_length None None = Unit {0}
  same_length None (Some y) = ⊥
  same_length (Some x) None = ⊥
  same_length (Some x) (Some y) = length x ≡ length y

  abbrev length_or : Option ℕ → ℕ
  length_or None = 0
  length_or (Some k) = suc k

  by_lengths : (x y : Option (List Val)) → option_map length x ≡ option_map length y → same_length x y
  by_lengths None None e = tt
  by_lengths None (Some y) e = absurd (omega (arith, ap length_or e))
  by_lengths (Some x) None e = absurd (omega (arith, ap length_or e))
  by_lengths (Some x) (Some y) e = omega (arith, ap length_or e)

  -- through the two copies
  lengths_now : (t : FinSet addr_cmp) (o : Obj) (x y x' y' : Option (List Val)) → same_length x y → SameBut t o x x' → SameBut t o y y' → same_length x' y'
  lengths_now t o None None None None l p q = tt
  lengths_now t o None None None (Some y') l p q = q
  lengths_now t o None None (Some x') y' l p q = absurd p
  lengths_now t o None (Some y) x' y' l p q = absurd l
  lengths_now t o (Some x) None x' y' l p q = absurd l
  lengths_now t o (Some x) (Some y) None y' l p q = absurd p
  lengths_now t o (Some x) (Some y) (Some x') None l p q = q
  lengths_now t o (Some x) (Some y) (Some x') (Some y') l p q = p.0 ∙ l ∙ sym q.0

  there : (x y : Option (List Val)) → same_length x y → is_some x ≡ is_some y
  there None None l = refl
  there None (Some y) l = absurd l
  there (Some x) None l = absurd l
  there (Some x) (Some y) l = refl

  word_there : (x y : Option (List Val)) (w : ℕ) → same_length x y → is_some (word_in x w) ≡ is_some (word_in y w)
  word_there None None w l = refl
  word_there None (Some y) w l = absurd l
  word_there (Some x) None w l = absurd l
  word_there (Some x) (Some y) w l = same_shape x y l w

  -- an untouched word is as it was
  word_as_found : (t : FinSet addr_cmp) (o : Obj) (w : ℕ) (x x' : Option (List Val)) → set.contains t (Word o w) ≡ false → SameBut t o x x'
      → word_in x' w ≡ word_in x w
  word_as_found t o w None None n s = refl
  word_as_found t o w None (Some x') n s = absurd s
  word_as_found t o w (Some x) None n s = absurd s
  word_as_found t o w (Some x) (Some x') n s = s.1 w n

  half_by : (from now : Memory) (accesses l : AccessRecord) → l.made ≡ accesses.made → l.freed ≡ accesses.freed → l.touched ≡ accesses.touched
      → Half from now accesses → Half from now l
  half_by from now accesses l em ef et h = record {
    kept = λ o f c. subst (λ z. SameBut z o (map.get from.objects o) (map.get now.objects o)) (sym et)
        (h.kept o (ap (λ z. set.contains z o) (sym em) ∙ f) (ap (λ z. is_among z o) (sym ef) ∙ c));
    gone = λ o f c. h.gone o (ap (λ z. set.contains z o) (sym em) ∙ f) (ap (λ z. is_among z o) (sym ef) ∙ c);
    locals_length = h.locals_length;
    locals = λ k f. h.locals k (ap (λ z. set.contains z (Local k)) (sym et) ∙ f);
  }

  module _ (s t : Content) (h : Near s t) where
    head_now : (o : Obj) → set.contains h.accesses.made o ≡ false → AgreeAt m n (Head o) → same_length (map.get s.memory.objects o) (map.get t.memory.objects o)
    head_now o f e =
        elim (is_among h.accesses.freed o) as (λ b. is_among h.accesses.freed o ≡ b → same_length (map.get s.memory.objects o) (map.get t.memory.objects o)) [
          | true ↦ λ c. subst (λ x. same_length x (map.get t.memory.objects o)) (sym (h.half_s.gone o f c))
              (subst (λ y. same_length None y) (sym (h.half_t.gone o f c)) tt)
          | false ↦ λ c.
              lengths_now h.accesses.touched o (map.get m.objects o) (map.get n.objects o) (map.get s.memory.objects o) (map.get t.memory.objects o)
              (by_lengths (map.get m.objects o) (map.get n.objects o) e) (h.half_s.kept o f c) (h.half_t.kept o f c)
        ] refl

    local_there : (k : ℕ) → is_some (slice_get s.memory.locals k) ≡ is_some (slice_get t.memory.locals k)
    local_there k = same_shape s.memory.locals t.memory.locals (h.half_s.locals_length ∙ same_count ∙ sym h.half_t.locals_length) k

    untouched_now : (o : Obj) (w : ℕ) → set.contains h.accesses.made o ≡ false → set.contains h.accesses.touched (Word o w) ≡ false → AgreeAt m n (Word o w)
        → value_at s.memory (Word o w) ≡ value_at t.memory (Word o w)
    untouched_now o w f c e =
        elim (is_among h.accesses.freed o) as (λ b. is_among h.accesses.freed o ≡ b → value_at s.memory (Word o w) ≡ value_at t.memory (Word o w)) [
          | true ↦ λ g. ap (λ x. word_in x w) (h.half_s.gone o f g ∙ sym (h.half_t.gone o f g))
          | false ↦ λ g.
              word_as_found h.accesses.touched o w (map.get m.objects o) (map.get s.memory.objects o) c (h.half_s.kept o f g)
              ∙ e ∙ sym (word_as_found h.accesses.touched o w (map.get n.objects o) (map.get t.memory.objects o) c (h.half_t.kept o f g))
        ] refl

    -- a word that was touched, or that the two memories agree at
    word_now : (o : Obj) (w : ℕ) → set.contains h.accesses.made o ≡ false → (set.contains h.accesses.touched (Word o w) ≡ false → AgreeAt m n (Word o w))
        → value_at s.memory (Word o w) ≡ value_at t.memory (Word o w)
    word_now o w f e =
        elim (set.contains h.accesses.touched (Word o w)) as
        (λ b. set.contains h.accesses.touched (Word o w) ≡ b → value_at s.memory (Word o w) ≡ value_at t.memory (Word o w)) [
          | true ↦ λ c. h.touched (Word o w) c
          | false ↦ λ c. untouched_now o w f c (e c)
        ] refl

    local_now : (k : ℕ) → (set.contains h.accesses.touched (Local k) ≡ false → AgreeAt m n (Local k))
        → value_at s.memory (Local k) ≡ value_at t.memory (Local k)
    local_now k e =
        elim (set.contains h.accesses.touched (Local k)) as
        (λ b. set.contains h.accesses.touched (Local k) ≡ b → value_at s.memory (Local k) ≡ value_at t.memory (Local k)) [
          | true ↦ λ c. h.touched (Local k) c
          | false ↦ λ c. h.half_s.locals k c ∙ e c ∙ sym (h.half_t.locals k c)
        ] refl

    -- with other reads
    near_reads : (l : AccessRecord) → l.made ≡ h.accesses.made → l.freed ≡ h.accesses.freed → l.touched ≡ h.accesses.touched
        → Near (with_accesses s l) (with_accesses t l)
    near_reads l em ef et = record {
      accesses = l;
      is_s = refl;
      is_t = refl;
      allocations = h.allocations;
      printed = h.printed;
      made = λ o c. h.made o (ap (λ z. set.contains z o) (sym em) ∙ c);
      touched = λ a c. h.touched a (ap (λ z. set.contains z a) (sym et) ∙ c);
      half_s = half_by m s.memory h.accesses l em ef et h.half_s;
      half_t = half_by n t.memory h.accesses l em ef et h.half_t;
    }

  -- ---- loads

  more_of_load : (accesses : AccessRecord) (a : Addr) (v : Option Val) (q : Addr) → set.contains (with_head accesses a).reads q ≡ true
      → set.contains (record_load accesses a v).reads q ≡ true
  more_of_load accesses a (Some v) q e =
      elim (set.contains (with_head accesses a).touched a) as
      (λ b. set.contains
      (if b then with_head accesses a else record (with_head accesses a) { reads = set.insert (with_head accesses a).reads a }).reads q ≡ true) [
        | true ↦ e
        | false ↦ inserted_more (with_head accesses a).reads a q e
      ]
  more_of_load accesses a None q e = e

  more_of_head : (accesses : AccessRecord) (a q : Addr) → set.contains accesses.reads q ≡ true → set.contains (with_head accesses a).reads q ≡ true
  more_of_head accesses (Word o w) q e = inserted_more accesses.reads (Head o) q e
  more_of_head accesses (Head o) q e = e
  more_of_head accesses (Local k) q e = e

  -- what a load finds and has not touched, it reads
  load_reads_it : (accesses : AccessRecord) (a : Addr) (v : Val) → set.contains (with_head accesses a).touched a ≡ false
      → set.contains (record_load accesses a (Some v)).reads a ≡ true
  load_reads_it accesses a v f =
      ap (λ b. set.contains (if b then with_head accesses a else record (with_head accesses a) { reads = set.insert (with_head accesses a).reads a }).reads a) f
      ∙ inserted_here (with_head accesses a).reads a

  same_none : (y : Option Val) → false ≡ is_some y → y ≡ None
  same_none None e = refl
  same_none (Some v) e = absurd (true≢false (sym e))

  module _ (s t : Content) (h : Near s t) where
    word_loaded : (o : Obj) (w : ℕ) (v : Option Val) → value_at s.memory (Word o w) ≡ v → set.contains h.accesses.made o ≡ false
        → AgreeOn (record_load h.accesses (Word o w) v).reads → value_at s.memory (Word o w) ≡ value_at t.memory (Word o w)
    word_loaded o w (Some v) e f g = word_now s t h o w f (λ c. g (Word o w) (load_reads_it h.accesses (Word o w) v c))
    word_loaded o w None e f g =
        e ∙ sym (same_none (value_at t.memory (Word o w))
        (sym (ap is_some e)
        ∙ word_there (map.get s.memory.objects o) (map.get t.memory.objects o) w
        (head_now s t h o f (g (Head o) (inserted_here h.accesses.reads (Head o))))))

    local_loaded : (k : ℕ) (v : Option Val) → value_at s.memory (Local k) ≡ v → AgreeOn (record_load h.accesses (Local k) v).reads
        → value_at s.memory (Local k) ≡ value_at t.memory (Local k)
    local_loaded k (Some v) e g = local_now s t h k (λ c. g (Local k) (load_reads_it h.accesses (Local k) v c))
    local_loaded k None e g = e ∙ sym (same_none (value_at t.memory (Local k)) (sym (ap is_some e) ∙ local_there s t h k))

    head_of_load : (o : Obj) (w : ℕ) (v : Option Val) → AgreeOn (record_load h.accesses (Word o w) v).reads → AgreeAt m n (Head o)
    head_of_load o w v g = g (Head o) (more_of_load h.accesses (Word o w) v (Head o) (inserted_here h.accesses.reads (Head o)))

    same_load : (a : Addr) (k : Kind) → value_at s.memory a ≡ value_at t.memory a → missing_or_outside s.memory a ≡ missing_or_outside t.memory a
        → load_in s.memory a k ≡ load_in t.memory a k
    same_load a k e f =
        ap (loaded s.memory a k) e
        ∙ elim (value_at t.memory a) as (λ v. loaded s.memory a k v ≡ loaded t.memory a k v) [ Some v ↦ refl | None ↦ ap (λ z. Err z) f ]

    abbrev Same : {A : Type 0} → A × Content → A × Content → Type 0
    Same p q = (p.0 ≡ q.0) × Near p.1 q.1

    -- a word of an object that the chunk made
    own_word : (o : Obj) (w : ℕ) → set.contains h.accesses.made o ≡ true → value_at s.memory (Word o w) ≡ value_at t.memory (Word o w)
    own_word o w c = ap (λ x. word_in x w) (h.made o c)

    own_missing : (o : Obj) (w : ℕ) → set.contains h.accesses.made o ≡ true → missing_or_outside s.memory (Word o w) ≡ missing_or_outside t.memory (Word o w)
    own_missing o w c = ap (λ x. if is_some x then trap.Bounds else trap.Missing) (h.made o c)

    other_missing : (o : Obj) (w : ℕ) → set.contains h.accesses.made o ≡ false → AgreeAt m n (Head o)
        → missing_or_outside s.memory (Word o w) ≡ missing_or_outside t.memory (Word o w)
    other_missing o w f e =
        ap (λ b. if b then trap.Bounds else trap.Missing) (there (map.get s.memory.objects o) (map.get t.memory.objects o) (head_now s t h o f e))

    -- the read is recorded alike
    read_near : (a : Addr) (v : Option Val) → Near (with_accesses s (record_load h.accesses a v)) (with_accesses t (record_load h.accesses a v))
    read_near a v = let r =
        load_reads h.accesses a v in near_reads s t h (record_load h.accesses a v) (ap (λ l. l.made) r.2) (ap (λ l. l.freed) r.2) (ap (λ l. l.touched) r.2)

    loaded_alike : (a : Addr) (k : Kind) → value_at s.memory a ≡ value_at t.memory a → missing_or_outside s.memory a ≡ missing_or_outside t.memory a
        → Same (load_in s.memory a k, with_accesses s (record_load h.accesses a (value_at s.memory a)))
        (load_in t.memory a k, with_accesses t (record_load h.accesses a (value_at t.memory a)))
    loaded_alike a k e f = (
      same_load a k e f,
      subst
          (λ v. Near (with_accesses s (record_load h.accesses a (value_at s.memory a))) (with_accesses t (record_load h.accesses a v))) e
          (read_near a (value_at s.memory a)),
    )

    load_word : (o : Obj) (w : ℕ) (k : Kind) (b : Bool) → set.contains h.accesses.made o ≡ b
        → Good (if b then s else with_accesses s (record_load h.accesses (Word o w) (value_at s.memory (Word o w))))
        → Same (load_in s.memory (Word o w) k, if b then s else with_accesses s (record_load h.accesses (Word o w) (value_at s.memory (Word o w))))
        (load_in t.memory (Word o w) k, if b then t else with_accesses t (record_load h.accesses (Word o w) (value_at t.memory (Word o w))))
    load_word o w k true c g = (same_load (Word o w) k (own_word o w c) (own_missing o w c), h)
    load_word o w k false c g =
        loaded_alike (Word o w) k (word_loaded o w (value_at s.memory (Word o w)) refl c g)
        (other_missing o w c (head_of_load o w (value_at s.memory (Word o w)) g))

    load_alike : (a : Addr) (k : Kind) → Good (load_recorded s h.accesses a k None).1
        → Same (load_recorded s h.accesses a k None) (load_recorded t h.accesses a k None)
    load_alike (Word o w) k g = load_word o w k (set.contains h.accesses.made o) refl g
    load_alike (Head o) k g = loaded_alike (Head o) k refl refl
    load_alike (Local i) k g = loaded_alike (Local i) k (local_loaded i (value_at s.memory (Local i)) refl g) refl

    load_by_index : (a : Addr) (k : Kind) (i : Option ℕ) → Good (load_recorded s h.accesses a k i).1
        → Same (load_recorded s h.accesses a k i) (load_recorded t h.accesses a k i)
    load_by_index a k (Some i) g = (refl, h)
    load_by_index a k None g = load_alike a k g

    load_same : (a : Addr) (k : Kind) → Good (load_by s.accesses s a k).1 → Same (load_by s.accesses s a k) (load_by t.accesses t a k)
    load_same a k =
        subst (λ l. Good (load_by l s a k).1 → Same (load_by l s a k) (load_by t.accesses t a k)) (sym h.is_s)
        (subst (λ l. Good (load_by (Some h.accesses) s a k).1 → Same (load_by (Some h.accesses) s a k) (load_by l t a k)) (sym h.is_t)
        (load_by_index a k (red_index h.accesses.reds a)))

  -- what was read before is still read
  load_back_own : (s : Content) (accesses : AccessRecord) (a : Addr) (b : Bool) → s.accesses ≡ Some accesses
      → Good (if b then s else with_accesses s (record_load accesses a (value_at s.memory a))) → Good s
  load_back_own s accesses a true e g = g
  load_back_own s accesses a false e g = subst GoodLog (sym e) (λ q c. g q (more_of_load accesses a (value_at s.memory a) q (more_of_head accesses a q c)))

  load_back_index : (s : Content) (accesses : AccessRecord) (a : Addr) (k : Kind) (i : Option ℕ) → s.accesses ≡ Some accesses
      → Good (load_recorded s accesses a k i).1 → Good s
  load_back_index s accesses a k (Some i) e g = g
  load_back_index s accesses a k None e g = load_back_own s accesses a (is_own accesses a) e g

  load_back : (s : Content) (a : Addr) (k : Kind) (l : Option AccessRecord) → s.accesses ≡ l → Good (load_by l s a k).1 → Good s
  load_back s a k None e g = g
  load_back s a k (Some accesses) e g = load_back_index s accesses a k (red_index accesses.reds a) e g

  load_matches : (a : Addr) (k : Kind) → Matches Near Good (load a k) (load a k)
  unfolding load
  load_matches a k = record { by = λ s t h g. load_same s t h a k g; back = λ s g. load_back s a k s.accesses refl g }

  -- ---- stores

  -- one copy, after a word was put
  half_word : (from now : Memory) (accesses : AccessRecord) (o : Obj) (w : ℕ) (v : Val) (l : AccessRecord) → l.made ≡ accesses.made → l.freed ≡ accesses.freed
      → Grows accesses.touched l.touched → (set.contains accesses.made o ≡ false → set.contains l.touched (Word o w) ≡ true) → Half from now accesses
      → Half from (put now (Word o w) v) l
  half_word from now accesses o w v l em ef grows written h = record {
    kept = λ q f c.
        let f' = ap (λ z. set.contains z q) (sym em) ∙ f in
        let c' = ap (λ z. is_among z q) (sym ef) ∙ c in
        subst (λ x. SameBut l.touched q (map.get from.objects q) x) (sym (get_put now o w v q))
        (elim (obj_eq q o) as
        (λ b. obj_eq q o ≡ b
        → SameBut l.touched q (map.get from.objects q)
        (if b then option_map (λ l. slice_set l w v) (map.get now.objects q) else map.get now.objects q)) [
          | true ↦ λ e.
              let same = obj_equal q o e in
              word_put accesses.touched l.touched q w v (map.get from.objects q) (map.get now.objects q) grows
              (ap (λ p. set.contains l.touched (Word p w)) same ∙ written (ap (set.contains accesses.made) (sym same) ∙ f')) (h.kept q f' c')
          | false ↦ λ e. weaker accesses.touched l.touched q (map.get from.objects q) (map.get now.objects q) grows (h.kept q f' c')
        ] refl);
    gone = λ q f c.
        get_put now o w v q
        ∙ none_set (obj_eq q o) (λ l. slice_set l w v) (map.get now.objects q)
        (h.gone q (ap (λ z. set.contains z q) (sym em) ∙ f) (ap (λ z. is_among z q) (sym ef) ∙ c));
    locals_length = h.locals_length;
    locals = λ k f. h.locals k (lacks accesses.touched l.touched grows (Local k) f);
  }

  half_local : (from now : Memory) (accesses : AccessRecord) (k : ℕ) (v : Val) (l : AccessRecord) → l.made ≡ accesses.made → l.freed ≡ accesses.freed
      → Grows accesses.touched l.touched → set.contains l.touched (Local k) ≡ true → Half from now accesses → Half from (put now (Local k) v) l
  half_local from now accesses k v l em ef grows written h = record {
    kept = λ q f c.
        weaker accesses.touched l.touched q (map.get from.objects q) (map.get now.objects q) grows
        (h.kept q (ap (λ z. set.contains z q) (sym em) ∙ f) (ap (λ z. is_among z q) (sym ef) ∙ c));
    gone = λ q f c. h.gone q (ap (λ z. set.contains z q) (sym em) ∙ f) (ap (λ z. is_among z q) (sym ef) ∙ c);
    locals_length = length-set now.locals k v ∙ h.locals_length;
    locals = λ i f. get_set_other now.locals i k v (λ e. true≢false (sym written ∙ ap (λ i. set.contains l.touched (Local i)) (sym e) ∙ f))
        ∙ h.locals i (lacks accesses.touched l.touched grows (Local i) f);
  }

  -- at each address the two memories answer alike after the same put, if they did before, or if it is the address of the put and a value is there in both
  put_object_alike : (s t : Memory) (o : Obj) (w : ℕ) (v : Val) (q : Obj) → map.get s.objects q ≡ map.get t.objects q
      → map.get (put s (Word o w) v).objects q ≡ map.get (put t (Word o w) v).objects q
  put_object_alike s t o w v q e = get_put s o w v q ∙ ap (λ x. if obj_eq q o then option_map (λ l. slice_set l w v) x else x) e ∙ sym (get_put t o w v q)

  set_there : (x y : Option (List Val)) (w : ℕ) (v : Val) → is_some (word_in x w) ≡ true → is_some (word_in y w) ≡ true
      → word_in (option_map (λ l. slice_set l w v) x) w ≡ word_in (option_map (λ l. slice_set l w v) y) w
  set_there None y w v p q = absurd (true≢false (sym p))
  set_there (Some x) None w v p q = absurd (true≢false (sym q))
  set_there (Some x) (Some y) w v p q = set_both x y w v p q

  put_word_alike : (s t : Memory) (o : Obj) (w : ℕ) (v : Val) → is_some (value_at s (Word o w)) ≡ true → is_some (value_at t (Word o w)) ≡ true
      → value_at (put s (Word o w) v) (Word o w) ≡ value_at (put t (Word o w) v) (Word o w)
  put_word_alike s t o w v p q =
      ap (λ x. word_in x w)
      (get_put s o w v o ∙ ap (λ b. if b then option_map (λ l. slice_set l w v) (map.get s.objects o) else map.get s.objects o) (obj_itself o))
      ∙ set_there (map.get s.objects o) (map.get t.objects o) w v p q
      ∙ sym (ap (λ x. word_in x w)
      (get_put t o w v o ∙ ap (λ b. if b then option_map (λ l. slice_set l w v) (map.get t.objects o) else map.get t.objects o) (obj_itself o)))

  module _ (s t : Content) (h : Near s t) where
    word_put_near : (o : Obj) (w : ℕ) (v : Val) (l : AccessRecord) (ls lt : Option AccessRecord) → ls ≡ Some l → lt ≡ Some l → l.made ≡ h.accesses.made
        → l.freed ≡ h.accesses.freed → Grows h.accesses.touched l.touched → (set.contains h.accesses.made o ≡ false → set.contains l.touched (Word o w) ≡ true)
        → ((a : Addr) → addr_eq a (Word o w) ≡ false → set.contains l.touched a ≡ true → set.contains h.accesses.touched a ≡ true)
        → is_some (value_at s.memory (Word o w)) ≡ true → is_some (value_at t.memory (Word o w)) ≡ true
        → Near (record {
          memory = put s.memory (Word o w) v;
          allocations = s.allocations;
          printed = s.printed;
          accesses = ls;
        }) (record { memory = put t.memory (Word o w) v; allocations = t.allocations; printed = t.printed; accesses = lt })
    word_put_near o w v l ls lt is it em ef grows written before ps pt = record {
      accesses = l;
      is_s = is;
      is_t = it;
      allocations = h.allocations;
      printed = h.printed;
      made = λ q c. put_object_alike s.memory t.memory o w v q (h.made q (ap (λ z. set.contains z q) (sym em) ∙ c));
      touched = λ a c.
          elim (addr_eq a (Word o w)) as (λ b. addr_eq a (Word o w) ≡ b → value_at (put s.memory (Word o w) v) a ≡ value_at (put t.memory (Word o w) v) a) [
            | true ↦ λ e.
                subst (λ a. value_at (put s.memory (Word o w) v) a ≡ value_at (put t.memory (Word o w) v) a) (sym (addr_equal a (Word o w) e))
                (put_word_alike s.memory t.memory o w v ps pt)
            | false ↦ λ e. put_other s.memory o w v a e ∙ h.touched a (before a e c) ∙ sym (put_other t.memory o w v a e)
          ] refl;
      half_s = half_word m s.memory h.accesses o w v l em ef grows written h.half_s;
      half_t = half_word n t.memory h.accesses o w v l em ef grows written h.half_t;
    }

    local_put_near : (k : ℕ) (v : Val) → is_some (slice_get s.memory.locals k) ≡ true → is_some (slice_get t.memory.locals k) ≡ true
        → Near (record {
          memory = put s.memory (Local k) v;
          allocations = s.allocations;
          printed = s.printed;
          accesses = Some (with_touched h.accesses (Local k));
        }) (record { memory = put t.memory (Local k) v; allocations = t.allocations; printed = t.printed; accesses = Some (with_touched h.accesses (Local k)) })
    local_put_near k v ps pt = record {
      accesses = with_touched h.accesses (Local k);
      is_s = refl;
      is_t = refl;
      allocations = h.allocations;
      printed = h.printed;
      made = h.made;
      touched = λ a c.
          elim (addr_eq a (Local k)) as (λ b. addr_eq a (Local k) ≡ b → value_at (put s.memory (Local k) v) a ≡ value_at (put t.memory (Local k) v) a) [
            | true ↦ λ e. subst (λ a. value_at (put s.memory (Local k) v) a ≡ value_at (put t.memory (Local k) v) a) (sym (addr_equal a (Local k) e))
                (set_both s.memory.locals t.memory.locals k v ps pt)
            | false ↦ λ e. local_other s.memory k v a e ∙ h.touched a (touched_before h.accesses.touched (Local k) a e c) ∙ sym (local_other t.memory k v a e)
          ] refl;
      half_s = half_local m s.memory h.accesses k v (with_touched h.accesses (Local k)) refl refl (inserted_more h.accesses.touched (Local k))
          (inserted_here h.accesses.touched (Local k)) h.half_s;
      half_t = half_local n t.memory h.accesses k v (with_touched h.accesses (Local k)) refl refl (inserted_more h.accesses.touched (Local k))
          (inserted_here h.accesses.touched (Local k)) h.half_t;
    }

    store_word : (o : Obj) (w : ℕ) (x : Val) (b : Bool) (vs vt : Option Val) → set.contains h.accesses.made o ≡ b → value_at s.memory (Word o w) ≡ vs
        → value_at t.memory (Word o w) ≡ vt → is_some vs ≡ is_some vt → (b ≡ false → AgreeAt m n (Head o))
        → Same s t h (store_in (if b then s else with_accesses s (record_store h.accesses (Word o w) vs)) (Word o w) x vs)
        (store_in (if b then t else with_accesses t (record_store h.accesses (Word o w) vt)) (Word o w) x vt)
    store_word o w x true (Some y) (Some z) c es et p head = (
      refl,
      word_put_near o w x h.accesses s.accesses t.accesses h.is_s h.is_t refl refl (λ a f. f) (λ f. absurd (true≢false (sym c ∙ f))) (λ a e f. f)
          (ap is_some es) (ap is_some et),
    )
    store_word o w x true None None c es et p head = (ap (λ z. Err z) (own_missing s t h o w c), h)
    store_word o w x false (Some y) (Some z) c es et p head = (
      refl,
      word_put_near o w x (record_store h.accesses (Word o w) (Some y)) (Some (record_store h.accesses (Word o w) (Some y)))
          (Some (record_store h.accesses (Word o w) (Some y))) refl refl refl refl (inserted_more h.accesses.touched (Word o w))
          (λ f. inserted_here h.accesses.touched (Word o w)) (touched_before h.accesses.touched (Word o w)) (ap is_some es) (ap is_some et),
    )
    store_word o w x false None None c es et p head =
        (ap (λ z. Err z) (other_missing s t h o w c (head refl)), near_reads s t h (with_head h.accesses (Word o w)) refl refl refl)
    store_word o w x b (Some y) None c es et p head = absurd (true≢false p)
    store_word o w x b None (Some z) c es et p head = absurd (true≢false (sym p))

    store_local : (k : ℕ) (x : Val) (vs vt : Option Val) → value_at s.memory (Local k) ≡ vs → value_at t.memory (Local k) ≡ vt → is_some vs ≡ is_some vt
        → Same s t h (store_in (with_accesses s (record_store h.accesses (Local k) vs)) (Local k) x vs)
        (store_in (with_accesses t (record_store h.accesses (Local k) vt)) (Local k) x vt)
    store_local k x (Some y) (Some z) es et p = (refl, local_put_near k x (ap is_some es) (ap is_some et))
    store_local k x None None es et p = (refl, near_reads s t h h.accesses refl refl refl)
    store_local k x (Some y) None es et p = absurd (true≢false p)
    store_local k x None (Some z) es et p = absurd (true≢false (sym p))

    -- a store reads the head
    store_head : (o : Obj) (w : ℕ) (x : Val) (vs : Option Val) → Good (store_in (with_accesses s (record_store h.accesses (Word o w) vs)) (Word o w) x vs).1
        → AgreeAt m n (Head o)
    store_head o w x (Some y) g = g (Head o) (inserted_here h.accesses.reads (Head o))
    store_head o w x None g = g (Head o) (inserted_here h.accesses.reads (Head o))

    word_presence : (o : Obj) (w : ℕ) (b : Bool) → set.contains h.accesses.made o ≡ b → (b ≡ false → AgreeAt m n (Head o))
        → is_some (value_at s.memory (Word o w)) ≡ is_some (value_at t.memory (Word o w))
    word_presence o w true c head = ap is_some (own_word s t h o w c)
    word_presence o w false c head = word_there (map.get s.memory.objects o) (map.get t.memory.objects o) w (head_now s t h o c (head refl))

    store_word_alike : (o : Obj) (w : ℕ) (x : Val) (b : Bool) → set.contains h.accesses.made o ≡ b
        → Good (store_in (if b then s else with_accesses s (record_store h.accesses (Word o w) (value_at s.memory (Word o w)))) (Word o w) x
        (value_at s.memory (Word o w))).1
        → Same s t h
        (store_in (if b then s else with_accesses s (record_store h.accesses (Word o w) (value_at s.memory (Word o w)))) (Word o w) x
        (value_at s.memory (Word o w)))
        (store_in (if b then t else with_accesses t (record_store h.accesses (Word o w) (value_at t.memory (Word o w)))) (Word o w) x
        (value_at t.memory (Word o w)))
    store_word_alike o w x true c g =
        let head : true ≡ false → AgreeAt m n (Head o) = λ e. absurd (true≢false e) in
        store_word o w x true (value_at s.memory (Word o w)) (value_at t.memory (Word o w)) c refl refl (word_presence o w true c head) head
    store_word_alike o w x false c g =
        let head : false ≡ false → AgreeAt m n (Head o) = λ e. store_head o w x (value_at s.memory (Word o w)) g in
        store_word o w x false (value_at s.memory (Word o w)) (value_at t.memory (Word o w)) c refl refl (word_presence o w false c head) head

    store_alike : (a : Addr) (x : Val) → Good (store_recorded s h.accesses a x None).1
        → Same s t h (store_recorded s h.accesses a x None) (store_recorded t h.accesses a x None)
    store_alike (Word o w) x g = store_word_alike o w x (set.contains h.accesses.made o) refl g
    store_alike (Head o) x g = (refl, near_reads s t h h.accesses refl refl refl)
    store_alike (Local k) x g = store_local k x (value_at s.memory (Local k)) (value_at t.memory (Local k)) refl refl (local_there s t h k)

    store_by_index : (a : Addr) (x : Val) (i : Option ℕ) → Good (store_recorded s h.accesses a x i).1
        → Same s t h (store_recorded s h.accesses a x i) (store_recorded t h.accesses a x i)
    store_by_index a x (Some i) g = (refl, near_reads s t h (record h.accesses { accumulators = slice_set h.accesses.accumulators i x }) refl refl refl)
    store_by_index a x None g = store_alike a x g

    store_same : (a : Addr) (x : Val) → Good (store_by s.accesses s a x).1 → Same s t h (store_by s.accesses s a x) (store_by t.accesses t a x)
    store_same a x =
        subst (λ l. Good (store_by l s a x).1 → Same s t h (store_by l s a x) (store_by t.accesses t a x)) (sym h.is_s)
        (subst (λ l. Good (store_by (Some h.accesses) s a x).1 → Same s t h (store_by (Some h.accesses) s a x) (store_by l t a x)) (sym h.is_t)
        (store_by_index a x (red_index h.accesses.reds a)))

  more_of_store : (accesses : AccessRecord) (a : Addr) (v : Option Val) (q : Addr) → set.contains accesses.reads q ≡ true
      → set.contains (record_store accesses a v).reads q ≡ true
  more_of_store accesses a (Some v) q e = more_of_head accesses a q e
  more_of_store accesses a None q e = more_of_head accesses a q e

  kept_log : (d : Content) (a : Addr) (x : Val) (v : Option Val) → (store_in d a x v).1.accesses ≡ d.accesses
  kept_log d a x (Some v) = refl
  kept_log d a x None = refl

  store_back_own : (s : Content) (accesses : AccessRecord) (a : Addr) (b : Bool) → s.accesses ≡ Some accesses
      → Good (if b then s else with_accesses s (record_store accesses a (value_at s.memory a))) → Good s
  store_back_own s accesses a true e g = g
  store_back_own s accesses a false e g = subst GoodLog (sym e) (λ q c. g q (more_of_store accesses a (value_at s.memory a) q c))

  store_back_index : (s : Content) (accesses : AccessRecord) (a : Addr) (x : Val) (i : Option ℕ) → s.accesses ≡ Some accesses
      → Good (store_recorded s accesses a x i).1 → Good s
  store_back_index s accesses a x (Some i) e g = subst GoodLog (sym e) g
  store_back_index s accesses a x None e g =
      store_back_own s accesses a (is_own accesses a) e
      (subst GoodLog
      (kept_log (if is_own accesses a then s else with_accesses s (record_store accesses a (value_at s.memory a))) a x (value_at s.memory a)) g)

  store_back : (s : Content) (a : Addr) (x : Val) (l : Option AccessRecord) → s.accesses ≡ l → Good (store_by l s a x).1 → Good s
  store_back s a x None e g = subst GoodLog (kept_log s a x (value_at s.memory a)) g
  store_back s a x (Some accesses) e g = store_back_index s accesses a x (red_index accesses.reds a) e g

  store_matches : (a : Addr) (x : Val) → Matches Near Good (store a x) (store a x)
  unfolding store
  store_matches a x = record { by = λ s t h g. store_same s t h a x g; back = λ s g. store_back s a x s.accesses refl g }

  -- ---- allocations and printing

  get_inserted : (s : Memory) (o : Obj) (ws : List Val) (q : Obj) → obj_eq q o ≡ false → map.get (map.insert s.objects o ws) q ≡ map.get s.objects q
  get_inserted s o ws q f = map.get-insert obj_total s.objects o ws q ∙ ap (λ b. cond b (Some ws) (map.get s.objects q)) f

  inserted_alike : (s t : Memory) (o : Obj) (ws : List Val) (q : Obj) (b : Bool) → (b ≡ false → map.get s.objects q ≡ map.get t.objects q)
      → cond b (Some ws) (map.get s.objects q) ≡ cond b (Some ws) (map.get t.objects q)
  inserted_alike s t o ws q true e = refl
  inserted_alike s t o ws q false e = e refl

  word_inserted : (s t : Memory) (ws : List Val) (q : Obj) (i : ℕ) (b : Bool) → word_in (map.get s.objects q) i ≡ word_in (map.get t.objects q) i
      → word_in (cond b (Some ws) (map.get s.objects q)) i ≡ word_in (cond b (Some ws) (map.get t.objects q)) i
  word_inserted s t ws q i true e = refl
  word_inserted s t ws q i false e = e

  value_inserted : (s t : Memory) (o : Obj) (ws : List Val) (a : Addr) → value_at s a ≡ value_at t a → value_at (add s o ws) a ≡ value_at (add t o ws) a
  value_inserted s t o ws (Word q i) e =
      ap (λ x. word_in x i) (map.get-insert obj_total s.objects o ws q) ∙ word_inserted s t ws q i (obj_eq q o) e
      ∙ sym (ap (λ x. word_in x i) (map.get-insert obj_total t.objects o ws q))
  value_inserted s t o ws (Head q) e = refl
  value_inserted s t o ws (Local k) e = e

  abbrev with_made : AccessRecord → Obj → AccessRecord
  with_made accesses o = with_touched (record accesses { made = set.insert accesses.made o }) (Head o)

  half_made : (from now : Memory) (accesses : AccessRecord) (o : Obj) (ws : List Val) → Half from now accesses → Half from (add now o ws) (with_made accesses o)
  half_made from now accesses o ws h = record {
    kept = λ q f c.
        let both = sym (set.contains-insert obj_total accesses.made o q) ∙ f in
        subst (λ x. SameBut (set.insert accesses.touched (Head o)) q (map.get from.objects q) x)
        (sym (get_inserted now o ws q (or_left (obj_eq q o) (set.contains accesses.made q) both)))
        (weaker accesses.touched (set.insert accesses.touched (Head o)) q (map.get from.objects q) (map.get now.objects q)
        (inserted_more accesses.touched (Head o))
        (h.kept q (or_right (obj_eq q o) (set.contains accesses.made q) both) c));
    gone = λ q f c.
        let both = sym (set.contains-insert obj_total accesses.made o q) ∙ f in
        get_inserted now o ws q (or_left (obj_eq q o) (set.contains accesses.made q) both)
        ∙ h.gone q (or_right (obj_eq q o) (set.contains accesses.made q) both) c;
    locals_length = h.locals_length;
    locals = λ k f. h.locals k (lacks accesses.touched (set.insert accesses.touched (Head o)) (inserted_more accesses.touched (Head o)) (Local k) f);
  }

  or_false_left : (b c : Bool) → b ≡ false → (b || c) ≡ true → c ≡ true
  or_false_left true c f e = absurd (true≢false f)
  or_false_left false c f e = e

  object_near : (s t : Content) (h : Near s t) (o : Obj) (words : ℕ) → Near (with_object s o words) (with_object t o words)
  object_near s t h o words =
      let ws = replicate words (Int (pos 0)) in
      record {
        accesses = with_made h.accesses o;
        is_s = ap (λ l. record_make l o) h.is_s;
        is_t = ap (λ l. record_make l o) h.is_t;
        allocations = ap (λ z. one_more z words) h.allocations;
        printed = h.printed;
        made = λ q c.
            map.get-insert obj_total s.memory.objects o ws q
            ∙ inserted_alike s.memory t.memory o ws q (obj_eq q o)
            (λ f. h.made q (or_false_left (obj_eq q o) (set.contains h.accesses.made q) f (sym (set.contains-insert obj_total h.accesses.made o q) ∙ c)))
            ∙ sym (map.get-insert obj_total t.memory.objects o ws q);
        touched = λ a c.
            elim (addr_eq a (Head o)) as (λ b. addr_eq a (Head o) ≡ b → value_at (add s.memory o ws) a ≡ value_at (add t.memory o ws) a) [
              | true ↦ λ e. subst (λ a. value_at (add s.memory o ws) a ≡ value_at (add t.memory o ws) a) (sym (addr_equal a (Head o) e)) refl
              | false ↦ λ e. value_inserted s.memory t.memory o ws a (h.touched a (touched_before h.accesses.touched (Head o) a e c))
            ] refl;
        half_s = half_made m s.memory h.accesses o ws h.half_s;
        half_t = half_made n t.memory h.accesses o ws h.half_t;
      }

  abbrev over_limit : ℕ → Allocations → Bool
  over_limit words allocations = nat_lt (word_limit allocations.allocator) (allocations.words + words + 1)

  limited_same : (s t : Content) (h : Near s t) (words : ℕ) (b : Bool) → Same s t h (limited s b words) (limited t b words)
  limited_same s t h words true = (refl, h)
  limited_same s t h words false =
      let o = name_of s.allocations.allocator s.allocations.next in (
        ap {A = Allocations} {B = Result Obj Trap} (λ z. Ok (name_of z.allocator z.next)) h.allocations,
        subst (λ z. Near (with_object s o words) (with_object t z words)) (ap (λ z. name_of z.allocator z.next) h.allocations) (object_near s t h o words),
      )

  make_back : (s : Content) (o : Obj) (l : Option AccessRecord) → GoodLog (record_make l o) → GoodLog l
  make_back s o None g = tt
  make_back s o (Some accesses) g = g

  limited_back : (s : Content) (words : ℕ) (b : Bool) → Good (limited s b words).1 → Good s
  limited_back s words true g = g
  limited_back s words false g = make_back s (name_of s.allocations.allocator s.allocations.next) s.accesses g

  make_matches : (words : ℕ) → Matches Near Good (make words) (make words)
  unfolding make
  make_matches words = record {
    by = λ s t h g. subst (λ b. Same s t h (limited s (over_limit words s.allocations) words) (limited t b words)) (ap (over_limit words) h.allocations)
        (limited_same s t h words (over_limit words s.allocations));
    back = λ s g. limited_back s words (over_limit words s.allocations) g;
  }

  -- ---- what is freed

  object_removed : (s t : Memory) (o q : Obj) → map.get s.objects q ≡ map.get t.objects q → map.get (remove s o).objects q ≡ map.get (remove t o).objects q
  object_removed s t o q e = get_remove s o q ∙ ap (λ x. cond (obj_eq q o) None x) e ∙ sym (get_remove t o q)

  word_removed : (b : Bool) (x y : Option (List Val)) (i : ℕ) → word_in x i ≡ word_in y i → word_in (cond b None x) i ≡ word_in (cond b None y) i
  word_removed true x y i e = refl
  word_removed false x y i e = e

  value_removed : (s t : Memory) (o : Obj) (a : Addr) → value_at s a ≡ value_at t a → value_at (remove s o) a ≡ value_at (remove t o) a
  value_removed s t o (Word q i) e =
      ap (λ x. word_in x i) (get_remove s o q) ∙ word_removed (obj_eq q o) (map.get s.objects q) (map.get t.objects q) i e
      ∙ sym (ap (λ x. word_in x i) (get_remove t o q))
  value_removed s t o (Head q) e = refl
  value_removed s t o (Local k) e = e

  -- an own object is freed
  half_own_freed : (from now : Memory) (accesses : AccessRecord) (o : Obj) → set.contains accesses.made o ≡ true → Half from now accesses
      → Half from (remove now o) accesses
  half_own_freed from now accesses o own h = record {
    kept = λ q f c.
        let other = obj_differs q o (λ e. true≢false (sym own ∙ ap (set.contains accesses.made) (sym e) ∙ f)) in
        subst (λ x. SameBut accesses.touched q (map.get from.objects q) x) (sym (get_remove now o q ∙ ap (λ b. cond b None (map.get now.objects q)) other))
        (h.kept q f c);
    gone = λ q f c. get_remove now o q ∙ none_left (obj_eq q o) (map.get now.objects q) (h.gone q f c);
    locals_length = h.locals_length;
    locals = h.locals;
  }

  gone_then : (now : Memory) (o q : Obj) (a b : Bool) → obj_eq q o ≡ b → (a ≡ true → map.get now.objects q ≡ None) → (a || (b || false)) ≡ true
      → map.get (remove now o).objects q ≡ None
  gone_then now o q true b t g c = get_remove now o q ∙ none_left (obj_eq q o) (map.get now.objects q) (g refl)
  gone_then now o q false true t g c = get_remove now o q ∙ ap (λ b. cond b None (map.get now.objects q)) t
  gone_then now o q false false t g c = absurd (true≢false (sym c))

  -- another one is freed
  half_freed : (from now : Memory) (accesses : AccessRecord) (o : Obj) → Half from now accesses → Half from (remove now o) (record_free accesses o true)
  half_freed from now accesses o h = record {
    kept = λ q f c.
        let both = sym (among_append accesses.freed (o ∷ []) q) ∙ c in
        let other = or_left (obj_eq q o) false (or_right (is_among accesses.freed q) (obj_eq q o || false) both) in
        subst (λ x. SameBut (set.insert accesses.touched (Head o)) q (map.get from.objects q) x)
        (sym (get_remove now o q ∙ ap (λ b. cond b None (map.get now.objects q)) other))
        (weaker accesses.touched (set.insert accesses.touched (Head o)) q (map.get from.objects q) (map.get now.objects q)
        (inserted_more accesses.touched (Head o))
        (h.kept q f (or_left (is_among accesses.freed q) (obj_eq q o || false) both)));
    gone = λ q f c. gone_then now o q (is_among accesses.freed q) (obj_eq q o) refl (h.gone q f) (sym (among_append accesses.freed (o ∷ []) q) ∙ c);
    locals_length = h.locals_length;
    locals = λ k f. h.locals k (lacks accesses.touched (set.insert accesses.touched (Head o)) (inserted_more accesses.touched (Head o)) (Local k) f);
  }

  module _ (s t : Content) (h : Near s t) where
    own_near : (o : Obj) → set.contains h.accesses.made o ≡ true
        → Near (record s { memory = remove s.memory o; accesses = Some h.accesses }) (record t { memory = remove t.memory o; accesses = Some h.accesses })
    own_near o own = record {
      accesses = h.accesses;
      is_s = refl;
      is_t = refl;
      allocations = h.allocations;
      printed = h.printed;
      made = λ q c. object_removed s.memory t.memory o q (h.made q c);
      touched = λ a c. value_removed s.memory t.memory o a (h.touched a c);
      half_s = half_own_freed m s.memory h.accesses o own h.half_s;
      half_t = half_own_freed n t.memory h.accesses o own h.half_t;
    }

    other_near : (o : Obj)
        → Near (record s {
          memory = remove s.memory o;
          accesses = Some (record_free h.accesses o true);
        }) (record t { memory = remove t.memory o; accesses = Some (record_free h.accesses o true) })
    other_near o = record {
      accesses = record_free h.accesses o true;
      is_s = refl;
      is_t = refl;
      allocations = h.allocations;
      printed = h.printed;
      made = λ q c. object_removed s.memory t.memory o q (h.made q c);
      touched = λ a c.
          elim (addr_eq a (Head o)) as (λ b. addr_eq a (Head o) ≡ b → value_at (remove s.memory o) a ≡ value_at (remove t.memory o) a) [
            | true ↦ λ e. subst (λ a. value_at (remove s.memory o) a ≡ value_at (remove t.memory o) a) (sym (addr_equal a (Head o) e)) refl
            | false ↦ λ e. value_removed s.memory t.memory o a (h.touched a (touched_before h.accesses.touched (Head o) a e c))
          ] refl;
      half_s = half_freed m s.memory h.accesses o h.half_s;
      half_t = half_freed n t.memory h.accesses o h.half_t;
    }

    -- what is recorded of a free
    abbrev free_log : Obj → Bool → Bool → AccessRecord
    free_log o own there = if own then h.accesses else record_free h.accesses o there

    freed_alike : (o : Obj) (own there : Bool) → set.contains h.accesses.made o ≡ own
        → Same s t h (free_there (record s { accesses = Some (free_log o own there) }) o there)
        (free_there (record t { accesses = Some (free_log o own there) }) o there)
    freed_alike o true true own = (refl, own_near o own)
    freed_alike o true false own = (refl, near_reads s t h h.accesses refl refl refl)
    freed_alike o false true own = (refl, other_near o)
    freed_alike o false false own = (refl, near_reads s t h (record_free h.accesses o false) refl refl refl)

    presence : (o : Obj) (own : Bool) → set.contains h.accesses.made o ≡ own → (own ≡ false → AgreeAt m n (Head o))
        → has_object s.memory o ≡ has_object t.memory o
    presence o true c head = ap is_some (h.made o c)
    presence o false c head = there (map.get s.memory.objects o) (map.get t.memory.objects o) (head_now s t h o c (head refl))

    free_head : (o : Obj) (there : Bool) → AgreeOn (record_free h.accesses o there).reads → AgreeAt m n (Head o)
    free_head o true g = g (Head o) (inserted_here h.accesses.reads (Head o))
    free_head o false g = g (Head o) (inserted_here h.accesses.reads (Head o))

    free_agreed : (o : Obj) (own there : Bool) → AgreeOn (free_log o own there).reads → own ≡ false → AgreeAt m n (Head o)
    free_agreed o true there g e = absurd (true≢false e)
    free_agreed o false there g e = free_head o there g

    free_alike : (o : Obj) (own : Bool) → set.contains h.accesses.made o ≡ own → AgreeOn (free_log o own (has_object s.memory o)).reads
        → Same s t h (free_there (record s { accesses = Some (free_log o own (has_object s.memory o)) }) o (has_object s.memory o))
        (free_there (record t { accesses = Some (free_log o own (has_object t.memory o)) }) o (has_object t.memory o))
    free_alike o own c g =
        subst (λ z. Same s t h (free_there (record s { accesses = Some (free_log o own (has_object s.memory o)) }) o (has_object s.memory o))
        (free_there (record t { accesses = Some (free_log o own z) }) o z))
        (presence o own c (free_agreed o own (has_object s.memory o) g)) (freed_alike o own (has_object s.memory o) c)

  free_log_kept : (c : Content) (o : Obj) (there : Bool) → (free_there c o there).1.accesses ≡ c.accesses
  free_log_kept c o true = refl
  free_log_kept c o false = refl

  abbrev freed_by : Option AccessRecord → Content → Obj → Result (Unit {0}) Trap × Content
  freed_by l c o = free_there (record c { accesses = free_recorded l o (has_object c.memory o) }) o (has_object c.memory o)

  free_same : (s t : Content) (h : Near s t) (o : Obj) (b : Bool) → Good (free_if s o b).1 → Same s t h (free_if s o b) (free_if t o b)
  free_same s t h o false g = (refl, h)
  free_same s t h o true g =
      subst (λ l. Good (freed_by l s o).1 → Same s t h (freed_by l s o) (freed_by t.accesses t o)) (sym h.is_s)
      (subst (λ l. Good (freed_by (Some h.accesses) s o).1 → Same s t h (freed_by (Some h.accesses) s o) (freed_by l t o)) (sym h.is_t)
      (λ g. free_alike s t h o (set.contains h.accesses.made o) refl
      (subst GoodLog (free_log_kept (record s { accesses = free_recorded (Some h.accesses) o (has_object s.memory o) }) o (has_object s.memory o)) g))) g

  freed_back : (accesses : AccessRecord) (o : Obj) (own there : Bool) → AgreeOn (if own then accesses else record_free accesses o there).reads
      → AgreeOn accesses.reads
  freed_back accesses o true there g = g
  freed_back accesses o false true g = λ q c. g q (inserted_more accesses.reads (Head o) q c)
  freed_back accesses o false false g = λ q c. g q (inserted_more accesses.reads (Head o) q c)

  free_log_back : (l : Option AccessRecord) (o : Obj) (there : Bool) → GoodLog (free_recorded l o there) → GoodLog l
  free_log_back None o there g = tt
  free_log_back (Some accesses) o there g = freed_back accesses o (set.contains accesses.made o) there g

  free_back : (s : Content) (o : Obj) (b : Bool) → Good (free_if s o b).1 → Good s
  free_back s o false g = g
  free_back s o true g =
      free_log_back s.accesses o (has_object s.memory o)
      (subst GoodLog (free_log_kept (record s { accesses = free_recorded s.accesses o (has_object s.memory o) }) o (has_object s.memory o)) g)

  free_matches : (o : Obj) (at : ℕ) → Matches Near Good (free o at) (free o at)
  unfolding free
  free_matches o at = record { by = λ s t h g. free_same s t h o (is_freeable o at) g; back = λ s g. free_back s o (is_freeable o at) g }

  print_matches : (bytes : List ℕ) → Matches Near Good {A = Result (Unit {0}) Trap} (λ s. (Ok tt, print bytes s)) (λ t. (Ok tt, print bytes t))
  unfolding print
  print_matches bytes = record {
    by = λ s t h g. (
      refl,
      record {
        accesses = h.accesses;
        is_s = h.is_s;
        is_t = h.is_t;
        allocations = h.allocations;
        printed = ap (λ z. z ++ bytes) h.printed;
        made = h.made;
        touched = h.touched;
        half_s = h.half_s;
        half_t = h.half_t;
      },
    );
    back = λ s g. g;
  }

  pub near_kept : Kept Near Good in_iteration in_iteration
  near_kept = record {
    load = load_matches;
    store = store_matches;
    make = make_matches;
    free = free_matches;
    print = print_matches;
    visit = λ loop lo hi locals. record { by = λ s t h g. (refl, h); back = λ s g. g };
  }
