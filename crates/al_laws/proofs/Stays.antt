-- A chunk's private memory differs from the one it was copied from only where the record says so.
use Rattle.std.proofs.Common.{◌≡◌, ◌≢◌, ℕ, ◌+◌, List, [], ◌∷◌, ◌++◌, Option, Some, None, Result, Ok, Err, Bool, true, false, cond, ◌||◌, refl, sym, ap, subst, ◌∙◌, ◌⊎◌, inl, inr}
use Rattle.std.specs.Prelude.{pos, if◌then◌else◌, nat_lt, is_some, option_map, slice_set, replicate}
use Rattle.std.specs.FinMap as map
use Rattle.std.specs.FinSet as set
use Rattle.std.specs.FinSet.{FinSet}
use Rattle.std.proofs.Math.Bool.{true≢false}
use Rattle.std.proofs.lemmas.List.{length-set}
use Rattle.al_core.specs.declared.values.Val.{Val}
use Rattle.al_core.specs.declared.values.Val.TheVariants.{Int}
use Rattle.al_core.specs.declared.values.Addr.{Addr}
use Rattle.al_core.specs.declared.values.Addr.TheVariants.{Word, Head, Local}
use Rattle.al_core.specs.declared.values.Kind.{Kind}
use Rattle.al_core.specs.declared.values.Trap.{Trap}
use Rattle.al_core.specs.declared.values.Trap.TheVariants as trap
use Rattle.al_core.specs.declared.values.Obj.{Obj}
use Rattle.al_core.specs.declared.values.Obj.TheVariants.{Global, Serial, Iter}
use Rattle.al_core.specs.Orders.{obj_cmp, obj_eq, addr_cmp, addr_eq}
use Rattle.al_core.specs.Memory.{Memory, has_object, value_at, with_words, put, add, remove}
use Rattle.al_core.specs.Access.{AccessRecord, Content, with_memory, with_accesses, with_head, record_load, record_store, record_free, free_recorded, is_own, red_index, load_recorded, store_recorded, load_by, store_by, store_in, record_make, with_touched, with_object, word_limit, name_of, is_freeable, free_there, free_if, load, store, make, free, print, in_iteration}
use Rattle.al_core.specs.Readiness.{IsNameFrom}
use Rattle.al_laws.specs.PrivateMemories.{is_among, SameBut, IsGone, IsPrivate}
use Rattle.al_laws.proofs.Orders.{obj_total, addr_total, obj_equal, obj_itself, addr_itself}
use Rattle.al_laws.proofs.Keeps.{KeepsOp, KeepsWorld}
use Rattle.al_laws.proofs.Words.{get_set_other}

-- ---- a memory after a word was put

get_with_words : (objects : map.FinMap obj_cmp (List Val)) (o : Obj) (w : ℕ) (v : Val) (q : Obj) (ws : Option (List Val)) → map.get objects o ≡ ws
    → map.get (with_words objects o w v ws) q ≡ (if obj_eq q o then option_map (λ l. slice_set l w v) (map.get objects q) else map.get objects q)
get_with_words objects o w v q (Some ws) e =
    map.get-insert obj_total objects o (slice_set ws w v) q
    ∙ elim (obj_eq q o) as
    (λ b. obj_eq q o ≡ b
    → cond b (Some (slice_set ws w v)) (map.get objects q) ≡ (if b then option_map (λ l. slice_set l w v) (map.get objects q) else map.get objects q)) [
      | true ↦ λ t. sym (ap (option_map (λ l. slice_set l w v)) (ap (map.get objects) (obj_equal q o t) ∙ e))
      | false ↦ λ t. refl
    ] refl
get_with_words objects o w v q None e =
    elim (obj_eq q o) as (λ b. obj_eq q o ≡ b → map.get objects q ≡ (if b then option_map (λ l. slice_set l w v) (map.get objects q) else map.get objects q)) [
      | true ↦ λ t. let none = ap (map.get objects) (obj_equal q o t) ∙ e in none ∙ sym (ap (option_map (λ l. slice_set l w v)) none)
      | false ↦ λ t. refl
    ] refl

pub get_put : (m : Memory) (o : Obj) (w : ℕ) (v : Val) (q : Obj)
    → map.get (put m (Word o w) v).objects q ≡ (if obj_eq q o then option_map (λ l. slice_set l w v) (map.get m.objects q) else map.get m.objects q)
get_put m o w v q = get_with_words m.objects o w v q (map.get m.objects o) refl

pub get_add : (m : Memory) (o : Obj) (ws : List Val) (q : Obj) → map.get (add m o ws).objects q ≡ cond (obj_eq q o) (Some ws) (map.get m.objects q)
get_add m o ws q = map.get-insert obj_total m.objects o ws q

pub get_remove : (m : Memory) (o q : Obj) → map.get (remove m o).objects q ≡ cond (obj_eq q o) None (map.get m.objects q)
get_remove m o q = map.get-remove obj_total m.objects o q

-- ---- sets with an element more

-- the second has all that the first has
abbrev pub Grows : FinSet addr_cmp → FinSet addr_cmp → Type 0
Grows s t = (a : Addr) → set.contains s a ≡ true → set.contains t a ≡ true

or_true : (b : Bool) → (b || true) ≡ true
or_true true = refl
or_true false = refl

pub or_left : (b c : Bool) → (b || c) ≡ false → b ≡ false
or_left true c h = h
or_left false c h = refl

pub or_right : (b c : Bool) → (b || c) ≡ false → c ≡ false
or_right true c h = absurd (true≢false h)
or_right false c h = h

pub inserted_more : (s : FinSet addr_cmp) (a q : Addr) → set.contains s q ≡ true → set.contains (set.insert s a) q ≡ true
inserted_more s a q e = set.contains-insert addr_total s a q ∙ ap (λ b. addr_eq q a || b) e ∙ or_true (addr_eq q a)

pub inserted_here : (s : FinSet addr_cmp) (a : Addr) → set.contains (set.insert s a) a ≡ true
inserted_here s a = set.contains-insert addr_total s a a ∙ ap (λ b. b || set.contains s a) (addr_itself a)

pub inserted_weaker : (s : FinSet addr_cmp) (a q : Addr) → set.contains (set.insert s a) q ≡ false → set.contains s q ≡ false
inserted_weaker s a q h = or_right (addr_eq q a) (set.contains s q) (sym (set.contains-insert addr_total s a q) ∙ h)

-- what the greater set lacks, the smaller lacks
pub lacks : (s t : FinSet addr_cmp) → Grows s t → (a : Addr) → set.contains t a ≡ false → set.contains s a ≡ false
lacks s t grows a h =
    elim (set.contains s a) as (λ b. set.contains s a ≡ b → b ≡ false) [ true ↦ λ e. absurd (true≢false (sym (grows a e) ∙ h)) | false ↦ λ e. refl ] refl

pub obj_differs : (x y : Obj) → x ≢ y → obj_eq x y ≡ false
obj_differs x y n = elim (obj_eq x y) as (λ b. obj_eq x y ≡ b → b ≡ false) [ true ↦ λ t. absurd (n (obj_equal x y t)) | false ↦ λ t. refl ] refl

-- ---- lists of objects

pub among_append : (os ps : List Obj) (q : Obj) → is_among (os ++ ps) q ≡ (is_among os q || is_among ps q)
among_append [] ps q = refl
among_append (o ∷ os) ps q =
    elim (obj_eq q o) as (λ b. (b || is_among (os ++ ps) q) ≡ ((b || is_among os q) || is_among ps q)) [ true ↦ refl | false ↦ among_append os ps q ]

-- ---- what stays

pub same_itself : (t : FinSet addr_cmp) (o : Obj) (y : Option (List Val)) → SameBut t o y y
same_itself t o None = tt
same_itself t o (Some ws) = (refl, λ w n. refl)

-- more is touched now
pub weaker : (t u : FinSet addr_cmp) (o : Obj) (x y : Option (List Val)) → Grows t u → SameBut t o x y → SameBut u o x y
weaker t u o None None g s = tt
weaker t u o None (Some ws) g s = s
weaker t u o (Some vs) None g s = s
weaker t u o (Some vs) (Some ws) g s = (s.0, λ i n. s.1 i (lacks t u g (Word o i) n))

-- a word that is touched was put
pub word_put : (t u : FinSet addr_cmp) (o : Obj) (i : ℕ) (v : Val) (x y : Option (List Val)) → Grows t u → set.contains u (Word o i) ≡ true → SameBut t o x y
    → SameBut u o x (option_map (λ l. slice_set l i v) y)
word_put t u o i v None None g c s = tt
word_put t u o i v None (Some ws) g c s = s
word_put t u o i v (Some vs) None g c s = s
word_put t u o i v (Some vs) (Some ws) g c s = (
  length-set ws i v ∙ s.0,
  λ k n. get_set_other ws k i v (λ e. true≢false (sym c ∙ ap (λ k. set.contains u (Word o k)) (sym e) ∙ n))
      ∙ s.1 k (lacks t u g (Word o k) n),
)

-- what is there now was there
pub there_before : (t : FinSet addr_cmp) (o : Obj) (x y : Option (List Val)) → SameBut t o x y → is_some y ≡ true → is_some x ≡ true
there_before t o None None s h = h
there_before t o None (Some ws) s h = absurd s
there_before t o (Some vs) y s h = refl

pub none_set : (b : Bool) (f : List Val → List Val) (x : Option (List Val)) → x ≡ None → (if b then option_map f x else x) ≡ None
none_set true f x h = ap (option_map f) h
none_set false f x h = h

pub none_left : (b : Bool) (x : Option (List Val)) → x ≡ None → cond b None x ≡ None
none_left true x h = refl
none_left false x h = h

-- ---- reads

-- a record of which only the reads may have grown
abbrev pub ReadsOf : AccessRecord → AccessRecord → Type 0
ReadsOf accesses l = (reads : FinSet addr_cmp) × Grows accesses.reads reads × (l ≡ record accesses { reads = reads })

pub read_more : (accesses l : AccessRecord) (a : Addr) → ReadsOf accesses l → ReadsOf accesses (record l { reads = set.insert l.reads a })
read_more accesses l a r = (
  set.insert l.reads a,
  λ q h. inserted_more l.reads a q (ap (λ z. set.contains z.reads q) r.2 ∙ r.1 q h),
  ap {A = AccessRecord} {B = AccessRecord} (λ z. record z { reads = set.insert l.reads a }) r.2,
)

maybe_read : (accesses l : AccessRecord) (a : Addr) (b : Bool) → ReadsOf accesses l
    → ReadsOf accesses (if b then l else record l { reads = set.insert l.reads a })
maybe_read accesses l a true r = r
maybe_read accesses l a false r = read_more accesses l a r

pub no_reads : (accesses : AccessRecord) → ReadsOf accesses accesses
no_reads accesses = (accesses.reads, λ q h. h, refl)

pub head_reads : (accesses : AccessRecord) (a : Addr) → ReadsOf accesses (with_head accesses a)
head_reads accesses (Word o w) = read_more accesses accesses (Head o) (no_reads accesses)
head_reads accesses (Head o) = no_reads accesses
head_reads accesses (Local k) = no_reads accesses

pub load_reads : (accesses : AccessRecord) (a : Addr) (v : Option Val) → ReadsOf accesses (record_load accesses a v)
load_reads accesses a (Some v) = maybe_read accesses (with_head accesses a) a (set.contains (with_head accesses a).touched a) (head_reads accesses a)
load_reads accesses a None = head_reads accesses a

-- what an allocation does, where it passes the limit or does not
abbrev pub limited : Content → Bool → ℕ → Result Obj Trap × Content
limited c b words =
    if b then (Err trap.Alloc, c) else
    (Ok (name_of c.allocations.allocator c.allocations.next), with_object c (name_of c.allocations.allocator c.allocations.next) words)

-- ---- the private memory, change by change

module _ (m : Memory) (e first last : ℕ) (l : AccessRecord) (n : Memory) (h : IsPrivate m e first last l n) where
  gone_more : (more : AccessRecord) (q : Obj) (y : Option (List Val)) → Grows l.reads more.reads → Grows l.touched more.touched → y ≡ None
      → IsGone l q (map.get m.objects q) (map.get n.objects q)
      → IsGone more q (map.get m.objects q) y
  gone_more more q y reads touched none g = record {
    freeable = g.freeable;
    was_there = g.was_there;
    is_gone = none;
    read = reads (Head q) g.read;
    touched = touched (Head q) g.touched;
  }

  private_reads : (reads : FinSet addr_cmp) → Grows l.reads reads → IsPrivate m e first last (record l { reads = reads }) n
  private_reads reads grows = record {
    fresh = h.fresh;
    named = h.named;
    headed = h.headed;
    kept = h.kept;
    gone = λ q t. gone_more (record l { reads = reads }) q (map.get n.objects q) grows (λ a c. c) (h.gone q t).is_gone (h.gone q t);
    locals_length = h.locals_length;
    locals = h.locals;
  }

  -- an accumulator is no part of the memory
  private_sums : (accumulators : List Val) → IsPrivate m e first last (record l { accumulators = accumulators }) n
  private_sums accumulators = record {
    fresh = h.fresh;
    named = h.named;
    headed = h.headed;
    kept = h.kept;
    gone = λ q t. gone_more (record l { accumulators = accumulators }) q (map.get n.objects q) (λ a c. c) (λ a c. c) (h.gone q t).is_gone (h.gone q t);
    locals_length = h.locals_length;
    locals = h.locals;
  }

  kept_word : (o : Obj) (w : ℕ) (v : Val) (touched : FinSet addr_cmp) → Grows l.touched touched
      → (set.contains l.made o ≡ false → set.contains touched (Word o w) ≡ true)
      → (q : Obj) → set.contains l.made q ≡ false → is_among l.freed q ≡ false
      → SameBut touched q (map.get m.objects q) (map.get (put n (Word o w) v).objects q)
  kept_word o w v touched grows written q own freed =
      subst (λ x. SameBut touched q (map.get m.objects q) x) (sym (get_put n o w v q))
      (elim (obj_eq q o) as
      (λ b. obj_eq q o ≡ b
      → SameBut touched q (map.get m.objects q) (if b then option_map (λ l. slice_set l w v) (map.get n.objects q) else map.get n.objects q)) [
        | true ↦ λ t.
            let same = obj_equal q o t in
            word_put l.touched touched q w v (map.get m.objects q) (map.get n.objects q) grows
            (ap (λ p. set.contains touched (Word p w)) same ∙ written (ap (set.contains l.made) (sym same) ∙ own)) (h.kept q own freed)
        | false ↦ λ t. weaker l.touched touched q (map.get m.objects q) (map.get n.objects q) grows (h.kept q own freed)
      ] refl)

  private_word : (o : Obj) (w : ℕ) (v : Val) (reads touched : FinSet addr_cmp) → Grows l.reads reads → Grows l.touched touched
      → (set.contains l.made o ≡ false → set.contains touched (Word o w) ≡ true)
      → IsPrivate m e first last (record l { reads = reads; touched = touched }) (put n (Word o w) v)
  private_word o w v reads touched more grows written = record {
    fresh = h.fresh;
    named = h.named;
    headed = λ q t. grows (Head q) (h.headed q t);
    kept = kept_word o w v touched grows written;
    gone = λ q t.
        gone_more (record l { reads = reads; touched = touched }) q _ more grows
        (get_put n o w v q ∙ none_set (obj_eq q o) (λ l. slice_set l w v) (map.get n.objects q) (h.gone q t).is_gone) (h.gone q t);
    locals_length = h.locals_length;
    locals = λ k t. h.locals k (lacks l.touched touched grows (Local k) t);
  }

  private_local : (k : ℕ) (v : Val) (touched : FinSet addr_cmp) → Grows l.touched touched → set.contains touched (Local k) ≡ true
      → IsPrivate m e first last (record l { touched = touched }) (put n (Local k) v)
  private_local k v touched grows written = record {
    fresh = h.fresh;
    named = h.named;
    headed = λ q t. grows (Head q) (h.headed q t);
    kept = λ q own freed. weaker l.touched touched q (map.get m.objects q) (map.get n.objects q) grows (h.kept q own freed);
    gone = λ q t. gone_more (record l { touched = touched }) q (map.get n.objects q) (λ a c. c) grows (h.gone q t).is_gone (h.gone q t);
    locals_length = length-set n.locals k v ∙ h.locals_length;
    locals = λ i t.
        get_set_other n.locals i k v (λ s. true≢false (sym written ∙ ap (λ i. set.contains touched (Local i)) (sym s) ∙ t))
        ∙ h.locals i (lacks l.touched touched grows (Local i) t);
  }

  -- ---- an object more

  abbrev made_too : Obj → AccessRecord
  made_too o = with_touched (record l { made = set.insert l.made o }) (Head o)

  is_made : (o q : Obj) (b : Bool) → obj_eq q o ≡ b → (b || set.contains l.made q) ≡ true → (q ≡ o) ⊎ (set.contains l.made q ≡ true)
  is_made o q true t k = inl (obj_equal q o t)
  is_made o q false t k = inr k

  no_name : (o q : Obj) → IsNameFrom e first last o → is_some (map.get m.objects q) ≡ true → obj_eq q o ≡ false
  no_name o q name there = obj_differs q o (λ s. true≢false (sym there ∙ ap (λ z. is_some (map.get m.objects z)) s ∙ ap is_some (h.fresh o name)))

  private_made : (o : Obj) (ws : List Val) → IsNameFrom e first last o → IsPrivate m e first last (made_too o) (add n o ws)
  private_made o ws name = record {
    fresh = h.fresh;
    named = λ q t. elim (is_made o q (obj_eq q o) refl (sym (set.contains-insert obj_total l.made o q) ∙ t)) as (λ _. IsNameFrom e first last q) [
      | inl s ↦ subst (IsNameFrom e first last) (sym s) name
      | inr k ↦ h.named q k
    ];
    headed = λ q t. elim (is_made o q (obj_eq q o) refl (sym (set.contains-insert obj_total l.made o q) ∙ t)) as
        (λ _. set.contains (set.insert l.touched (Head o)) (Head q) ≡ true) [
          | inl s ↦ ap (λ z. set.contains (set.insert l.touched (Head o)) (Head z)) s ∙ inserted_here l.touched (Head o)
          | inr k ↦ inserted_more l.touched (Head o) (Head q) (h.headed q k)
        ];
    kept = λ q own freed.
        let both = sym (set.contains-insert obj_total l.made o q) ∙ own in
        subst (λ x. SameBut (set.insert l.touched (Head o)) q (map.get m.objects q) x)
        (sym (get_add n o ws q ∙ ap (λ b. cond b (Some ws) (map.get n.objects q)) (or_left (obj_eq q o) (set.contains l.made q) both)))
        (weaker l.touched (set.insert l.touched (Head o)) q (map.get m.objects q) (map.get n.objects q) (inserted_more l.touched (Head o))
        (h.kept q (or_right (obj_eq q o) (set.contains l.made q) both) freed));
    gone = λ q t.
        gone_more (made_too o) q _ (λ a c. c) (inserted_more l.touched (Head o))
        (get_add n o ws q ∙ ap (λ b. cond b (Some ws) (map.get n.objects q)) (no_name o q name (h.gone q t).was_there) ∙ (h.gone q t).is_gone) (h.gone q t);
    locals_length = h.locals_length;
    locals = λ k t. h.locals k (lacks l.touched (set.insert l.touched (Head o)) (inserted_more l.touched (Head o)) (Local k) t);
  }

  -- ---- an object less

  stays_out : (o q : Obj) → obj_eq q o ≡ false → map.get (remove n o).objects q ≡ map.get n.objects q
  stays_out o q t = get_remove n o q ∙ ap (λ b. cond b None (map.get n.objects q)) t

  -- an own one
  private_own_freed : (o : Obj) → set.contains l.made o ≡ true → IsPrivate m e first last l (remove n o)
  private_own_freed o own = record {
    fresh = h.fresh;
    named = h.named;
    headed = h.headed;
    kept = λ q other freed.
        subst (λ x. SameBut l.touched q (map.get m.objects q) x)
        (sym (stays_out o q (obj_differs q o (λ s. true≢false (sym own ∙ ap (set.contains l.made) (sym s) ∙ other)))))
        (h.kept q other freed);
    gone = λ q t. gone_more l q _ (λ a c. c) (λ a c. c) (get_remove n o q ∙ none_left (obj_eq q o) _ (h.gone q t).is_gone) (h.gone q t);
    locals_length = h.locals_length;
    locals = h.locals;
  }

  not_freed : (o : Obj) → is_some (map.get n.objects o) ≡ true → is_among l.freed o ≡ false
  not_freed o there =
      elim (is_among l.freed o) as (λ b. is_among l.freed o ≡ b → b ≡ false) [
        | true ↦ λ t. absurd (true≢false (sym there ∙ ap is_some (h.gone o t).is_gone))
        | false ↦ λ t. refl
      ] refl

  -- one of the first memory, just now
  just_gone : (o : Obj) → set.contains l.made o ≡ false → is_some (map.get n.objects o) ≡ true → is_freeable o 0 ≡ true
      → IsGone (record_free l o true) o (map.get m.objects o) (map.get (remove n o).objects o)
  just_gone o own there place = record {
    freeable = place;
    was_there = there_before l.touched o (map.get m.objects o) (map.get n.objects o) (h.kept o own (not_freed o there)) there;
    is_gone = get_remove n o o ∙ ap (λ b. cond b None (map.get n.objects o)) (obj_itself o);
    read = inserted_here l.reads (Head o);
    touched = inserted_here l.touched (Head o);
  }

  gone_then : (o : Obj) → set.contains l.made o ≡ false → is_some (map.get n.objects o) ≡ true → is_freeable o 0 ≡ true
      → (q : Obj) (a b : Bool) → is_among l.freed q ≡ a → obj_eq q o ≡ b → (a || (b || false)) ≡ true
      → IsGone (record_free l o true) q (map.get m.objects q) (map.get (remove n o).objects q)
  gone_then o own there place q true b t s h' =
      gone_more (record_free l o true) q _ (inserted_more l.reads (Head o)) (inserted_more l.touched (Head o))
      (get_remove n o q ∙ none_left (obj_eq q o) _ (h.gone q t).is_gone) (h.gone q t)
  gone_then o own there place q false true t s h' =
      subst (λ z. IsGone (record_free l o true) z (map.get m.objects z) (map.get (remove n o).objects z)) (sym (obj_equal q o s)) (just_gone o own there place)
  gone_then o own there place q false false t s h' = absurd (true≢false (sym h'))

  private_freed : (o : Obj) → set.contains l.made o ≡ false → is_some (map.get n.objects o) ≡ true → is_freeable o 0 ≡ true
      → IsPrivate m e first last (record_free l o true) (remove n o)
  private_freed o own there place = record {
    fresh = h.fresh;
    named = h.named;
    headed = λ q t. inserted_more l.touched (Head o) (Head q) (h.headed q t);
    kept = λ q other freed.
        let both = sym (among_append l.freed (o ∷ []) q) ∙ freed in
        subst (λ x. SameBut (set.insert l.touched (Head o)) q (map.get m.objects q) x)
        (sym (stays_out o q (or_left (obj_eq q o) false (or_right (is_among l.freed q) (obj_eq q o || false) both))))
        (weaker l.touched (set.insert l.touched (Head o)) q (map.get m.objects q) (map.get n.objects q) (inserted_more l.touched (Head o))
        (h.kept q other (or_left (is_among l.freed q) (obj_eq q o || false) both)));
    gone = λ q t. gone_then o own there place q (is_among l.freed q) (obj_eq q o) refl refl (sym (among_append l.freed (o ∷ []) q) ∙ t);
    locals_length = h.locals_length;
    locals = λ k t. h.locals k (lacks l.touched (set.insert l.touched (Head o)) (inserted_more l.touched (Head o)) (Local k) t);
  }

-- whatever its offset, the object may be freed by its first word
pub first_place : (o : Obj) (at : ℕ) → is_freeable o at ≡ true → is_freeable o 0 ≡ true
first_place (Global k) at t = t
first_place (Serial k) at t = refl
first_place (Iter f j k) at t = refl

-- ---- what every operation of an iteration keeps

-- there is a record, the memory is private by it, and what is made next has a name of the chunk
pub record Stays (m : Memory) (e first last : ℕ) (c : Content) : Type 0 where
  pub accesses : AccessRecord
  pub is : c.accesses ≡ Some accesses
  pub private : IsPrivate m e first last accesses c.memory
  pub names : (k : ℕ) → IsNameFrom e first last (name_of c.allocations.allocator k)

module _ (m : Memory) (e first last : ℕ) where
  abbrev Holds : Content → Type 0
  Holds = Stays m e first last

  -- another record and another memory
  changed : (c : Content) (h : Holds c) (l : AccessRecord) (n : Memory) → IsPrivate m e first last l n → Holds (with_accesses (with_memory c n) l)
  changed c h l n p = record { accesses = l; is = refl; private = p; names = h.names }

  by_reads : (c : Content) (h : Holds c) (l : AccessRecord) → ReadsOf h.accesses l → Holds (with_accesses c l)
  by_reads c h l r =
      subst (λ l. Holds (with_accesses c l)) (sym r.2) (changed c h _ c.memory (private_reads m e first last h.accesses c.memory h.private r.0 r.1))

  own_or_read : (c : Content) (h : Holds c) (b : Bool) (l : AccessRecord) → ReadsOf h.accesses l → Holds (if b then c else with_accesses c l)
  own_or_read c h true l r = h
  own_or_read c h false l r = by_reads c h l r

  load_index : (c : Content) (h : Holds c) (a : Addr) (k : Kind) (i : Option ℕ) → Holds (load_recorded c h.accesses a k i).1
  load_index c h a k (Some i) = h
  load_index c h a k None =
      own_or_read c h (is_own h.accesses a) (record_load h.accesses a (value_at c.memory a)) (load_reads h.accesses a (value_at c.memory a))

  load_stays : (a : Addr) (k : Kind) → KeepsOp Holds (load a k)
  unfolding load
  load_stays a k = record {
    by = λ c h.
        subst (λ l. Holds (load_by l c a k).1) (sym h.is) (load_index c h a k (red_index h.accesses.reds a));
  }

  -- ---- stores

  stored_word : (c : Content) (h : Holds c) (o : Obj) (w : ℕ) (v : Val) (b : Bool) (old : Option Val) → set.contains h.accesses.made o ≡ b
      → Holds (store_in (if b then c else with_accesses c (record_store h.accesses (Word o w) old)) (Word o w) v old).1
  stored_word c h o w v true (Some x) own = record {
    accesses = h.accesses;
    is = h.is;
    private =
        private_word m e first last h.accesses c.memory h.private o w v h.accesses.reads h.accesses.touched (λ a t. t) (λ a t. t)
        (λ n. absurd (true≢false (sym own ∙ n)));
    names = h.names;
  }
  stored_word c h o w v false (Some x) own =
      changed c h _ _
      (private_word m e first last h.accesses c.memory h.private o w v (set.insert h.accesses.reads (Head o)) (set.insert h.accesses.touched (Word o w))
      (inserted_more h.accesses.reads (Head o)) (inserted_more h.accesses.touched (Word o w)) (λ n. inserted_here h.accesses.touched (Word o w)))
  stored_word c h o w v true None own = h
  stored_word c h o w v false None own = by_reads c h (with_head h.accesses (Word o w)) (head_reads h.accesses (Word o w))

  stored_local : (c : Content) (h : Holds c) (k : ℕ) (v : Val) (old : Option Val)
      → Holds (store_in (with_accesses c (record_store h.accesses (Local k) old)) (Local k) v old).1
  stored_local c h k v (Some x) =
      changed c h _ _
      (private_local m e first last h.accesses c.memory h.private k v (set.insert h.accesses.touched (Local k))
      (inserted_more h.accesses.touched (Local k)) (inserted_here h.accesses.touched (Local k)))
  stored_local c h k v None = by_reads c h h.accesses (no_reads h.accesses)

  stored : (c : Content) (h : Holds c) (a : Addr) (v : Val) → Holds (store_recorded c h.accesses a v None).1
  stored c h (Word o w) v = stored_word c h o w v (set.contains h.accesses.made o) (value_at c.memory (Word o w)) refl
  stored c h (Head o) v = by_reads c h h.accesses (no_reads h.accesses)
  stored c h (Local k) v = stored_local c h k v (value_at c.memory (Local k))

  store_index : (c : Content) (h : Holds c) (a : Addr) (v : Val) (i : Option ℕ) → Holds (store_recorded c h.accesses a v i).1
  store_index c h a v (Some i) = changed c h _ c.memory (private_sums m e first last h.accesses c.memory h.private (slice_set h.accesses.accumulators i v))
  store_index c h a v None = stored c h a v

  store_stays : (a : Addr) (v : Val) → KeepsOp Holds (store a v)
  unfolding store
  store_stays a v = record {
    by = λ c h.
        subst (λ l. Holds (store_by l c a v).1) (sym h.is) (store_index c h a v (red_index h.accesses.reds a));
  }

  -- ---- allocations

  by_limit : (c : Content) (h : Holds c) (b : Bool) (words : ℕ) → Holds (limited c b words).1
  by_limit c h true words = h
  by_limit c h false words =
      let o = name_of c.allocations.allocator c.allocations.next in
      record {
        accesses = with_touched (record h.accesses { made = set.insert h.accesses.made o }) (Head o);
        is = ap (λ l. record_make l o) h.is;
        private = private_made m e first last h.accesses c.memory h.private o (replicate words (Int (pos 0))) (h.names c.allocations.next);
        names = h.names;
      }

  make_stays : (words : ℕ) → KeepsOp Holds (make words)
  unfolding make
  make_stays words = record { by = λ c h. by_limit c h (nat_lt (word_limit c.allocations.allocator) (c.allocations.words + words + 1)) words }

  -- ---- what is freed

  freed_there : (c : Content) (h : Holds c) (o : Obj) (own there : Bool) → set.contains h.accesses.made o ≡ own → has_object c.memory o ≡ there
      → is_freeable o 0 ≡ true
      → Holds (free_there (record c { accesses = Some (if own then h.accesses else record_free h.accesses o there) }) o there).1
  freed_there c h o true true own there place =
      changed c h h.accesses (remove c.memory o) (private_own_freed m e first last h.accesses c.memory h.private o own)
  freed_there c h o true false own there place = changed c h h.accesses c.memory h.private
  freed_there c h o false true own there place =
      changed c h _ (remove c.memory o) (private_freed m e first last h.accesses c.memory h.private o own there place)
  freed_there c h o false false own there place =
      by_reads c h (record_free h.accesses o false) (read_more h.accesses h.accesses (Head o) (no_reads h.accesses))

  by_place : (c : Content) (h : Holds c) (o : Obj) (at : ℕ) (b : Bool) → is_freeable o at ≡ b → Holds (free_if c o b).1
  by_place c h o at false t = h
  by_place c h o at true t =
      subst (λ l. Holds (free_there (record c { accesses = free_recorded l o (has_object c.memory o) }) o (has_object c.memory o)).1) (sym h.is)
      (freed_there c h o (set.contains h.accesses.made o) (has_object c.memory o) refl refl (first_place o at t))

  free_stays : (o : Obj) (at : ℕ) → KeepsOp Holds (free o at)
  unfolding free
  free_stays o at = record { by = λ c h. by_place c h o at (is_freeable o at) refl }

  print_stays : (bytes : List ℕ) → KeepsOp Holds {A = Result (Unit {0}) Trap} (λ c. (Ok tt, print bytes c))
  unfolding print
  print_stays bytes = record { by = λ c h. record { accesses = h.accesses; is = h.is; private = h.private; names = h.names } }

  pub stays : KeepsWorld Holds in_iteration
  stays = record {
    load = load_stays;
    store = store_stays;
    make = make_stays;
    free = free_stays;
    print = print_stays;
    visit = λ loop lo hi locals. record { by = λ c h. h };
  }
