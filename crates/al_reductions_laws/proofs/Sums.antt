-- A run with accumulators, and the run in which the reduction variables lie in the memory: what they have in common is
-- kept by every operation that is on no reduction variable.
use Rattle.std.proofs.Common.{◌≡◌, ℕ, zero, suc, ◌+◌, List, [], ◌∷◌, ◌++◌, length, Option, Some, None, Result, Ok, Err, Bool, true, false, refl, sym, ap, subst, ◌∙◌, w64, FitsSigned}
use Rattle.std.specs.Prelude.{ℤ, pos, if◌then◌else◌, nat_lt, is_some, slice_get, replicate}
use Rattle.std.specs.FinSet as set
use Rattle.std.specs.Ordering.{int_eq}
use Rattle.al_core.specs.declared.choices.Red.{Red}
use Rattle.al_core.specs.declared.values.Val.{Val}
use Rattle.al_core.specs.declared.values.Val.TheVariants.{Int, Ptr}
use Rattle.al_core.specs.declared.values.Addr.{Addr}
use Rattle.al_core.specs.declared.values.Addr.TheVariants.{Word, Head, Local}
use Rattle.al_core.specs.declared.values.Kind.{Kind}
use Rattle.al_core.specs.declared.values.Kind.TheVariants as kind
use Rattle.al_core.specs.declared.values.Trap.{Trap}
use Rattle.al_core.specs.declared.values.Trap.TheVariants as trap
use Rattle.al_core.specs.declared.values.Obj.{Obj}
use Rattle.al_core.specs.declared.values.Obj.TheVariants.{Global}
use Rattle.al_core.specs.Orders.{obj_eq, addr_eq}
use Rattle.al_core.specs.Reductions.{red_apply}
use Rattle.al_core.specs.Values.{of_kind}
use Rattle.al_core.specs.Memory.{Memory, has_object, length_at, value_at, put, remove}
use Rattle.al_core.specs.Access.{AccessRecord, Content, Allocations, with_memory, with_accesses, with_touched, with_object, one_more, record_load, record_store, record_make, record_free, free_recorded, loaded, read_as, missing_or_outside, is_own, is_freeable, red_index, load_recorded, store_recorded, load_by, store_by, store_in, free_there, free_if, load, store, make, free, print, name_of, word_limit, in_iteration}
use Rattle.al_core.specs.Action.{Private, is_private, with_locals, hands_on, visit}
use Rattle.al_laws.proofs.Orders.{obj_equal, addr_equal}
use Rattle.al_laws.proofs.Words.{same_some, some_none}
use Rattle.al_laws.proofs.Stays.{load_reads, limited}
use Rattle.al_laws.proofs.Laid.{none_of}
use Rattle.al_laws.proofs.Applying.{put_value, put_length, put_locals}
use Rattle.al_graded_laws.specs.Rules.{Rules}
use Rattle.al_graded_laws.proofs.Graded.{Fineness, Fine, FineAll, OkIs, Any}
use Rattle.al_graded_laws.proofs.Steady.{Works, Worlds, Steady, steady_bind, steady_get_frame, steady_set_frame, fine_replicate}
use Rattle.al_graded_laws.proofs.Memories.{put_itself, same_there, is_in, index_of, add_value, add_length, remove_value, remove_length}
use Rattle.al_reductions_laws.proofs.Variables.{is_red}

-- ---- parts of a record

record SameParts (l k : AccessRecord) : Type 0 where
  pub reds : k.reds ≡ l.reds
  pub accumulators : k.accumulators ≡ l.accumulators

load_parts : (l : AccessRecord) (a : Addr) (v : Option Val) → SameParts l (record_load l a v)
load_parts l a v = let r = load_reads l a v in record { reds = ap (λ z. z.reds) r.2; accumulators = ap (λ z. z.accumulators) r.2 }

store_parts : (l : AccessRecord) (a : Addr) (v : Option Val) → SameParts l (record_store l a v)
store_parts l (Word o w) (Some v) = record { reds = refl; accumulators = refl }
store_parts l (Word o w) None = record { reds = refl; accumulators = refl }
store_parts l (Head o) (Some v) = record { reds = refl; accumulators = refl }
store_parts l (Head o) None = record { reds = refl; accumulators = refl }
store_parts l (Local k) (Some v) = record { reds = refl; accumulators = refl }
store_parts l (Local k) None = record { reds = refl; accumulators = refl }

free_parts : (l : AccessRecord) (o : Obj) (own there : Bool) → SameParts l (if own then l else record_free l o there)
free_parts l o true there = record { reds = refl; accumulators = refl }
free_parts l o false true = record { reds = refl; accumulators = refl }
free_parts l o false false = record { reds = refl; accumulators = refl }

abbrev pub sums_in : Option AccessRecord → List Val
sums_in (Some l) = l.accumulators
sums_in None = []

-- the accumulators stay
abbrev pub SameSums : Content → Content → Type 0
SameSums c e = sums_in c.accesses ≡ sums_in e.accesses

abbrev made_too : AccessRecord → Obj → AccessRecord
made_too l o = with_touched (record l { made = set.insert l.made o }) (Head o)

-- a number has 64 bits, and no pointer leads into an object of which a reduction variable is a word
abbrev pub apart : List Red → Fineness
apart reds = record {
  num = λ n. FitsSigned w64 n;
  obj = λ o. (w : ℕ) → is_red reds (Word o w) ≡ false;
  at = λ o. (w : ℕ) → is_red reds (Word o w) ≡ false;
  reach = λ o h. h;
}

module _ (reds : List Red) (olds : ℕ → ℤ) where
  abbrev F : Fineness
  F = apart reds

  -- a reduction variable: what it was at the start, what was gathered, and both joined
  pub record Sum (m : Memory) (sums : List Val) (n : Memory) (a : Addr) (i : ℕ) : Type 0 where
    pub red : Red
    pub stands : slice_get reds i ≡ Some red
    pub at : red.at ≡ a
    pub sum : ℤ
    pub was : value_at m a ≡ Some (Int (olds i))
    pub gathered : slice_get sums i ≡ Some (Int sum)
    pub now : value_at n a ≡ Some (Int (red_apply red.op (olds i) sum))
    pub old_fits : FitsSigned w64 (olds i)
    pub sum_fits : FitsSigned w64 sum

  -- the first has a record with accumulators, and the second none
  pub record Sums (c d : Content) : Type 0 where
    pub accesses : AccessRecord
    pub is : c.accesses ≡ Some accesses
    pub reds_are : accesses.reds ≡ reds
    pub none : d.accesses ≡ None
    pub allocations : c.allocations ≡ d.allocations
    pub named : (k : ℕ) → F.obj (name_of c.allocations.allocator k)
    pub printed : c.printed ≡ d.printed
    pub elsewhere : (a : Addr) → is_red reds a ≡ false → value_at c.memory a ≡ value_at d.memory a
    pub lengths : (o : Obj) → length_at c.memory o ≡ length_at d.memory o
    pub count : length c.memory.locals ≡ length d.memory.locals
    pub sums : (a : Addr) (i : ℕ) → red_index reds a ≡ Some i → Sum c.memory accesses.accumulators d.memory a i
    pub fine : (a : Addr) (v : Val) → is_red reds a ≡ false → value_at c.memory a ≡ Some v → Fine F v

  -- what an operation came to in both
  record Did {A : Type 0} (P : A → Type 0) (c : Content) (r q : Result A Trap × Content) : Type 0 where
    pub answer : r.0 ≡ q.0
    pub good : OkIs P r.0
    pub sums : Sums r.1 q.1
    pub keeps : SameSums c r.1

  abbrev Op : {A : Type 0} → (A → Type 0) → (Content → Result A Trap × Content) → Type 0
  Op P f = (s t : Content) → Sums s t → Did P s (f s) (f t)

  not_red : (a : Addr) → is_red reds a ≡ false → red_index reds a ≡ None
  not_red a f = none_of (red_index reds a) f

  red_differs : (a q : Addr) (i : ℕ) → is_red reds a ≡ false → red_index reds q ≡ Some i → addr_eq q a ≡ false
  red_differs a q i f e =
      elim (addr_eq q a) as (λ b. addr_eq q a ≡ b → b ≡ false) [
        | true ↦ λ t. absurd (some_none i (sym e ∙ ap (red_index reds) (addr_equal q a t) ∙ not_red a f))
        | false ↦ λ t. refl
      ] refl

  -- another record
  with_parts : (c d : Content) (h : Sums c d) (l : AccessRecord) → SameParts h.accesses l → Sums (with_accesses c l) d
  with_parts c d h l p = record {
    accesses = l;
    is = refl;
    reds_are = p.reds ∙ h.reds_are;
    none = h.none;
    allocations = h.allocations;
    named = h.named;
    printed = h.printed;
    elsewhere = h.elsewhere;
    lengths = h.lengths;
    count = h.count;
    sums = λ a i e. subst (λ z. Sum c.memory z d.memory a i) (sym p.accumulators) (h.sums a i e);
    fine = h.fine;
  }

  own_or_parts : (c d : Content) (h : Sums c d) (b : Bool) (l : AccessRecord) → SameParts h.accesses l → Sums (if b then c else with_accesses c l) d
  own_or_parts c d h true l p = h
  own_or_parts c d h false l p = with_parts c d h l p

  own_or_sums : (c d : Content) (h : Sums c d) (b : Bool) (l : AccessRecord) → SameParts h.accesses l
      → SameSums c (if b then c else with_accesses c l)
  own_or_sums c d h true l p = refl
  own_or_sums c d h false l p = ap sums_in h.is ∙ sym p.accumulators

  -- ---- loads

  fine_as : (k : Kind) (v : Val) → Fine F v → OkIs (Fine F) (of_kind k v)
  fine_as kind.Int (Int n) f = f
  fine_as kind.Int (Ptr p i) f = tt
  fine_as kind.Ptr (Int n) f = elim (int_eq n (pos 0)) as (λ b. OkIs (Fine F) (if b then Ok (Int n) else Err trap.Kind)) [ true ↦ f | false ↦ tt ]
  fine_as kind.Ptr (Ptr p i) f = f

  fine_read : (a : Addr) (k : Kind) (v : Val) → Fine F v → OkIs (Fine F) (read_as a k v)
  fine_read (Word o w) k v f = fine_as k v f
  fine_read (Head o) k v f = f
  fine_read (Local i) k v f = f

  fine_loaded : (m : Memory) (a : Addr) (k : Kind) (x : Option Val) → ((v : Val) → x ≡ Some v → Fine F v) → OkIs (Fine F) (loaded m a k x)
  fine_loaded m a k (Some v) f = fine_read a k v (f v refl)
  fine_loaded m a k None f = tt

  same_missing : (c d : Content) → Sums c d → (a : Addr) → missing_or_outside c.memory a ≡ missing_or_outside d.memory a
  same_missing c d h (Word o w) = ap (λ b. if b then trap.Bounds else trap.Missing) (same_there c.memory d.memory o (h.lengths o))
  same_missing c d h (Head o) = refl
  same_missing c d h (Local k) = refl

  same_loaded : (m n : Memory) (a : Addr) (k : Kind) (x : Option Val) → missing_or_outside m a ≡ missing_or_outside n a → loaded m a k x ≡ loaded n a k x
  same_loaded m n a k (Some v) e = refl
  same_loaded m n a k None e = ap (λ z. Err z) e

  load_works : (a : Addr) (k : Kind) → is_red reds a ≡ false → Op (Fine F) (load a k)
  unfolding load
  load_works a k f c d h =
      let l = record_load h.accesses a (value_at c.memory a) in
      let p = load_parts h.accesses a (value_at c.memory a) in
      let index = ap (λ z. red_index z a) h.reds_are ∙ not_red a f in
      subst (λ z. Did (Fine F) c (load_by z c a k) (load_by d.accesses d a k)) (sym h.is)
      (subst (λ y. Did (Fine F) c (load_recorded c h.accesses a k (red_index h.accesses.reds a)) (load_by y d a k)) (sym h.none)
      (subst (λ i. Did (Fine F) c (load_recorded c h.accesses a k i) (load_by None d a k)) (sym index) (record {
        answer =
            ap (loaded c.memory a k) (h.elsewhere a f)
            ∙ same_loaded c.memory d.memory a k (value_at d.memory a) (same_missing c d h a);
        good = fine_loaded c.memory a k (value_at c.memory a) (λ v e. h.fine a v f e);
        sums = own_or_parts c d h (is_own h.accesses a) l p;
        keeps = own_or_sums c d h (is_own h.accesses a) l p;
      })))

  -- ---- stores

  -- the value is put in both memories
  put_both : (c d : Content) (h : Sums c d) (a : Addr) (v : Val) (l : AccessRecord) (o : Option AccessRecord) → o ≡ Some l → SameParts h.accesses l
      → is_red reds a ≡ false → Fine F v → is_some (value_at c.memory a) ≡ true
      → Sums (record c { memory = put c.memory a v; accesses = o }) (with_memory d (put d.memory a v))
  put_both c d h a v l o is p f g there =
      let here_c = put_itself c.memory a v there in
      let here_d = put_itself d.memory a v (ap is_some (sym (h.elsewhere a f)) ∙ there) in
      record {
        accesses = l;
        is = is;
        reds_are = p.reds ∙ h.reds_are;
        none = h.none;
        allocations = h.allocations;
        named = h.named;
        printed = h.printed;
        elsewhere = λ q e.
            elim (addr_eq q a) as (λ b. addr_eq q a ≡ b → value_at (put c.memory a v) q ≡ value_at (put d.memory a v) q) [
              | true ↦ λ t. subst (λ z. value_at (put c.memory a v) z ≡ value_at (put d.memory a v) z) (sym (addr_equal q a t)) (here_c ∙ sym here_d)
              | false ↦ λ t. put_value c.memory a v q t ∙ h.elsewhere q e ∙ sym (put_value d.memory a v q t)
            ] refl;
        lengths = λ q. put_length c.memory a v q ∙ h.lengths q ∙ sym (put_length d.memory a v q);
        count = put_locals c.memory a v ∙ h.count ∙ sym (put_locals d.memory a v);
        sums = λ q i e.
            let s = h.sums q i e in
            let t = red_differs a q i f e in
            record {
              red = s.red;
              stands = s.stands;
              at = s.at;
              sum = s.sum;
              was = put_value c.memory a v q t ∙ s.was;
              gathered = ap (λ z. slice_get z i) p.accumulators ∙ s.gathered;
              now = put_value d.memory a v q t ∙ s.now;
              old_fits = s.old_fits;
              sum_fits = s.sum_fits;
            };
        fine = λ q u e w.
            elim (addr_eq q a) as (λ b. addr_eq q a ≡ b → Fine F u) [
              | true ↦ λ t. subst (Fine F) (same_some v u (sym here_c ∙ ap (value_at (put c.memory a v)) (sym (addr_equal q a t)) ∙ w)) g
              | false ↦ λ t. h.fine q u e (sym (put_value c.memory a v q t) ∙ w)
            ] refl;
      }

  abbrev Stored : Content → Content → (h : AccessRecord) → Addr → Val → Bool → Option Val → Option Val → Type 0
  Stored c d l a v b x y =
      Did {A = Unit {0}} Any c (store_in (if b then c else with_accesses c (record_store l a x)) a v x) (store_in d a v y)

  store_at : (c d : Content) (h : Sums c d) (a : Addr) (v : Val) (b : Bool) (x y : Option Val) → is_red reds a ≡ false → Fine F v
      → value_at c.memory a ≡ x → x ≡ y → Stored c d h.accesses a v b x y
  store_at c d h a v true (Some u) (Some z) f g e s = record {
    answer = refl;
    good = tt;
    sums = put_both c d h a v h.accesses c.accesses h.is (record { reds = refl; accumulators = refl }) f g (ap is_some e);
    keeps = refl;
  }
  store_at c d h a v false (Some u) (Some z) f g e s =
      let l = record_store h.accesses a (Some u) in
      let p = store_parts h.accesses a (Some u) in
      record {
        answer = refl;
        good = tt;
        sums = put_both c d h a v l (Some l) refl p f g (ap is_some e);
        keeps = ap sums_in h.is ∙ sym p.accumulators;
      }
  store_at c d h a v true None None f g e s = record { answer = ap (λ z. Err z) (same_missing c d h a); good = tt; sums = h; keeps = refl }
  store_at c d h a v false None None f g e s =
      let l = record_store h.accesses a None in
      let p = store_parts h.accesses a None in
      record {
        answer = ap (λ z. Err z) (same_missing c d h a);
        good = tt;
        sums = with_parts c d h l p;
        keeps = ap sums_in h.is ∙ sym p.accumulators;
      }
  store_at c d h a v b (Some u) None f g e s = absurd (some_none u s)
  store_at c d h a v b None (Some z) f g e s = absurd (some_none z (sym s))

  store_works : (a : Addr) (v : Val) → is_red reds a ≡ false → Fine F v → Op {A = Unit {0}} Any (store a v)
  unfolding store
  store_works a v f g c d h =
      let index = ap (λ z. red_index z a) h.reds_are ∙ not_red a f in
      subst (λ z. Did {A = Unit {0}} Any c (store_by z c a v) (store_by d.accesses d a v)) (sym h.is)
      (subst (λ y. Did {A = Unit {0}} Any c (store_recorded c h.accesses a v (red_index h.accesses.reds a)) (store_by y d a v)) (sym h.none)
      (subst (λ i. Did {A = Unit {0}} Any c (store_recorded c h.accesses a v i) (store_by None d a v)) (sym index)
      (store_at c d h a v (is_own h.accesses a) (value_at c.memory a) (value_at d.memory a) f g refl (h.elsewhere a f))))

  -- ---- objects that are made

  fine_in : (l : List Val) (i : ℕ) (v : Val) → FineAll F l → slice_get l i ≡ Some v → Fine F v
  fine_in [] i v f e = absurd (some_none v (sym e))
  fine_in (a ∷ l) zero v f e = subst (Fine F) (same_some a v e) f.0
  fine_in (a ∷ l) (suc i) v f e = fine_in l i v f.1 e

  not_in : (o : Obj) → F.obj o → (q : Addr) (i : ℕ) → red_index reds q ≡ Some i → is_in q o ≡ false
  not_in o f (Word p j) i e =
      elim (obj_eq p o) as (λ b. obj_eq p o ≡ b → b ≡ false) [
        | true ↦ λ t. absurd (some_none i (sym e ∙ ap (λ z. red_index reds (Word z j)) (obj_equal p o t) ∙ not_red (Word o j) (f j)))
        | false ↦ λ t. refl
      ] refl
  not_in o f (Head p) i e = refl
  not_in o f (Local k) i e = refl

  object_both : FitsSigned w64 (pos 0) → (c d : Content) (h : Sums c d) (o : Obj) (words : ℕ) → F.obj o → Sums (with_object c o words) (with_object d o words)
  object_both zero_fits c d h o words f =
      let ws = replicate words (Int (pos 0)) in
      record {
        accesses = made_too h.accesses o;
        is = ap (λ l. record_make l o) h.is;
        reds_are = h.reds_are;
        none = ap (λ l. record_make l o) h.none;
        allocations = ap (λ z. one_more z words) h.allocations;
        named = h.named;
        printed = h.printed;
        elsewhere = λ q e.
            add_value c.memory o ws q ∙ ap (λ z. if is_in q o then slice_get ws (index_of q) else z) (h.elsewhere q e)
            ∙ sym (add_value d.memory o ws q);
        lengths = λ q.
            add_length c.memory o ws q ∙ ap (λ z. if obj_eq q o then Some (length ws) else z) (h.lengths q) ∙ sym (add_length d.memory o ws q);
        count = h.count;
        sums = λ q i e.
            let s = h.sums q i e in
            let n = not_in o f q i e in
            record {
              red = s.red;
              stands = s.stands;
              at = s.at;
              sum = s.sum;
              was = add_value c.memory o ws q ∙ ap (λ b. if b then slice_get ws (index_of q) else value_at c.memory q) n ∙ s.was;
              gathered = s.gathered;
              now = add_value d.memory o ws q ∙ ap (λ b. if b then slice_get ws (index_of q) else value_at d.memory q) n ∙ s.now;
              old_fits = s.old_fits;
              sum_fits = s.sum_fits;
            };
        fine = λ q v e w.
            elim (is_in q o) as (λ b. (if b then slice_get ws (index_of q) else value_at c.memory q) ≡ Some v → Fine F v) [
              | true ↦ λ t. fine_in ws (index_of q) v (fine_replicate F words zero_fits) t
              | false ↦ λ t. h.fine q v e t
            ] (sym (add_value c.memory o ws q) ∙ w);
      }

  limited_both : FitsSigned w64 (pos 0) → (c d : Content) (h : Sums c d) (words : ℕ) (b : Bool) → Did F.obj c (limited c b words) (limited d b words)
  limited_both z c d h words true = record { answer = refl; good = tt; sums = h; keeps = refl }
  limited_both z c d h words false =
      let o = name_of c.allocations.allocator c.allocations.next in
      let same_name = ap (λ (z : Allocations). name_of z.allocator z.next) h.allocations in
      record {
        answer = ap {A = Obj} {B = Result Obj Trap} (λ z. Ok z) same_name;
        good = h.named c.allocations.next;
        sums = subst (λ p. Sums (with_object c o words) (with_object d p words)) same_name (object_both z c d h o words (h.named c.allocations.next));
        keeps = ap sums_in h.is ∙ sym (ap (λ l. sums_in (record_make l o)) h.is);
      }

  make_works : FitsSigned w64 (pos 0) → (words : ℕ) → Op F.obj (make words)
  unfolding make
  make_works z words c d h =
      let over = λ (a : Allocations). nat_lt (word_limit a.allocator) (a.words + words + 1) in
      subst (λ b. Did F.obj c (limited c (over c.allocations) words) (limited d b words)) (ap over h.allocations)
      (limited_both z c d h words (over c.allocations))

  -- ---- objects that are freed

  -- the object is taken out of both memories
  remove_both : (c d : Content) (h : Sums c d) (o : Obj) (l : AccessRecord) (j : Option AccessRecord) → SameParts h.accesses l → j ≡ None → F.obj o
      → Sums (record c { memory = remove c.memory o; accesses = Some l }) (record d { memory = remove d.memory o; accesses = j })
  remove_both c d h o l j p none f = record {
    accesses = l;
    is = refl;
    reds_are = p.reds ∙ h.reds_are;
    none = none;
    allocations = h.allocations;
    named = h.named;
    printed = h.printed;
    elsewhere = λ q e. remove_value c.memory o q ∙ ap (λ z. if is_in q o then None else z) (h.elsewhere q e) ∙ sym (remove_value d.memory o q);
    lengths = λ q. remove_length c.memory o q ∙ ap (λ z. if obj_eq q o then None else z) (h.lengths q) ∙ sym (remove_length d.memory o q);
    count = h.count;
    sums = λ q i e.
        let s = h.sums q i e in
        let n = not_in o f q i e in
        record {
          red = s.red;
          stands = s.stands;
          at = s.at;
          sum = s.sum;
          was = remove_value c.memory o q ∙ ap (λ b. if b then None else value_at c.memory q) n ∙ s.was;
          gathered = ap (λ z. slice_get z i) p.accumulators ∙ s.gathered;
          now = remove_value d.memory o q ∙ ap (λ b. if b then None else value_at d.memory q) n ∙ s.now;
          old_fits = s.old_fits;
          sum_fits = s.sum_fits;
        };
    fine = λ q v e w.
        elim (is_in q o) as (λ b. (if b then None else value_at c.memory q) ≡ Some v → Fine F v) [
          | true ↦ λ t. absurd (some_none v (sym t))
          | false ↦ λ t. h.fine q v e t
        ] (sym (remove_value c.memory o q) ∙ w);
  }

  abbrev recorded_c : Content → Option AccessRecord → Obj → Bool → Content
  recorded_c c z o there = record c { accesses = free_recorded z o there }

  freed_there : (c d : Content) (h : Sums c d) (o : Obj) (there : Bool) → F.obj o
      → Did {A = Unit {0}} Any c (free_there (recorded_c c (Some h.accesses) o there) o there) (free_there (recorded_c d d.accesses o there) o there)
  freed_there c d h o true f =
      let p = free_parts h.accesses o (set.contains h.accesses.made o) true in
      record {
        answer = refl;
        good = tt;
        sums = remove_both c d h o _ (free_recorded d.accesses o true) p (ap (λ z. free_recorded z o true) h.none) f;
        keeps = ap sums_in h.is ∙ sym p.accumulators;
      }
  freed_there c d h o false f =
      let p = free_parts h.accesses o (set.contains h.accesses.made o) false in
      let k = with_parts c d h _ p in
      record {
        answer = refl;
        good = tt;
        sums = record {
          accesses = k.accesses;
          is = k.is;
          reds_are = k.reds_are;
          none = ap (λ z. free_recorded z o false) h.none;
          allocations = k.allocations;
          named = k.named;
          printed = k.printed;
          elsewhere = k.elsewhere;
          lengths = k.lengths;
          count = k.count;
          sums = k.sums;
          fine = k.fine;
        };
        keeps = ap sums_in h.is ∙ sym p.accumulators;
      }

  freed_if : (c d : Content) (h : Sums c d) (o : Obj) (b : Bool) → F.obj o → Did {A = Unit {0}} Any c (free_if c o b) (free_if d o b)
  freed_if c d h o false f = record { answer = refl; good = tt; sums = h; keeps = refl }
  freed_if c d h o true f =
      let there = has_object c.memory o in
      subst (λ z. Did {A = Unit {0}} Any c (free_there (recorded_c c z o there) o there) (free_if d o true)) (sym h.is)
      (subst (λ b. Did {A = Unit {0}} Any c (free_there (recorded_c c (Some h.accesses) o there) o there) (free_there (recorded_c d d.accesses o b) o b))
      (same_there c.memory d.memory o (h.lengths o)) (freed_there c d h o there f))

  free_works : (o : Obj) (i : ℕ) → F.obj o → Op {A = Unit {0}} Any (free o i)
  unfolding free
  free_works o i f c d h = freed_if c d h o (is_freeable o i) f

  print_works : (bytes : List ℕ) → Op {A = Unit {0}} Any (λ c. (Ok tt, print bytes c))
  unfolding print
  print_works bytes c d h = record {
    answer = refl;
    good = tt;
    sums = record {
      accesses = h.accesses;
      is = h.is;
      reds_are = h.reds_are;
      none = h.none;
      allocations = h.allocations;
      named = h.named;
      printed = ap (λ z. z ++ bytes) h.printed;
      elsewhere = h.elsewhere;
      lengths = h.lengths;
      count = h.count;
      sums = h.sums;
      fine = h.fine;
    };
    keeps = refl;
  }

  -- ---- the worlds, for rules that let nothing mention a reduction variable

  pub record Avoids (own : Private) (r : Rules) : Type 0 where
    pub local : (k : ℕ) → r.local k ≡ true → is_private own k ≡ false → is_red reds (Local k) ≡ false
    pub global : (k : ℕ) → r.global k ≡ true → F.obj (Global k)
    pub taken : (k : ℕ) → r.taken k ≡ true → F.obj (Global k)

  -- with what is kept: the accumulators, or nothing
  module _ (zero_fits : FitsSigned w64 (pos 0)) (K : Content → Content → Type 0) (k_itself : (s : Content) → K s s)
      (k_then : (r s t : Content) → K r s → K s t → K r t) (by_sums : (s t : Content) → SameSums s t → K s t) where
    handed : (own : Private) (l : List Val) → FineAll F l
        → Steady F zero_fits Sums K k_itself k_then own (List Val) (λ l. FineAll F l) (hands_on (λ c. (Ok l, c))) (hands_on (λ c. (Ok l, c)))
    unfolding hands_on
    handed own l f =
        record { by = λ s t b. record { answer = refl; good = (f, b); budget = b.budget; world = b.world; keeps = k_itself s.world } }

    -- in an iteration no loop is handed on
    visited : (own : Private) (loop : ℕ) (lo hi : ℤ)
        → Steady F zero_fits Sums K k_itself k_then own (Unit {0}) Any (visit in_iteration loop lo hi) (visit in_iteration loop lo hi)
    visited own loop lo hi =
        steady_bind F zero_fits Sums K k_itself k_then own (steady_get_frame F zero_fits Sums K k_itself k_then own) (λ f is.
        steady_bind F zero_fits Sums K k_itself k_then own {P = λ l. FineAll F l} (handed own f.locals is.locals)
        (λ l g. steady_set_frame F zero_fits Sums K k_itself k_then own (with_locals f l) (record { own_is = is.own_is; locals = g })))

    works : {A : Type 0} (P : A → Type 0) {f : Content → Result A Trap × Content} → Op P f → Works F zero_fits Sums K k_itself k_then P f f
    works P h = record { by = λ s t r. let k = h s t r in (k.answer, k.good, k.sums, by_sums s _ k.keeps) }

    pub sums_worlds : (own : Private) (r : Rules) → Avoids own r → Worlds F zero_fits Sums K k_itself k_then in_iteration in_iteration own r
    sums_worlds own r a = record {
      load_local = λ k o p. works (Fine F) (load_works (Local k) kind.Int (a.local k o p));
      store_local = λ k x o p f. works Any (store_works (Local k) x (a.local k o p) f);
      global = a.global;
      taken = a.taken;
      load = λ o i k f. works (Fine F) (load_works (Word o i) k (f i));
      store = λ o i x f g. works Any (store_works (Word o i) x (f i) g);
      make = λ words. works F.obj (make_works zero_fits words);
      free = λ o i f. works Any (free_works o i f);
      print = λ bytes. works Any (print_works bytes);
      visit = λ loop lo hi f g. visited own loop lo hi;
    }
