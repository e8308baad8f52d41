-- What the operations of a memory keep, with a record or without: its values are fine, integer locals hold numbers, and so
-- do the integer globals that no pointer leads to.
use Rattle.std.proofs.Common.{◌≡◌, ℕ, zero, suc, ◌+◌, List, [], ◌∷◌, ◌++◌, Option, Some, None, Result, Ok, Err, Bool, true, false, refl, sym, ap, subst, ◌∙◌, arith, w64, FitsSigned}
use Rattle.std.specs.Prelude.{ℤ, pos, if◌then◌else◌, nat_lt, is_some, slice_get, replicate}
use Rattle.std.specs.Ordering.{int_eq}
use Rattle.std.specs.FinMap as fin
use Rattle.std.specs.FinSet as set
use Rattle.std.specs.List.{AllByRecursion}
use Rattle.std.proofs.Math.Bool.{true≢false}
use Rattle.std.proofs.lemmas.List.{length-set}
use Rattle.al_core.specs.declared.values.Obj.{Obj}
use Rattle.al_core.specs.declared.values.Obj.TheVariants.{Global, Serial, Iter}
use Rattle.al_core.specs.declared.values.Val.{Val}
use Rattle.al_core.specs.declared.values.Val.TheVariants.{Int, Ptr}
use Rattle.al_core.specs.declared.values.Addr.{Addr}
use Rattle.al_core.specs.declared.values.Addr.TheVariants.{Word, Head, Local}
use Rattle.al_core.specs.declared.values.Kind.{Kind}
use Rattle.al_core.specs.declared.values.Kind.TheVariants as kind
use Rattle.al_core.specs.declared.values.Trap.{Trap}
use Rattle.al_core.specs.declared.values.Trap.TheVariants as trap
use Rattle.al_core.specs.declared.typed_tree.TLocal.{TLocal}
use Rattle.al_core.specs.Orders.{obj_eq, addr_eq}
use Rattle.al_core.specs.Values.{of_kind}
use Rattle.al_core.specs.Memory.{Memory, has_object, word_in, value_at, put, remove}
use Rattle.al_core.specs.Access.{Allocator, Outer, InIteration, AccessRecord, Content, with_accesses, with_read, with_head, is_own, record_load, record_store, record_free, name_of, word_limit, record_make, free_recorded, is_freeable, read_as, loaded, load_in, load_recorded, store_recorded, red_index, load_by, store_by, store_in, free_there, free_if, load, store, make, free, print}
use Rattle.al_core.specs.declared.choices.Red.{Red}
use Rattle.al_core.specs.Action.{or_zero}
use Rattle.al_laws.proofs.Orders.{addr_equal}
use Rattle.al_laws.proofs.Words.{same_some, some_none}
use Rattle.al_laws.proofs.Stays.{get_put, limited}
use Rattle.al_laws.proofs.Applying.{put_value}
use Rattle.al_rules.specs.WellFormed.{is_one, is_int_local}
use Rattle.al_graded_laws.proofs.Graded.{Fineness, Fine, FineAll, OkIs, Any}
use Rattle.al_graded_laws.proofs.Steady.{fine_replicate}
use Rattle.al_graded_laws.proofs.Contents.{FineObjects, put_object, add_fine, remove_fine}
use Rattle.al_graded_laws.proofs.Memories.{put_itself, is_in, add_value, remove_value}
use Rattle.al_kinds_laws.specs.Numbers.{IsOpen}
use Rattle.al_kinds_laws.proofs.Kinded.{IsNumber, Says, says_number}
use Rattle.al_kinds_laws.proofs.Following.{FrameKinds, Each, each_set}

abbrev object_of : Addr → Obj
object_of (Word p w) = p
object_of (Head p) = p
object_of (Local j) = Serial 0

-- an object that is no global
abbrev pub NoGlobal : Obj → Type 0
NoGlobal (Global k) = ⊥
NoGlobal (Serial k) = Unit {0}
NoGlobal (Iter e j k) = Unit {0}

-- a number has 64 bits, and a pointer leads to no shut global
abbrev pub kept_by : (ℕ → Bool) → Fineness
kept_by shut = record { num = λ n. FitsSigned w64 n; obj = IsOpen shut; at = λ o. Unit {0}; reach = λ o h. tt }

module _ (zero_fits : FitsSigned w64 (pos 0)) (shut : ℕ → Bool) (shared : List TLocal) where
  abbrev F : Fineness
  F = kept_by shut

  abbrev Objects : Memory → Type 0
  Objects = FineObjects F zero_fits

  -- a shut global holds a number
  abbrev pub Shuts : Memory → Type 0
  Shuts m = (k : ℕ) → shut k ≡ true → (n : ℤ) × (value_at m (Word (Global k) 0) ≡ Some (Int n))

  pub record KeptMemory (m : Memory) : Type 0 where
    pub objects : Objects m
    pub locals : FrameKinds F zero_fits shared m.locals
    pub shuts : Shuts m

  -- ---- loads

  says_as : (k : Kind) (v : Val) → Fine F v → OkIs (Says F (is_one k kind.Int)) (of_kind k v)
  says_as kind.Int (Int n) f = record { fine = f; number = λ t. tt }
  says_as kind.Int (Ptr o i) f = tt
  says_as kind.Ptr (Int n) f =
      elim (int_eq n (pos 0)) as (λ b. OkIs (Says F false) (if b then Ok (Int n) else Err trap.Kind)) [
        | true ↦ record {
          fine = f;
          number = λ t. tt;
        }
        | false ↦ tt
      ]
  says_as kind.Ptr (Ptr o i) f = record { fine = f; number = λ t. absurd (true≢false (sym t)) }

  fine_at : (l : List Val) (k : ℕ) (v : Val) → FineAll F l → slice_get l k ≡ Some v → Fine F v
  fine_at [] k v f e = absurd (some_none v (sym e))
  fine_at (x ∷ l) zero v f e = subst (Fine F) (same_some x v e) f.0
  fine_at (x ∷ l) (suc k) v f e = fine_at l k v f.1 e

  fine_word : (z : Option (List Val)) (w : ℕ) (v : Val) → ((ws : List Val) → z ≡ Some ws → FineAll F ws) → word_in z w ≡ Some v → Fine F v
  fine_word (Some ws) w v h e = fine_at ws w v (h ws refl) e
  fine_word None w v h e = absurd (some_none v (sym e))

  -- every value is fine
  pub kept_value : (m : Memory) → KeptMemory m → (a : Addr) (v : Val) → value_at m a ≡ Some v → Fine F v
  kept_value m h (Word o w) v e = fine_word (fin.get m.objects o) w v (h.objects o) e
  kept_value m h (Head o) v e = absurd (some_none v (sym e))
  kept_value m h (Local k) v e = (h.locals.1 k v e).fine

  loaded_word : (m : Memory) (o : Obj) (i : ℕ) (k : Kind) (x : Option Val) → ((v : Val) → x ≡ Some v → Fine F v)
      → OkIs (Says F (is_one k kind.Int)) (loaded m (Word o i) k x)
  loaded_word m o i k (Some v) f = says_as k v (f v refl)
  loaded_word m o i k None f = tt

  loaded_local : (m : Memory) (j : ℕ) (x : Option Val) → ((v : Val) → x ≡ Some v → Says F (is_int_local shared j) v)
      → OkIs (Says F (is_int_local shared j)) (loaded m (Local j) kind.Int x)
  loaded_local m j (Some v) f = f v refl
  loaded_local m j None f = tt

  -- ---- stores

  put_word : (m : Memory) (o : Obj) (i : ℕ) (x : Val) → is_some (value_at m (Word o i)) ≡ true → Fine F x
      → ((k : ℕ) → o ≡ Global k → shut k ≡ true → IsNumber x) → KeptMemory m → KeptMemory (put m (Word o i) x)
  put_word m o i x there f s h = record {
    objects = λ q ws e. put_object F zero_fits (obj_eq q o) (fin.get m.objects q) i x ws (h.objects q) f (sym (get_put m o i x q) ∙ e);
    locals = h.locals;
    shuts = λ k t. by_place k t (addr_eq (Word (Global k) 0) (Word o i)) refl;
  }
    where
      number_of : (y : Val) → IsNumber y → (n : ℤ) × (Some y ≡ Some (Int n))
      number_of (Int n) u = (n, refl)
      number_of (Ptr p w) u = absurd u

      by_place : (k : ℕ) → shut k ≡ true → (b : Bool) → addr_eq (Word (Global k) 0) (Word o i) ≡ b
          → (n : ℤ) × (value_at (put m (Word o i) x) (Word (Global k) 0) ≡ Some (Int n))
      by_place k t true e =
          let same = addr_equal (Word (Global k) 0) (Word o i) e in
          let y = number_of x (s k (sym (ap object_of same)) t) in
          (y.0, ap (value_at (put m (Word o i) x)) same ∙ put_itself m (Word o i) x there ∙ y.1)
      by_place k t false e = let n = h.shuts k t in (n.0, put_value m (Word o i) x (Word (Global k) 0) e ∙ n.1)

  put_local : (m : Memory) (j : ℕ) (x : Val) → Says F (is_int_local shared j) x → KeptMemory m → KeptMemory (put m (Local j) x)
  put_local m j x s h = record {
    objects = h.objects;
    locals = (omega (arith, h.locals.0, length-set m.locals j x), each_set (λ k v. Says F (is_int_local shared k) v) m.locals j x s h.locals.1);
    shuts = h.shuts;
  }

  -- ---- objects

  -- what is made is no global
  not_in_made : (a : Allocator) (n k : ℕ) → is_in (Word (Global k) 0) (name_of a n) ≡ false
  not_in_made Outer n k = refl
  not_in_made (InIteration e j) n k = refl

  open_name : (a : Allocator) (n : ℕ) → F.obj (name_of a n)
  open_name Outer n = tt
  open_name (InIteration e j) n = tt

  -- what is freed is no global
  not_in_freed : (o : Obj) (k : ℕ) → NoGlobal o → is_in (Word (Global k) 0) o ≡ false
  not_in_freed (Global j) k e = absurd e
  not_in_freed (Serial j) k e = refl
  not_in_freed (Iter e' j n) k e = refl

  freeable : (o : Obj) (i : ℕ) → is_freeable o i ≡ true → NoGlobal o
  freeable (Global j) i e = true≢false (sym e)
  freeable (Serial j) i e = tt
  freeable (Iter e' j n) i e = tt

  removed : (m : Memory) (o : Obj) → ((k : ℕ) → is_in (Word (Global k) 0) o ≡ false) → KeptMemory m → KeptMemory (remove m o)
  removed m o f h = record {
    objects = remove_fine F zero_fits m o h.objects;
    locals = h.locals;
    shuts = λ k t.
        let n = h.shuts k t in
        (n.0, remove_value m o (Word (Global k) 0) ∙ ap (λ b. if b then None else value_at m (Word (Global k) 0)) (f k) ∙ n.1);
  }

  -- ---- what a chunk records

  module _ (reds : List Red) where
    -- its accumulators hold numbers, and it freed no global
    pub record LogKept (r : AccessRecord) : Type 0 where
      pub reds_are : r.reds ≡ reds
      pub sums : Each (λ k v. Says F true v) r.accumulators
      pub freed : AllByRecursion NoGlobal r.freed

    abbrev pub Log : Option AccessRecord → Type 0
    Log (Some r) = LogKept r
    Log None = Unit {0}

    pub record Kept (c : Content) : Type 0 where
      pub log : Log c.accesses
      pub memory : KeptMemory c.memory

    -- an operation
    abbrev pub Keeps : {A : Type 0} → (A → Type 0) → (Content → Result A Trap × Content) → Type 0
    Keeps P f = (c : Content) → Kept c → OkIs P (f c).0 × Kept (f c).1

    -- a reduction variable is an integer local or a shut global
    pub record AreVariables : Type 0 where
      pub locals : (j i : ℕ) → red_index reds (Local j) ≡ Some i → is_int_local shared j ≡ true
      pub words : (o : Obj) (w i : ℕ) → red_index reds (Word o w) ≡ Some i → (k : ℕ) × (o ≡ Global k) × (shut k ≡ true)

    with_head_kept : (r : AccessRecord) (a : Addr) → LogKept r → LogKept (with_head r a)
    with_head_kept r (Word o w) l = record { reds_are = l.reds_are; sums = l.sums; freed = l.freed }
    with_head_kept r (Head o) l = l
    with_head_kept r (Local k) l = l

    load_if : (r : AccessRecord) (a : Addr) (b : Bool) → LogKept r → LogKept (if b then r else with_read r a)
    load_if r a true l = l
    load_if r a false l = record { reds_are = l.reds_are; sums = l.sums; freed = l.freed }

    record_load_kept : (r : AccessRecord) (a : Addr) (v : Option Val) → LogKept r → LogKept (record_load r a v)
    record_load_kept r a (Some v) l = load_if (with_head r a) a (set.contains (with_head r a).touched a) (with_head_kept r a l)
    record_load_kept r a None l = with_head_kept r a l

    record_store_kept : (r : AccessRecord) (a : Addr) (v : Option Val) → LogKept r → LogKept (record_store r a v)
    record_store_kept r a (Some v) l =
        let h = with_head_kept r a l in record { reds_are = h.reds_are; sums = h.sums; freed = h.freed }
    record_store_kept r a None l = with_head_kept r a l

    record_make_kept : (z : Option AccessRecord) (o : Obj) → Log z → Log (record_make z o)
    record_make_kept (Some r) o l = record { reds_are = l.reds_are; sums = l.sums; freed = l.freed }
    record_make_kept None o l = tt

    append_freed : (os : List Obj) (o : Obj) → AllByRecursion NoGlobal os → NoGlobal o → AllByRecursion NoGlobal (os ++ o ∷ [])
    append_freed [] o h n = (n, tt)
    append_freed (p ∷ os) o h n = (h.0, append_freed os o h.1 n)

    record_free_kept : (r : AccessRecord) (o : Obj) (there : Bool) → NoGlobal o → LogKept r → LogKept (record_free r o there)
    record_free_kept r o true n l = record { reds_are = l.reds_are; sums = l.sums; freed = append_freed r.freed o l.freed n }
    record_free_kept r o false n l = record { reds_are = l.reds_are; sums = l.sums; freed = l.freed }

    free_recorded_kept : (z : Option AccessRecord) (o : Obj) (there : Bool) → NoGlobal o → Log z → Log (free_recorded z o there)
    free_recorded_kept (Some r) o there n l =
        elim (set.contains r.made o) as (λ b. LogKept (if b then r else record_free r o there)) [ true ↦ l | false ↦ record_free_kept r o there n l ]
    free_recorded_kept None o there n l = tt

    -- what an accumulator holds
    gathered : (l : List Val) (i : ℕ) → Each (λ k v. Says F true v) l → Says F true (or_zero (slice_get l i))
    gathered l i h = by_value (slice_get l i) refl
      where
        by_value : (y : Option Val) → slice_get l i ≡ y → Says F true (or_zero y)
        by_value (Some v) e = h i v e
        by_value None e = says_number F true (pos 0) zero_fits

    module _ (variables : AreVariables) where
      -- ---- loads

      loads : (P : Val → Type 0) (a : Addr) (k : Kind) (c : Content) → Kept c → OkIs P (load_in c.memory a k)
          → ((v : Val) → Says F true v → OkIs P (read_as a k v)) → OkIs P (load a k c).0 × Kept (load a k c).1
      unfolding load
      loads P a k c h plain sum = by_log c.accesses h.log
        where
          by_own : (r : AccessRecord) (b : Bool) → LogKept r → Kept (if b then c else with_accesses c (record_load r a (value_at c.memory a)))
          by_own r true l = h
          by_own r false l = record { log = record_load_kept r a (value_at c.memory a) l; memory = h.memory }

          by_index : (r : AccessRecord) (y : Option ℕ) → LogKept r → OkIs P (load_recorded c r a k y).0 × Kept (load_recorded c r a k y).1
          by_index r (Some i) l = (sum (or_zero (slice_get r.accumulators i)) (gathered r.accumulators i l.sums), h)
          by_index r None l = (plain, by_own r (is_own r a) l)

          by_log : (z : Option AccessRecord) → Log z → OkIs P (load_by z c a k).0 × Kept (load_by z c a k).1
          by_log (Some r) l = by_index r (red_index r.reds a) l
          by_log None l = (plain, h)

      pub load_word : (o : Obj) (i : ℕ) (k : Kind) → Keeps (Says F (is_one k kind.Int)) (load (Word o i) k)
      load_word o i k c h =
          loads (Says F (is_one k kind.Int)) (Word o i) k c h
          (loaded_word c.memory o i k (value_at c.memory (Word o i)) (λ v e. kept_value c.memory h.memory (Word o i) v e)) (λ v s. says_as k v s.fine)

      pub load_local : (j : ℕ) → Keeps (Says F (is_int_local shared j)) (load (Local j) kind.Int)
      load_local j c h =
          loads (Says F (is_int_local shared j)) (Local j) kind.Int c h
          (loaded_local c.memory j (value_at c.memory (Local j)) (λ v e. h.memory.locals.1 j v e))
          (λ v s. record { fine = s.fine; number = λ t. s.number refl })

      -- ---- stores

      stored : (c : Content) (a : Addr) (x : Val) (old : Option Val) → Kept c → (is_some old ≡ true → KeptMemory (put c.memory a x))
          → OkIs {A = Unit {0}} Any (store_in c a x old).0 × Kept (store_in c a x old).1
      stored c a x (Some v) h k = (tt, record { log = h.log; memory = k refl })
      stored c a x None h k = (tt, h)

      stores : (a : Addr) (x : Val) (c : Content) → Kept c → (is_some (value_at c.memory a) ≡ true → KeptMemory (put c.memory a x))
          → ((i : ℕ) → red_index reds a ≡ Some i → Says F true x) → OkIs {A = Unit {0}} Any (store a x c).0 × Kept (store a x c).1
      unfolding store
      stores a x c h plain sum = by_log c.accesses h.log
        where
          by_own : (r : AccessRecord) (b : Bool) → LogKept r
              → OkIs {A = Unit {0}} Any (store_in (if b then c else with_accesses c (record_store r a (value_at c.memory a))) a x (value_at c.memory a)).0
              × Kept (store_in (if b then c else with_accesses c (record_store r a (value_at c.memory a))) a x (value_at c.memory a)).1
          by_own r true l = stored c a x (value_at c.memory a) h plain
          by_own r false l =
              stored (with_accesses c (record_store r a (value_at c.memory a))) a x (value_at c.memory a)
              (record { log = record_store_kept r a (value_at c.memory a) l; memory = h.memory }) plain

          by_index : (r : AccessRecord) (y : Option ℕ) → red_index reds a ≡ y → LogKept r
              → OkIs {A = Unit {0}} Any (store_recorded c r a x y).0 × Kept (store_recorded c r a x y).1
          by_index r (Some i) e l = (
            tt,
            record {
              log = record { reds_are = l.reds_are; sums = each_set (λ k v. Says F true v) r.accumulators i x (sum i e) l.sums; freed = l.freed };
              memory = h.memory;
            },
          )
          by_index r None e l = by_own r (is_own r a) l

          by_log : (z : Option AccessRecord) → Log z → OkIs {A = Unit {0}} Any (store_by z c a x).0 × Kept (store_by z c a x).1
          by_log (Some r) l = by_index r (red_index r.reds a) (ap (λ q. red_index q a) (sym l.reds_are)) l
          by_log None l = stored c a x (value_at c.memory a) h plain

      pub store_word : (o : Obj) (i : ℕ) (x : Val) → Fine F x → ((k : ℕ) → o ≡ Global k → shut k ≡ true → IsNumber x)
          → Keeps {A = Unit {0}} Any (store (Word o i) x)
      store_word o i x f s c h =
          stores (Word o i) x c h (λ t. put_word c.memory o i x t f s h.memory)
          (λ n e. let v = variables.words o i n e in record { fine = f; number = λ t. s v.0 v.1 v.2 })

      pub store_local : (j : ℕ) (x : Val) → Says F (is_int_local shared j) x → Keeps {A = Unit {0}} Any (store (Local j) x)
      store_local j x s c h =
          stores (Local j) x c h (λ t. put_local c.memory j x s h.memory)
          (λ n e. record { fine = s.fine; number = λ t. s.number (variables.locals j n e) })

      -- ---- objects

      made : (c : Content) (words : ℕ) (b : Bool) → Kept c → OkIs F.obj (limited c b words).0 × Kept (limited c b words).1
      made c words true h = (tt, h)
      made c words false h =
          let o = name_of c.allocations.allocator c.allocations.next in
          let ws = replicate words (Int (pos 0)) in (
            open_name c.allocations.allocator c.allocations.next,
            record {
              log = record_make_kept c.accesses o h.log;
              memory = record {
                objects = add_fine F zero_fits c.memory o ws (fine_replicate F words zero_fits) h.memory.objects;
                locals = h.memory.locals;
                shuts = λ k t.
                    let n = h.memory.shuts k t in (
                      n.0,
                      add_value c.memory o ws (Word (Global k) 0)
                          ∙ ap (λ b. if b then slice_get ws 0 else value_at c.memory (Word (Global k) 0))
                          (not_in_made c.allocations.allocator c.allocations.next k) ∙ n.1,
                    );
              };
            },
          )

      pub make_kept : (words : ℕ) → Keeps F.obj (make words)
      unfolding make
      make_kept words c h = made c words (nat_lt (word_limit c.allocations.allocator) (c.allocations.words + words + 1)) h

      taken_out : (c : Content) (o : Obj) (there : Bool) → NoGlobal o → Kept c
          → OkIs {A = Unit {0}} Any (free_there c o there).0 × Kept (free_there c o there).1
      taken_out c o true f h = (tt, record { log = h.log; memory = removed c.memory o (λ k. not_in_freed o k f) h.memory })
      taken_out c o false f h = (tt, h)

      freed : (c : Content) (o : Obj) (i : ℕ) (b : Bool) → is_freeable o i ≡ b → Kept c → OkIs {A = Unit {0}} Any (free_if c o b).0 × Kept (free_if c o b).1
      freed c o i true e h =
          let there = has_object c.memory o in
          taken_out (record c { accesses = free_recorded c.accesses o there }) o there (freeable o i e)
          (record { log = free_recorded_kept c.accesses o there (freeable o i e) h.log; memory = h.memory })
      freed c o i false e h = (tt, h)

      pub free_kept : (o : Obj) (i : ℕ) → Keeps {A = Unit {0}} Any (free o i)
      unfolding free
      free_kept o i c h = freed c o i (is_freeable o i) refl h

      pub print_kept : (bytes : List ℕ) → Keeps {A = Unit {0}} Any (λ c. (Ok tt, print bytes c))
      unfolding print
      print_kept bytes c h = (tt, record { log = h.log; memory = h.memory })

  -- without reductions there is no reduction variable
  pub no_variables : AreVariables []
  no_variables = record { locals = λ j i e. absurd (some_none i (sym e)); words = λ o w i e. absurd (some_none i (sym e)) }
