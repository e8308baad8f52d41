-- Outcomes that are laid over a memory keep it that integers are held where they have to be, under every policy.
use Rattle.std.proofs.Common.{◌≡◌, ℕ, zero, suc, ◌≤◌, List, [], ◌∷◌, map, length, take, Option, Some, None, Bool, true, false, refl, sym, ap, subst, ◌∙◌, arith, w64, FitsSigned}
use Rattle.std.specs.Prelude.{ℤ, slice_get, if◌then◌else◌}
use Rattle.std.specs.List.{AllByRecursion}
use Rattle.std.specs.FinMap as fin
use Rattle.std.specs.FinSet as set
use Rattle.std.proofs.lemmas.List.{length-set}
use Rattle.al_source.specs.declared.operators.RedOp.{RedOp}
use Rattle.al_source.specs.declared.operators.RedOp.TheVariants as red
use Rattle.al_core.specs.declared.choices.Choice.{Choice}
use Rattle.al_core.specs.declared.choices.Red.{Red}
use Rattle.al_core.specs.declared.reports.Ending.TheVariants as ending
use Rattle.al_core.specs.declared.reports.Verdict.{Verdict}
use Rattle.al_core.specs.declared.typed_tree.TLocal.{TLocal}
use Rattle.al_core.specs.declared.typed_tree.Typed.{Typed}
use Rattle.al_core.specs.declared.values.Obj.{Obj}
use Rattle.al_core.specs.declared.values.Obj.TheVariants.{Global, Serial, Iter}
use Rattle.al_core.specs.declared.values.Val.{Val}
use Rattle.al_core.specs.declared.values.Val.TheVariants.{Int, Ptr}
use Rattle.al_core.specs.declared.values.Addr.{Addr}
use Rattle.al_core.specs.declared.values.Addr.TheVariants.{Word, Head, Local}
use Rattle.al_core.specs.Orders.{obj_cmp, addr_cmp, addr_eq}
use Rattle.al_core.specs.Reductions.{red_apply, red_identity}
use Rattle.al_core.specs.Memory.{Memory, word_in, value_at, put, remove}
use Rattle.al_core.specs.Access.{AccessRecord, Content}
use Rattle.al_core.specs.Iteration.{Execution, Finished}
use Rattle.al_core.specs.Chunk.{Outcome, sum_of, writes_of, made_objects, outcome_of, outcome, chunk_runs, chunk_from}
use Rattle.al_core.specs.Applied.{with_writes, with_made, without_freed, with_sum, with_sums, applied, all_applied}
use Rattle.al_core.specs.Round.{outcomes, round}
use Rattle.al_core.specs.Verdicts.{is_committed, cons_if, verdicts, committed}
use Rattle.al_core.specs.Lockstep.{Rounds, with_round, still_pending, unless_trapped, rounds_from, all_chunks, no_rounds, lockstep}
use Rattle.al_laws.proofs.Words.{same_some, some_none}
use Rattle.al_laws.proofs.Orders.{addr_equal}
use Rattle.al_laws.proofs.Joining.{stays_in_range}
use Rattle.al_laws.proofs.Applying.{put_value}
use Rattle.al_laws.proofs.Commits.{next_round}
use Rattle.al_laws.proofs.Overlay.{over, set_over, put_here, written_words, written_locals, get_with_made, locals_with_made, get_written, get_made_objects}
use Rattle.al_rules.specs.WellFormed.{is_int_local}
use Rattle.al_graded_laws.proofs.Graded.{Fine}
use Rattle.al_graded_laws.proofs.Memories.{is_in, remove_value}
use Rattle.al_graded_laws.proofs.Values.{zero_fits}
use Rattle.al_kinds_laws.specs.Whole.{is_shut}
use Rattle.al_kinds_laws.specs.Numbers.{IsOpenVal, HoldsNumbers}
use Rattle.al_kinds_laws.proofs.Kinded.{IsNumber, Says, says_number}
use Rattle.al_kinds_laws.proofs.Following.{Each}
use Rattle.al_kinds_laws.proofs.KeptKinds.{kept_by, KeptMemory, NoGlobal, Kept, Log}
use Rattle.al_kinds_laws.proofs.Numbers.{holds_numbers, kept_numbers}

-- ---- memories, address by address

module _ (typed : Typed) (locals : List TLocal) where
  -- an integer has to be here
  abbrev IsIntAt : Addr → Type 0
  IsIntAt (Word (Global k) w) = (is_shut typed k ≡ true) × (w ≡ 0)
  IsIntAt (Word (Serial k) w) = ⊥
  IsIntAt (Word (Iter e j k) w) = ⊥
  IsIntAt (Head o) = ⊥
  IsIntAt (Local k) = is_int_local locals k ≡ true

  record Held (m : Memory) : Type 0 where
    pub values : (a : Addr) (v : Val) → value_at m a ≡ Some v → IsOpenVal typed v
    pub enough : length locals ≤ length m.locals
    pub numbers : (a : Addr) → IsIntAt a → (n : ℤ) × (value_at m a ≡ Some (Int n))

  held : (m : Memory) → HoldsNumbers typed locals m → Held m
  held m h = record { values = h.values; enough = h.enough; numbers = numbers }
    where
      numbers : (a : Addr) → IsIntAt a → (n : ℤ) × (value_at m a ≡ Some (Int n))
      numbers (Word (Global k) w) i = let n = h.globals k i.0 in (n.0, ap (λ w. value_at m (Word (Global k) w)) i.1 ∙ n.1)
      numbers (Word (Serial k) w) i = absurd i
      numbers (Word (Iter e j k) w) i = absurd i
      numbers (Head o) i = absurd i
      numbers (Local k) i = h.integers k i

  holding : (m : Memory) → Held m → HoldsNumbers typed locals m
  holding m h = record {
    values = h.values;
    enough = h.enough;
    integers = λ k i. h.numbers (Local k) i;
    globals = λ k i. h.numbers (Word (Global k) 0) (i, refl);
  }

  -- what an outcome has to give
  record Gives (o : Outcome) : Type 0 where
    pub writes : (a : Addr) (v : Val) → fin.get o.writes a ≡ Some v → IsOpenVal typed v × (IsIntAt a → IsNumber v)
    pub made : (q : Obj) (ws : List Val) → fin.get o.made q ≡ Some ws → (w : ℕ) (v : Val) → slice_get ws w ≡ Some v → IsOpenVal typed v
    pub whole : (q : Obj) (ws : List Val) → fin.get o.made q ≡ Some ws → (w : ℕ) → IsIntAt (Word q w) → (n : ℤ) × (slice_get ws w ≡ Some (Int n))
    pub freed : AllByRecursion NoGlobal o.freed
    pub sums : AllByRecursion (λ n. FitsSigned w64 n) o.accumulators

  number_of : (v : Val) → IsNumber v → (n : ℤ) × (Some v ≡ Some (Int n))
  number_of (Int n) u = (n, refl)
  number_of (Ptr o w) u = absurd u

  is_number : (n : ℤ) (v : Val) → Some (Int n) ≡ Some v → IsNumber v
  is_number n v e = subst IsNumber (same_some (Int n) v e) tt

  -- ---- words that are put

  put_at : (m : Memory) (a : Addr) (v : Val) → value_at (put m a v) a ≡ over (Some v) (value_at m a)
  put_at m (Word o w) v = put_here m o w v
  put_at m (Head o) v = refl
  put_at m (Local k) v = set_over m.locals k v

  put_locals : (m : Memory) (a : Addr) (v : Val) → length (put m a v).locals ≡ length m.locals
  put_locals m (Word o w) v = refl
  put_locals m (Head o) v = refl
  put_locals m (Local k) v = length-set m.locals k v

  over_open : (x y : Option Val) (v : Val) → ((u : Val) → x ≡ Some u → IsOpenVal typed u) → ((u : Val) → y ≡ Some u → IsOpenVal typed u) → over x y ≡ Some v
      → IsOpenVal typed v
  over_open (Some u) (Some z) v f g e = f v e
  over_open (Some u) None v f g e = absurd (some_none v (sym e))
  over_open None y v f g e = g v e

  over_number : (x y : Option Val) → ((u : Val) → x ≡ Some u → IsNumber u) → (n : ℤ) × (y ≡ Some (Int n)) → (n : ℤ) × (over x y ≡ Some (Int n))
  over_number (Some u) y f n = let z = number_of u (f u refl) in (z.0, ap (over (Some u)) n.1 ∙ z.1)
  over_number None y f n = n

  put_held : (m : Memory) (a : Addr) (v : Val) → IsOpenVal typed v → IsNumber v → Held m → Held (put m a v)
  put_held m a v fine number h = record {
    values = λ b u e. by_value b u (addr_eq b a) refl e;
    enough = omega (arith, h.enough, put_locals m a v);
    numbers = λ b i. by_number b i (addr_eq b a) refl;
  }
    where
      by_value : (b : Addr) (u : Val) (c : Bool) → addr_eq b a ≡ c → value_at (put m a v) b ≡ Some u → IsOpenVal typed u
      by_value b u true s e =
          over_open (Some v) (value_at m a) u (λ w i. subst (IsOpenVal typed) (same_some v w i) fine) (h.values a)
          (sym (put_at m a v) ∙ ap (value_at (put m a v)) (sym (addr_equal b a s)) ∙ e)
      by_value b u false s e = h.values b u (sym (put_value m a v b s) ∙ e)

      by_number : (b : Addr) → IsIntAt b → (c : Bool) → addr_eq b a ≡ c → (n : ℤ) × (value_at (put m a v) b ≡ Some (Int n))
      by_number b i true s =
          let same = addr_equal b a s in
          let n = over_number (Some v) (value_at m a) (λ w e. subst IsNumber (same_some v w e) number) (h.numbers a (subst IsIntAt same i)) in
          (n.0, ap (value_at (put m a v)) same ∙ put_at m a v ∙ n.1)
      by_number b i false s = let n = h.numbers b i in (n.0, put_value m a v b s ∙ n.1)

  -- ---- an outcome laid over a memory

  writes_locals : (ws : List (Addr × Val)) (m : Memory) → length (with_writes ws m).locals ≡ length m.locals
  writes_locals [] m = refl
  writes_locals (w ∷ ws) m = writes_locals ws (put m w.0 w.1) ∙ put_locals m w.0 w.1

  over_nothing : (x : Option Val) → over x None ≡ None
  over_nothing (Some v) = refl
  over_nothing None = refl

  module _ (o : Outcome) (k : Gives o) where
    module _ (m : Memory) (h : Held m) where
      laid : Memory
      laid = with_writes (fin.entries o.writes) m

      written : (a : Addr) → value_at laid a ≡ over (fin.get o.writes a) (value_at m a)
      unfolding laid
      written (Word q i) =
          written_words (fin.entries o.writes) m q i (fin.entries_sorted o.writes)
          ∙ sym (ap (λ x. over x (value_at m (Word q i))) (fin.get-entries o.writes (Word q i)))
      written (Head q) = sym (over_nothing (fin.get o.writes (Head q)))
      written (Local j) =
          written_locals (fin.entries o.writes) m j (fin.entries_sorted o.writes)
          ∙ sym (ap (λ x. over x (value_at m (Local j))) (fin.get-entries o.writes (Local j)))

      writes_held : Held laid
      unfolding laid
      writes_held = record {
        values = λ a v e.
            over_open (fin.get o.writes a) (value_at m a) v (λ u i. (k.writes a u i).0) (h.values a) (sym (written a) ∙ e);
        enough = omega (arith, h.enough, writes_locals (fin.entries o.writes) m);
        numbers = λ a i.
            let n = over_number (fin.get o.writes a) (value_at m a) (λ u e. (k.writes a u e).1 i) (h.numbers a i) in
            (n.0, written a ∙ n.1);
      }

    abbrev made_or : Option (List Val) → Option (List Val) → Option (List Val)
    made_or x y = elim x as (λ _. Option (List Val)) [ None ↦ y | Some ws ↦ Some ws ]

    module _ (m : Memory) (h : Held m) where
      added : Memory
      added = with_made (fin.entries o.made) m

      made_word : (q : Obj) (i : ℕ) → value_at added (Word q i) ≡ word_in (made_or (fin.get o.made q) (fin.get m.objects q)) i
      unfolding added
      made_word q i =
          ap (λ x. word_in x i) (get_with_made (fin.entries o.made) m q (fin.entries_sorted o.made))
          ∙ sym (ap (λ x. word_in (made_or x (fin.get m.objects q)) i) (fin.get-entries o.made q))

      made_local : (j : ℕ) → value_at added (Local j) ≡ value_at m (Local j)
      unfolding added
      made_local j = ap (λ l. slice_get l j) (locals_with_made (fin.entries o.made) m)

      word_open : (q : Obj) (i : ℕ) (v : Val) (x : Option (List Val)) → fin.get o.made q ≡ x → word_in (made_or x (fin.get m.objects q)) i ≡ Some v
          → IsOpenVal typed v
      word_open q i v (Some ws) s e = k.made q ws s i v e
      word_open q i v None s e = h.values (Word q i) v e

      word_number : (q : Obj) (i : ℕ) → IsIntAt (Word q i) → (x : Option (List Val)) → fin.get o.made q ≡ x
          → (n : ℤ) × (word_in (made_or x (fin.get m.objects q)) i ≡ Some (Int n))
      word_number q i t (Some ws) s = k.whole q ws s i t
      word_number q i t None s = h.numbers (Word q i) t

      made_held : Held added
      unfolding added
      made_held = record { values = values; enough = enough; numbers = numbers }
        where
          values : (a : Addr) (v : Val) → value_at added a ≡ Some v → IsOpenVal typed v
          values (Word q i) v e = word_open q i v (fin.get o.made q) refl (sym (made_word q i) ∙ e)
          values (Head q) v e = absurd (some_none v (sym e))
          values (Local j) v e = h.values (Local j) v (sym (made_local j) ∙ e)

          enough : length locals ≤ length added.locals
          enough = omega (arith, h.enough, ap length (locals_with_made (fin.entries o.made) m))

          numbers : (a : Addr) → IsIntAt a → (n : ℤ) × (value_at added a ≡ Some (Int n))
          numbers (Word q i) t = let n = word_number q i t (fin.get o.made q) refl in (n.0, made_word q i ∙ n.1)
          numbers (Head q) t = absurd t
          numbers (Local j) t = let n = h.numbers (Local j) t in (n.0, made_local j ∙ n.1)

  unless_in : (b : Bool) (x : Option Val) (v : Val) → (if b then None else x) ≡ Some v → x ≡ Some v
  unless_in true x v e = absurd (some_none v (sym e))
  unless_in false x v e = e

  not_in : (o : Obj) (a : Addr) → NoGlobal o → IsIntAt a → is_in a o ≡ false
  not_in (Global j) a n i = absurd n
  not_in (Serial j) (Word (Global k) w) n i = refl
  not_in (Iter e j' l) (Word (Global k) w) n i = refl
  not_in o (Word (Serial k) w) n i = absurd i
  not_in o (Word (Iter e j k) w) n i = absurd i
  not_in o (Head q) n i = absurd i
  not_in o (Local k) n i = refl

  removed_held : (m : Memory) (o : Obj) → NoGlobal o → Held m → Held (remove m o)
  removed_held m o free h = record {
    values = λ a v e. h.values a v (unless_in (is_in a o) (value_at m a) v (sym (remove_value m o a) ∙ e));
    enough = h.enough;
    numbers = λ a i.
        let n = h.numbers a i in
        (n.0, remove_value m o a ∙ ap (λ b. if b then None else value_at m a) (not_in o a free i) ∙ n.1);
  }

  freed_held : (os : List Obj) (m : Memory) → AllByRecursion NoGlobal os → Held m → Held (without_freed os m)
  freed_held [] m n h = h
  freed_held (o ∷ os) m n h = freed_held os (remove m o) n.1 (removed_held m o n.0 h)

  sum_held : (r : Red) (n : ℤ) (m : Memory) (y : Option Val) → value_at m r.at ≡ y → FitsSigned w64 n → Held m → Held (with_sum r n m y)
  sum_held r n m (Some (Int old)) e f h =
      put_held m r.at (Int (red_apply r.op old n)) (stays_in_range r.op old n (h.values r.at (Int old) e) f) tt h
  sum_held r n m (Some (Ptr o w)) e f h = h
  sum_held r n m None e f h = h

  sums_held : (rs : List Red) (ns : List ℤ) (m : Memory) → AllByRecursion (λ n. FitsSigned w64 n) ns → Held m → Held (with_sums rs ns m)
  sums_held [] ns m f h = h
  sums_held (r ∷ rs) [] m f h = h
  sums_held (r ∷ rs) (n ∷ ns) m f h = sums_held rs ns (with_sum r n m (value_at m r.at)) f.1 (sum_held r n m (value_at m r.at) refl f.0 h)

  applied_held : (reds : List Red) (m : Memory) (o : Outcome) → Held m → Gives o → Held (applied reds m o)
  unfolding applied laid added
  applied_held reds m o h k =
      sums_held reds o.accumulators _ k.sums
      (freed_held o.freed _ k.freed (made_held o k (with_writes (fin.entries o.writes) m) (writes_held o k m h)))

  -- ---- what a chunk gives

  if_some : {A : Type 0} (b : Bool) (x : Option A) (v : A) → (if b then x else None) ≡ Some v → x ≡ Some v
  if_some true x v e = e
  if_some false x v e = absurd (some_none v (sym e))

  abbrev Numbers : List Val → Type 0
  Numbers l = Each (λ k v. Says (kept_by (is_shut typed)) true v) l

  sum_fits : (v : Val) → Fine (kept_by (is_shut typed)) v → FitsSigned w64 (sum_of v)
  sum_fits (Int n) h = h
  sum_fits (Ptr o w) h = zero_fits

  sums_fit : (l : List Val) → Numbers l → AllByRecursion (λ n. FitsSigned w64 n) (map sum_of l)
  sums_fit [] h = tt
  sums_fit (v ∷ l) h = (sum_fits v (h 0 v refl).fine, sums_fit l (λ k w e. h (suc k) w e))

  gathered : (reds : List Red) (r : Finished) (z : Option AccessRecord) → Held r.content.memory → Log zero_fits (is_shut typed) locals reds z
      → Gives (outcome_of r z)
  gathered reds r (Some l) h s = record {
    writes = λ a v e.
        let there = if_some (set.contains l.touched a) (value_at r.content.memory a) v
        (sym (get_written r.content.memory l.touched a) ∙ sym (fin.get-entries (writes_of r.content.memory l.touched) a) ∙ e) in
        (h.values a v there, λ i. let n = h.numbers a i in is_number n.0 v (sym n.1 ∙ there));
    made = λ q ws e w v t. h.values (Word q w) v (ap (λ x. word_in x w) (object_there q ws e) ∙ t);
    whole = λ q ws e w i. let n = h.numbers (Word q w) i in (n.0, sym (ap (λ x. word_in x w) (object_there q ws e)) ∙ n.1);
    freed = s.freed;
    sums = sums_fit l.accumulators s.sums;
  }
    where
      object_there : (q : Obj) (ws : List Val) → fin.get (made_objects r.content.memory l.made) q ≡ Some ws → fin.get r.content.memory.objects q ≡ Some ws
      object_there q ws e =
          if_some (set.contains l.made q) (fin.get r.content.memory.objects q) ws
          (sym (get_made_objects r.content.memory l.made q) ∙ sym (fin.get-entries (made_objects r.content.memory l.made) q) ∙ e)
  gathered reds r None h s = record {
    writes = λ a v e. absurd (some_none v (sym e ∙ fin.get-empty addr_cmp a));
    made = λ q ws e w v t. absurd (some_none ws (sym e ∙ fin.get-empty obj_cmp q));
    whole = λ q ws e w i. absurd (some_none ws (sym e ∙ fin.get-empty obj_cmp q));
    freed = tt;
    sums = tt;
  }

  identity_fits : (op : RedOp) → FitsSigned w64 (red_identity op)
  identity_fits red.Add = grind arith
  identity_fits red.Mul = grind arith
  identity_fits red.Min = grind arith
  identity_fits red.Max = grind arith
  identity_fits red.BitAnd = grind arith
  identity_fits red.BitOr = grind arith
  identity_fits red.BitXor = grind arith

  identities : (reds : List Red) → Numbers (map (λ r. Int (red_identity r.op)) reds)
  identities [] k v e = absurd (some_none v (sym e))
  identities (r ∷ reds) zero v e =
      subst (Says (kept_by (is_shut typed)) true) (same_some _ v e) (says_number (kept_by (is_shut typed)) true (red_identity r.op) (identity_fits r.op))
  identities (r ∷ reds) (suc k) v e = identities reds k v e

  -- ---- rounds, of chunks that keep it

  abbrev Runs : Execution → List Red → Type 0
  Runs x reds =
      (c : ℕ) (d : Content) → Kept zero_fits (is_shut typed) locals reds d → Kept zero_fits (is_shut typed) locals reds (chunk_runs x c d).content

  module _ (x : Execution) where
    outcome_gives : (reds : List Red) → Runs x reds → (m : Memory) (c : ℕ) → Held m → Gives (outcome x reds m c)
    unfolding outcome
    outcome_gives reds runs m c h =
        let r = chunk_runs x c (chunk_from x reds m c) in
        let k = runs c (chunk_from x reds m c) (record {
          log = record { reds_are = refl; sums = identities reds; freed = tt };
          memory = kept_numbers typed locals m (holding m h);
        }) in
        gathered reds r r.content.accesses (held r.content.memory (holds_numbers typed locals r.content.memory k.memory)) k.log

    module _ (choice : Choice) (runs : Runs x choice.reds) where
      committed_held : (m : Memory) → Held m → (cs : List ℕ) (vs : List Verdict) (n : Memory) → Held n
          → Held (all_applied choice.reds (committed (outcomes x choice.reds m cs) vs) n)
      committed_held m k [] vs n s = s
      committed_held m k (c ∷ cs) [] n s = s
      committed_held m k (c ∷ cs) (v ∷ vs) n s =
          let o = outcome x choice.reds m c in
          elim (is_committed v) as (λ b. Held (all_applied choice.reds (cons_if b o (committed (outcomes x choice.reds m cs) vs)) n)) [
            | true ↦ committed_held m k cs vs (applied choice.reds n o) (applied_held choice.reds n o s (outcome_gives choice.reds runs m c k))
            | false ↦ committed_held m k cs vs n s
          ]

      round_held : (cs : List ℕ) (m : Memory) → Held m → Held (round x choice cs m).memory
      unfolding round
      round_held cs m k = committed_held m k cs (verdicts choice (outcomes x choice.reds m cs)) m k

      rounds_held : (n lanes : ℕ) (pending : List ℕ) (s : Rounds) → Held s.memory → Held (rounds_from n x choice lanes pending s).memory
      rounds_held zero lanes pending s k = k
      rounds_held (suc n) lanes [] s k = k
      rounds_held (suc n) lanes (c ∷ cs) s k =
          let r = next_round x choice lanes (c ∷ cs) s in
          let more = rounds_from n x choice lanes (still_pending lanes (c ∷ cs) r) (with_round r s) in
          let now = round_held (take lanes (c ∷ cs)) s.memory k in
          elim r.ending as (λ e. Held (unless_trapped e (with_round r s) more).memory) [
            | ending.Done ↦ rounds_held n lanes (still_pending lanes (c ∷ cs) r) (with_round r s) now
            | ending.Trap t line ↦ now
          ]

      pub lockstep_known : (lanes : ℕ) (m : Memory) → KeptMemory zero_fits (is_shut typed) locals m
          → KeptMemory zero_fits (is_shut typed) locals (lockstep x choice lanes m).memory
      unfolding lockstep
      lockstep_known lanes m k =
          kept_numbers typed locals _
          (holding _ (rounds_held _ lanes (all_chunks x) (no_rounds m) (held m (holds_numbers typed locals m k))))
