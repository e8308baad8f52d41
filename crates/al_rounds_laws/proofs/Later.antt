-- What was printed before, and the names with which iterations begin, do not matter to what they do: an instance of the abstraction theorem.
use Rattle.std.proofs.Common.{◌≡◌, ℕ, zero, suc, ◌+◌, ◌-◌, List, [], ◌∷◌, ◌++◌, Option, Some, None, Result, Ok, Err, Bool, true, false, refl, sym, ap, subst, append_assoc}
use Rattle.std.specs.Prelude.{if◌then◌else◌, nat_lt}
use Rattle.al_core.specs.declared.reports.Ending.{Ending}
use Rattle.al_core.specs.declared.reports.Ending.TheVariants as ending
use Rattle.al_core.specs.declared.values.Val.{Val}
use Rattle.al_core.specs.declared.values.Addr.{Addr}
use Rattle.al_core.specs.declared.values.Kind.{Kind}
use Rattle.al_core.specs.declared.values.Trap.{Trap}
use Rattle.al_core.specs.declared.values.Trap.TheVariants as trap
use Rattle.al_core.specs.declared.values.Obj.{Obj}
use Rattle.al_core.specs.Memory.{has_object, value_at}
use Rattle.al_core.specs.Access.{AccessRecord, Content, word_limit, name_of, with_object, with_accesses, is_own, red_index, record_load, record_store, load_in, load_recorded, store_recorded, load_by, store_by, store_in, is_freeable, free_recorded, free_there, free_if, load, store, make, free, print, in_iteration}
use Rattle.al_core.specs.Iteration.{Execution, Finished, ending_of, iteration, iteration_from, then_by, then_runs, iterations}
use Rattle.al_core.specs.Chunk.{chunk_runs, chunk_start, chunk_trips}
use Rattle.al_core.specs.Serial.{chunks_run}
use Rattle.al_laws.proofs.Agree.{Agree, Matches, Kept, agree_closed}
use Rattle.al_laws.proofs.Keeps.{of_iteration}

module _ (p : List ℕ) where
  -- the same, with these bytes printed before
  abbrev pub earlier : Content → Content
  earlier d = record { memory = d.memory; allocations = d.allocations; printed = p ++ d.printed; accesses = d.accesses }

  abbrev After : Content → Content → Type 0
  After c d = c ≡ earlier d

  abbrev AnyEnd : Content → Type 0
  AnyEnd c = Unit {0}

  record Same {A : Type 0} (f : Content → A × Content) (d : Content) : Type 0 where
    pub answer : (f (earlier d)).0 ≡ (f d).0
    pub content : (f (earlier d)).1 ≡ earlier (f d).1

  matches : {A : Type 0} (f : Content → A × Content) → ((d : Content) → Same f d) → Matches After AnyEnd f f
  matches f s = record {
    by = λ c d e g. subst (λ z. ((f z).0 ≡ (f d).0) × After (f z).1 (f d).1) (sym e) ((s d).answer, (s d).content);
    back = λ c g. tt;
  }

  load_own : (d : Content) (accesses : AccessRecord) (a : Addr) (k : Kind) (b : Bool) (v : Option Val)
      → Same {A = Result Val Trap} (λ d. (load_in d.memory a k, if b then d else with_accesses d (record_load accesses a v))) d
  load_own d accesses a k true v = record { answer = refl; content = refl }
  load_own d accesses a k false v = record { answer = refl; content = refl }

  load_index : (d : Content) (accesses : AccessRecord) (a : Addr) (k : Kind) (i : Option ℕ) → Same (λ d. load_recorded d accesses a k i) d
  load_index d accesses a k (Some i) = record { answer = refl; content = refl }
  load_index d accesses a k None =
      let s = load_own d accesses a k (is_own accesses a) (value_at d.memory a) in
      record { answer = s.answer; content = s.content }

  load_same : (d : Content) (a : Addr) (k : Kind) (l : Option AccessRecord) → Same (λ d. load_by l d a k) d
  load_same d a k None = record { answer = refl; content = refl }
  load_same d a k (Some accesses) = load_index d accesses a k (red_index accesses.reds a)

  load_matches : (a : Addr) (k : Kind) → Matches After AnyEnd (load a k) (load a k)
  unfolding load
  load_matches a k = matches (load a k) (λ d. let s = load_same d a k d.accesses in record { answer = s.answer; content = s.content })

  store_at : (d : Content) (a : Addr) (x : Val) (v : Option Val) → Same (λ d. store_in d a x v) d
  store_at d a x (Some old) = record { answer = refl; content = refl }
  store_at d a x None = record { answer = refl; content = refl }

  store_own : (d : Content) (accesses : AccessRecord) (a : Addr) (x : Val) (b : Bool) (v : Option Val)
      → Same (λ d. store_in (if b then d else with_accesses d (record_store accesses a v)) a x v) d
  store_own d accesses a x true v = store_at d a x v
  store_own d accesses a x false (Some old) = record { answer = refl; content = refl }
  store_own d accesses a x false None = record { answer = refl; content = refl }

  store_index : (d : Content) (accesses : AccessRecord) (a : Addr) (x : Val) (i : Option ℕ) → Same (λ d. store_recorded d accesses a x i) d
  store_index d accesses a x (Some i) = record { answer = refl; content = refl }
  store_index d accesses a x None =
      let s = store_own d accesses a x (is_own accesses a) (value_at d.memory a) in
      record { answer = s.answer; content = s.content }

  store_same : (d : Content) (a : Addr) (x : Val) (l : Option AccessRecord) → Same (λ d. store_by l d a x) d
  store_same d a x None = let s = store_at d a x (value_at d.memory a) in record { answer = s.answer; content = s.content }
  store_same d a x (Some accesses) = store_index d accesses a x (red_index accesses.reds a)

  store_matches : (a : Addr) (x : Val) → Matches After AnyEnd (store a x) (store a x)
  unfolding store
  store_matches a x = matches (store a x) (λ d. let s = store_same d a x d.accesses in record { answer = s.answer; content = s.content })

  abbrev limited : Bool → ℕ → Content → Result Obj Trap × Content
  limited b words c =
      if b then (Err trap.Alloc, c) else
      (Ok (name_of c.allocations.allocator c.allocations.next), with_object c (name_of c.allocations.allocator c.allocations.next) words)

  make_same : (d : Content) (words : ℕ) (b : Bool) → Same (limited b words) d
  make_same d words true = record { answer = refl; content = refl }
  make_same d words false = record { answer = refl; content = refl }

  make_matches : (words : ℕ) → Matches After AnyEnd (make words) (make words)
  unfolding make
  make_matches words =
      let within = λ (d : Content). nat_lt (word_limit d.allocations.allocator) (d.allocations.words + words + 1) in
      matches (make words) (λ d. let s = make_same d words (within d) in record { answer = s.answer; content = s.content })

  free_there_same : (d : Content) (o : Obj) (there : Bool) → Same (λ d. free_there d o there) d
  free_there_same d o true = record { answer = refl; content = refl }
  free_there_same d o false = record { answer = refl; content = refl }

  free_same : (d : Content) (o : Obj) (b : Bool) → Same (λ d. free_if d o b) d
  free_same d o true =
      let there = has_object d.memory o in
      let s = free_there_same (record d { accesses = free_recorded d.accesses o there }) o there in
      record { answer = s.answer; content = s.content }
  free_same d o false = record { answer = refl; content = refl }

  free_matches : (o : Obj) (at : ℕ) → Matches After AnyEnd (free o at) (free o at)
  unfolding free
  free_matches o at = matches (free o at) (λ d. let s = free_same d o (is_freeable o at) in record { answer = s.answer; content = s.content })

  print_matches : (bytes : List ℕ) → Matches After AnyEnd {A = Result (Unit {0}) Trap} (λ c. (Ok tt, print bytes c)) (λ c. (Ok tt, print bytes c))
  unfolding print
  print_matches bytes =
      matches (λ c. (Ok tt, print bytes c)) (λ d. record { answer = refl; content = ap (λ z. record d { printed = z }) (append_assoc p d.printed bytes) })

  kept : Kept After AnyEnd in_iteration in_iteration
  kept = record {
    load = load_matches;
    store = store_matches;
    make = make_matches;
    free = free_matches;
    print = print_matches;
    visit = λ loop lo hi locals. matches (λ c. (Ok locals, c)) (λ d. record { answer = refl; content = refl });
  }

  -- ---- iterations

  -- whatever the names that come
  pub record Apart (c d : Content) : Type 0 where
    pub memory : c.memory ≡ d.memory
    pub printed : c.printed ≡ p ++ d.printed
    pub accesses : c.accesses ≡ d.accesses

  pub record Later (r q : Finished) : Type 0 where
    pub ending : r.ending ≡ q.ending
    pub steps : r.steps ≡ q.steps
    pub content : Apart r.content q.content

  apart_of : (c d : Content) → After c d → Apart c d
  apart_of c d e = record { memory = ap (λ z. z.memory) e; printed = ap (λ z. z.printed) e; accesses = ap (λ z. z.accesses) e }

  iteration_later : (x : Execution) (j : ℕ) (c d : Content) → Apart c d → Later (iteration x j c) (iteration x j d)
  unfolding iteration
  iteration_later x j c d h =
      let begins : After (iteration_from x j c).world (iteration_from x j d).world = λ i. record {
        memory = h.memory i;
        allocations = (iteration_from x j d).world.allocations;
        printed = h.printed i;
        accesses = h.accesses i;
      } in
      let r = (of_iteration (λ A. Agree After AnyEnd {A = A}) (agree_closed After AnyEnd in_iteration in_iteration kept) x j).by
      (iteration_from x j c) (iteration_from x j d) (record { frame = refl; budget = refl; world = begins }) tt in
      record { ending = ap ending_of r.answer; steps = ap (λ b. x.iter_steps - b) r.state.budget; content = apart_of _ _ r.state.world }

  then_by_later : (r q : Finished) (f : Content → Finished) → Later r q → ((c d : Content) → Apart c d → Later (f c) (f d)) → (e : Ending)
      → Later (then_by e r f) (then_by e q f)
  then_by_later r q f s h ending.Done =
      let next = h r.content q.content s.content in
      record { ending = next.ending; steps = λ t. s.steps t + next.steps t; content = next.content }
  then_by_later r q f s h (ending.Trap t line) = s

  pub then_later : (r q : Finished) (f : Content → Finished) → Later r q → ((c d : Content) → Apart c d → Later (f c) (f d))
      → Later (then_runs r f) (then_runs q f)
  then_later r q f s h = subst (λ e. Later (then_runs r f) (then_by e q f)) s.ending (then_by_later r q f s h r.ending)

  pub iterations_later : (x : Execution) (n j : ℕ) (c d : Content) → Apart c d → Later (iterations x n j c) (iterations x n j d)
  iterations_later x zero j c d h = record { ending = refl; steps = refl; content = h }
  iterations_later x (suc n) j c d h =
      then_later (iteration x j c) (iteration x j d) (iterations x n (suc j)) (iteration_later x j c d h) (iterations_later x n (suc j))

  pub chunks_later : (x : Execution) (cs : List ℕ) (c d : Content) → Apart c d → Later (chunks_run x cs c) (chunks_run x cs d)
  chunks_later x [] c d h = record { ending = refl; steps = refl; content = h }
  chunks_later x (k ∷ ks) c d h =
      then_later (chunk_runs x k c) (chunk_runs x k d) (chunks_run x ks)
      (iterations_later x (chunk_trips x k) (chunk_start x k) c d h) (chunks_later x ks)
