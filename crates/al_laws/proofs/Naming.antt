-- The objects that are made have names within the limits: instances of the abstraction theorem.
use Rattle.std.proofs.Common.{◌^◌, ◌≡◌, ◌≢◌, ℕ, zero, suc, ◌+◌, ◌-◌, ◌<◌, ◌≤◌, List, [], ◌∷◌, length, take, Option, Some, None, Result, Ok, Err, Bool, true, false, cond, ◌||◌, refl, sym, ap, subst, ◌∙◌, ◌⊎◌, inl, inr, arith}
use Rattle.std.specs.Prelude.{ℤ, pos, nat_lt, is_some, replicate, slice_get}
use Rattle.std.specs.FinMap as fin
use Rattle.std.specs.FinSet as set
use Rattle.std.specs.FinSet.{contains-empty}
use Rattle.std.proofs.Math.Bool.{true≢false}
use Rattle.std.proofs.Math.Nat.{mul-le-mul_right}
use Rattle.std.proofs.lemmas.Bool.{cases_lt, ltb-false}
use Rattle.al_source.specs.declared.limits.TheConstants.{ACTIVE_CALLS, ITERATION_WORDS, LOOP_TRIPS}
use Rattle.al_core.specs.declared.choices.Choice.{Choice}
use Rattle.al_core.specs.declared.choices.Red.{Red}
use Rattle.al_core.specs.declared.reports.Ending.TheVariants as ending
use Rattle.al_core.specs.declared.reports.Verdict.{Verdict}
use Rattle.al_core.specs.declared.typed_tree.TGlobal.{TGlobal}
use Rattle.al_core.specs.declared.values.Val.{Val}
use Rattle.al_core.specs.declared.values.Val.TheVariants.{Int}
use Rattle.al_core.specs.declared.values.Obj.{Obj}
use Rattle.al_core.specs.declared.values.Obj.TheVariants.{Global, Serial, Iter}
use Rattle.al_core.specs.declared.values.Trap.{Trap}
use Rattle.al_core.specs.Values.{trips}
use Rattle.al_core.specs.Orders.{obj_cmp, obj_eq}
use Rattle.al_core.specs.Memory.{Memory, has_object}
use Rattle.al_core.specs.Access.{AccessRecord, Allocations, Content, Outer, word_limit, name_of, record_make, with_object, make, print, in_iteration}
use Rattle.al_core.specs.Loops.{Loop, loop_at}
use Rattle.al_core.specs.Meaning.{Outside}
use Rattle.al_core.specs.Iteration.{Execution, Finished, iteration_from, iterations}
use Rattle.al_core.specs.Chunk.{chunk_start, chunk_end, chunk_runs, chunk_from, outcome_of, outcome}
use Rattle.al_core.specs.Readiness.{IsNameFrom}
use Rattle.al_core.specs.Verdicts.{is_committed, cons_if, committed, verdicts}
use Rattle.al_core.specs.Applied.{applied, all_applied}
use Rattle.al_core.specs.Round.{outcomes, round}
use Rattle.al_core.specs.Lockstep.{Rounds, with_round, still_pending, unless_trapped, rounds_from, all_chunks, no_rounds, lockstep}
use Rattle.al_core.specs.Serial.{direct, plain_loop, chunks_run, serial}
use Rattle.al_core.specs.Run.{Mode, Plainly, InRounds, InChunks, Setting, Whole, by_mode, list_or_all, execution, at_loop, if_trips, visit_loop, globals_from, start_words, outside, line_of, start, whole_run, sizes_of}
use Rattle.al_laws.specs.Commits.{OthersStayFresh}
use Rattle.al_laws.specs.Names.{HasOnly, IsGivenName, MadeAreNamed, IsWithin, HasNames, StatementsKeepNames, NamesFit}
use Rattle.al_laws.proofs.Orders.{obj_total, obj_equal}
use Rattle.al_laws.proofs.Abstraction.{of_program, of_call}
use Rattle.al_laws.proofs.Keeps.{Keeps, KeepsOp, KeepsWorld, keeps_closed, iterations_hold, chunk_holds, chunks_hold}
use Rattle.al_laws.proofs.Stays.{limited, get_add}
use Rattle.al_laws.proofs.Operations.{made_by, Leaves, load_leaves, store_leaves, free_leaves}
use Rattle.al_laws.proofs.Applying.{applied_there, applied_only}
use Rattle.al_laws.proofs.HeadsRead.{made_there}
use Rattle.al_laws.proofs.Commits.{next_round}
use Rattle.al_laws.proofs.Fits.{ok_or_none, trips_few}
use Rattle.al_laws.proofs.Executions.{executions_bound}

-- ---- what is seen of a content: the objects that are there, or those that a chunk made

-- whatever is seen after an operation was seen before, but for an object that is made
pub record IsView (seen : Content → Obj → Bool) : Type 0 where
  pub left : (c d : Content) → Leaves c d → (q : Obj) → seen d q ≡ true → seen c q ≡ true
  pub made : (c : Content) (o : Obj) (words : ℕ) (q : Obj) → seen (with_object c o words) q ≡ true → (q ≡ o) ⊎ (seen c q ≡ true)
  pub printed : (c : Content) (bytes : List ℕ) (q : Obj) → seen (record c { printed = bytes }) q ≡ true → seen c q ≡ true
  pub allocated : (c : Content) (z : Allocations) (q : Obj) → seen (record c { allocations = z }) q ≡ true → seen c q ≡ true

abbrev pub is_there : Content → Obj → Bool
is_there c q = has_object c.memory q

abbrev pub is_made : Content → Obj → Bool
is_made c q = set.contains (made_by c.accesses) q

one_more : (b : Bool) (q o : Obj) (ws : List Val) (x : Option (List Val)) → obj_eq q o ≡ b → is_some (cond b (Some ws) x) ≡ true → (q ≡ o) ⊎ (is_some x ≡ true)
one_more true q o ws x e h = inl (obj_equal q o e)
one_more false q o ws x e h = inr h

pub there_view : IsView is_there
there_view = record {
  left = λ c d l q h. l.objects q h;
  made = λ c o words q h.
      let ws = replicate words (Int (pos 0)) in
      one_more (obj_eq q o) q o ws (fin.get c.memory.objects q) refl (sym (ap is_some (get_add c.memory o ws q)) ∙ h);
  printed = λ c bytes q h. h;
  allocated = λ c z q h. h;
}

one_made : (b : Bool) (q o : Obj) (z : Bool) → obj_eq q o ≡ b → (b || z) ≡ true → (q ≡ o) ⊎ (z ≡ true)
one_made true q o z e h = inl (obj_equal q o e)
one_made false q o z e h = inr h

made_more : (l : Option AccessRecord) (o q : Obj) → set.contains (made_by (record_make l o)) q ≡ true → (q ≡ o) ⊎ (set.contains (made_by l) q ≡ true)
made_more None o q h = inr h
made_more (Some accesses) o q h = one_made (obj_eq q o) q o (set.contains accesses.made q) refl (sym (set.contains-insert obj_total accesses.made o q) ∙ h)

pub made_view : IsView is_made
made_view = record {
  left = λ c d l q h. ap (λ s. set.contains s q) (sym l.made) ∙ h;
  made = λ c o words q h. made_more c.accesses o q h;
  printed = λ c bytes q h. h;
  allocated = λ c z q h. h;
}

module _ (seen : Content → Obj → Bool) (view : IsView seen) (P : Obj → Type 0) where
  abbrev pub SeesOnly : Content → Type 0
  SeesOnly c = (q : Obj) → seen c q ≡ true → P q

  -- each object that is seen is such a one, and each that may be made
  pub record NamesIn (c : Content) : Type 0 where
    pub sees : SeesOnly c
    pub names : (k : ℕ) → k < word_limit c.allocations.allocator → P (name_of c.allocations.allocator k)
    pub counted : c.allocations.next ≤ c.allocations.words

  by_leaves : (c d : Content) → Leaves c d → NamesIn c → NamesIn d
  by_leaves c d l h = record {
    sees = λ q t. h.sees q (view.left c d l q t);
    names = subst (λ (z : Allocations). (k : ℕ) → k < word_limit z.allocator → P (name_of z.allocator k)) (sym l.allocations) h.names;
    counted = subst (λ (z : Allocations). z.next ≤ z.words) (sym l.allocations) h.counted;
  }

  by_limit : (c : Content) (words : ℕ) (b : Bool) → nat_lt (word_limit c.allocations.allocator) (c.allocations.words + words + 1) ≡ b → NamesIn c
      → NamesIn (limited c b words).1
  by_limit c words true e h = h
  by_limit c words false e h =
      let o = name_of c.allocations.allocator c.allocations.next in
      let low = ltb-false (word_limit c.allocations.allocator) (c.allocations.words + words + 1) e in
      record {
        sees = λ q t. elim (view.made c o words q t) as (λ _. P q) [
          | inl s ↦ subst P (sym s) (h.names c.allocations.next (omega (arith, low, h.counted)))
          | inr k ↦ h.sees q k
        ];
        names = h.names;
        counted = omega (arith, h.counted);
      }

  make_keeps : (words : ℕ) → KeepsOp NamesIn (make words)
  unfolding make
  make_keeps words = record { by = λ c h. by_limit c words (nat_lt (word_limit c.allocations.allocator) (c.allocations.words + words + 1)) refl h }

  print_keeps : (bytes : List ℕ) → KeepsOp NamesIn {A = Result (Unit {0}) Trap} (λ c. (Ok tt, print bytes c))
  unfolding print
  print_keeps bytes = record { by = λ c h. record { sees = λ q t. h.sees q (view.printed c _ q t); names = h.names; counted = h.counted } }

  pub names_kept : KeepsWorld NamesIn in_iteration
  names_kept = record {
    load = λ a k. record { by = λ c h. by_leaves c _ (load_leaves a k c) h };
    store = λ a x. record { by = λ c h. by_leaves c _ (store_leaves a x c) h };
    make = make_keeps;
    free = λ o at. record { by = λ c h. by_leaves c _ (free_leaves o at c) h };
    print = print_keeps;
    visit = λ loop lo hi locals. record { by = λ c h. h };
  }

  module _ (x : Execution) (first last : ℕ) (own : (j k : ℕ) → first ≤ j → j < last → k < ITERATION_WORDS → P (Iter x.number j k)) where
    starts : (j : ℕ) (c : Content) → first ≤ j → j < last → SeesOnly c → NamesIn (iteration_from x j c).world
    starts j c f l h = record { sees = λ q t. h q (view.allocated c _ q t); names = λ k s. own j k f l s; counted = omega arith }

    pub iterations_see : (n j : ℕ) (c : Content) → first ≤ j → n ≤ last - j → SeesOnly c → SeesOnly (iterations x n j c).content
    iterations_see = iterations_hold SeesOnly NamesIn names_kept (λ c h. h.sees) x first last starts

    pub chunk_sees : (c : ℕ) → first ≤ chunk_start x c → chunk_end x c ≤ last → (content : Content) → SeesOnly content
        → SeesOnly (chunk_runs x c content).content
    chunk_sees = chunk_holds SeesOnly NamesIn names_kept (λ c h. h.sees) x first last starts

    pub chunks_see : (cs : List ℕ) → ((c : ℕ) → (first ≤ chunk_start x c) × (chunk_end x c ≤ last)) → (content : Content) → SeesOnly content
        → SeesOnly (chunks_run x cs content).content
    chunks_see = chunks_hold SeesOnly NamesIn names_kept (λ c h. h.sees) x first last starts

-- ---- what a chunk makes

made_in : (r : Finished) (l : Option AccessRecord) (o : Obj) → is_some (fin.get (outcome_of r l).made o) ≡ true → set.contains (made_by l) o ≡ true
made_in r (Some accesses) o h = made_there r.content.memory accesses.made o h
made_in r None o h = absurd (true≢false (sym h ∙ ap is_some (fin.get-empty obj_cmp o)))

pub made_are_named : MadeAreNamed
unfolding outcome
made_are_named x reds m c o h =
    let r = chunk_runs x c (chunk_from x reds m c) in
    chunk_sees is_made made_view (IsGivenName x.number (chunk_start x c) (chunk_end x c)) x (chunk_start x c) (chunk_end x c) (λ j k f l s. (refl, f, l, s)) c
    (omega arith) (omega arith) (chunk_from x reds m c)
    (λ q t. absurd (true≢false (sym t ∙ contains-empty obj_cmp q))) o (made_in r r.content.accesses o h)

-- a given name is one of the names
pub given_is_from : (e first last : ℕ) (o : Obj) → IsGivenName e first last o → IsNameFrom e first last o
given_is_from e first last (Global k) h = h
given_is_from e first last (Serial k) h = h
given_is_from e first last (Iter f j k) h = (h.0, h.1, h.2)

-- ---- the names of other chunks

pub apart_below : (x : Execution) (c d j : ℕ) → c < d → j < chunk_end x c → chunk_start x d ≤ j → ⊥
apart_below x c d j l e s = absurd (omega (arith, e, s, mul-le-mul_right {m = c + 1} {n = d} x.factor (omega (arith, l))))

pub apart : (x : Execution) (c d j : ℕ) → c ≢ d → chunk_start x c ≤ j → j < chunk_end x c → chunk_start x d ≤ j → j < chunk_end x d → ⊥
apart x c d j n sc ec sd ed =
    elim (cases_lt c d) as (λ _. ⊥) [
      | inl l ↦ apart_below x c d j l ec sd
      | inr l ↦ apart_below x d c j (omega (arith, l, n)) ed sc
    ]

pub names_apart : (x : Execution) (c d : ℕ) → c ≢ d → (o : Obj) → IsGivenName x.number (chunk_start x c) (chunk_end x c) o
    → IsNameFrom x.number (chunk_start x d) (chunk_end x d) o → ⊥
names_apart x c d n (Global k) h g = h
names_apart x c d n (Serial k) h g = h
names_apart x c d n (Iter e j k) h g = apart x c d j n h.1 h.2 g.1 g.2

pub others_stay_fresh : OthersStayFresh
others_stay_fresh x reds m c d n fresh q name =
    elim (has_object (applied reds m (outcome x reds m c)) q) as (λ b. has_object (applied reds m (outcome x reds m c)) q ≡ b → b ≡ false) [
      | true ↦ λ t. elim (applied_there reds m (outcome x reds m c) q t) as (λ _. true ≡ false) [
        | inl made ↦ absurd (names_apart x c d n q (made_are_named x reds m c q made) name)
        | inr old ↦ absurd (true≢false (sym old ∙ fresh q name))
      ]
      | false ↦ λ t. refl
    ] refl

-- ---- executions

module _ (P : Obj → Type 0) (x : Execution) (own : (j k : ℕ) → j < x.trips → k < ITERATION_WORDS → P (Iter x.number j k)) where
  given : (c : ℕ) (o : Obj) → IsGivenName x.number (chunk_start x c) (chunk_end x c) o → P o
  given c (Global k) h = absurd h
  given c (Serial k) h = absurd h
  given c (Iter e j k) h = subst (λ e. P (Iter e j k)) (sym h.0) (own j k (omega (arith, h.2)) h.3)

  inside : (c : ℕ) → (0 ≤ chunk_start x c) × (chunk_end x c ≤ x.trips)
  inside c = (omega arith, omega arith)

  plain_only : (m : Memory) → HasOnly P m → HasOnly P (plain_loop x m).content.memory
  unfolding plain_loop
  plain_only m h = iterations_see is_there there_view P x 0 x.trips (λ j k f l s. own j k l s) x.trips 0 (direct x m) (omega arith) (omega arith) h

  serial_only : (cs : List ℕ) (m : Memory) → HasOnly P m → HasOnly P (serial x cs m).content.memory
  unfolding serial
  serial_only cs m h = chunks_see is_there there_view P x 0 x.trips (λ j k f l s. own j k l s) cs inside (direct x m) h

  committed_only : (reds : List Red) (m : Memory) (cs : List ℕ) (vs : List Verdict) (n : Memory) → HasOnly P n
      → HasOnly P (all_applied reds (committed (outcomes x reds m cs) vs) n)
  committed_only reds m [] vs n h = h
  committed_only reds m (c ∷ cs) [] n h = h
  committed_only reds m (c ∷ cs) (v ∷ vs) n h =
      let o = outcome x reds m c in
      elim (is_committed v) as (λ b. HasOnly P (all_applied reds (cons_if b o (committed (outcomes x reds m cs) vs)) n)) [
        | true ↦ committed_only reds m cs vs (applied reds n o) (applied_only P reds n o h (λ q t. given c q (made_are_named x reds m c q t)))
        | false ↦ committed_only reds m cs vs n h
      ]

  round_only : (choice : Choice) (cs : List ℕ) (m : Memory) → HasOnly P m → HasOnly P (round x choice cs m).memory
  unfolding round
  round_only choice cs m h = committed_only choice.reds m cs (verdicts choice (outcomes x choice.reds m cs)) m h

  rounds_only : (n : ℕ) (choice : Choice) (lanes : ℕ) (pending : List ℕ) (s : Rounds) → HasOnly P s.memory
      → HasOnly P (rounds_from n x choice lanes pending s).memory
  rounds_only zero choice lanes pending s h = h
  rounds_only (suc n) choice lanes [] s h = h
  rounds_only (suc n) choice lanes (c ∷ cs) s h =
      let r = next_round x choice lanes (c ∷ cs) s in
      let more = rounds_from n x choice lanes (still_pending lanes (c ∷ cs) r) (with_round r s) in
      let now = round_only choice (take lanes (c ∷ cs)) s.memory h in
      elim r.ending as (λ e. HasOnly P (unless_trapped e (with_round r s) more).memory) [
        | ending.Done ↦ rounds_only n choice lanes (still_pending lanes (c ∷ cs) r) (with_round r s) now
        | ending.Trap t line ↦ now
      ]

  lockstep_only : (choice : Choice) (lanes : ℕ) (m : Memory) → HasOnly P m → HasOnly P (lockstep x choice lanes m).memory
  unfolding lockstep
  lockstep_only choice lanes m h = rounds_only _ choice lanes (all_chunks x) (no_rounds m) h

  pub mode_only : (lanes : ℕ) (m : Memory) (way : Mode) → HasOnly P m → HasOnly P (by_mode x lanes m way).memory
  mode_only lanes m Plainly h = plain_only m h
  mode_only lanes m (InRounds choice) h = lockstep_only choice lanes m h
  mode_only lanes m (InChunks cs) h = serial_only (list_or_all x cs) m h

-- ---- whole runs

more_begun : (globals e f : ℕ) (o : Obj) → e ≤ f → IsWithin globals e o → IsWithin globals f o
more_begun globals e f (Global k) l h = h
more_begun globals e f (Serial k) l h = h
more_begun globals e f (Iter i j k) l h = (omega (arith, l, h.0), h.1, h.2)

module _ (g : Setting) where
  abbrev Within : ℕ → Obj → Type 0
  Within = IsWithin (length g.typed.globals)

  -- code outside iterations
  abbrev InContent : ℕ → Content → Type 0
  InContent e = NamesIn is_there there_view (Within e)

  outer_names : (e : ℕ) (c : Content) → c.allocations.allocator ≡ Outer → (k : ℕ) → k < word_limit c.allocations.allocator
      → Within e (name_of c.allocations.allocator k)
  outer_names e c is = subst (λ z. (k : ℕ) → k < word_limit z → Within e (name_of z k)) (sym is) (λ k l. l)

  content_names : (w : Whole) → HasNames g w → InContent w.executions w.content
  content_names w h = record { sees = h.objects; names = outer_names w.executions w.content h.outer; counted = h.counted }

  -- an operation on the content
  by_content : (w : Whole) (c : Content) → c.allocations.allocator ≡ w.content.allocations.allocator → HasNames g w → InContent w.executions c
      → HasNames g (record w { content = c })
  by_content w c same h k = record { objects = k.sees; outer = same ∙ h.outer; counted = k.counted }

  same_allocator : (c d : Content) → Leaves c d → d.allocations.allocator ≡ c.allocations.allocator
  same_allocator c d l = ap (λ z. z.allocator) l.allocations

  limited_allocator : (c : Content) (words : ℕ) (b : Bool) → (limited c b words).1.allocations.allocator ≡ c.allocations.allocator
  limited_allocator c words true = refl
  limited_allocator c words false = refl

  make_allocator : (words : ℕ) (c : Content) → (make words c).1.allocations.allocator ≡ c.allocations.allocator
  unfolding make
  make_allocator words c = limited_allocator c words (nat_lt (word_limit c.allocations.allocator) (c.allocations.words + words + 1))

  print_allocator : (bytes : List ℕ) (c : Content) → (print bytes c).allocations.allocator ≡ c.allocations.allocator
  unfolding print
  print_allocator bytes c = refl

  own_names : (l : Loop) (w : Whole) (lo : ℤ) (n : ℕ) → n ≤ LOOP_TRIPS → (j k : ℕ) → j < n → k < ITERATION_WORDS
      → Within (w.executions + 1) (Iter w.executions j k)
  own_names l w lo n few j k a b = (omega arith, omega (arith, few, a), b)

  trips_keep : (l : Loop) (lo hi : ℤ) (locals : List Val) (w : Whole) (r : Result ℕ Trap) → ok_or_none r ≤ LOOP_TRIPS → HasNames g w
      → HasNames g (if_trips g l lo hi locals w r).1
  trips_keep l lo hi locals w (Err t) few h = h
  trips_keep l lo hi locals w (Ok n) few h =
      let x = execution g l w.executions lo n in
      record {
        objects =
            mode_only (Within (w.executions + 1)) x (own_names l w lo n few) g.sizes.lanes (at_loop w.content locals) (g.modes l.info.number w.executions)
            (λ q t. more_begun (length g.typed.globals) w.executions (w.executions + 1) q (omega arith) (h.objects q t));
        outer = h.outer;
        counted = h.counted;
      }

  visit_keeps : (lo hi : ℤ) (locals : List Val) (w : Whole) (l : Option Loop) → HasNames g w → HasNames g (visit_loop g lo hi locals w l).1
  visit_keeps lo hi locals w (Some l) h = trips_keep l lo hi locals w (trips lo hi) (trips_few lo hi) h
  visit_keeps lo hi locals w None h = h

  pub names_world : KeepsWorld (HasNames g) (outside g)
  names_world = record {
    load = λ a k. record {
      by = λ w h.
          by_content w _ (same_allocator w.content _ (load_leaves a k w.content)) h
          (by_leaves is_there there_view (Within w.executions) w.content _ (load_leaves a k w.content) (content_names w h));
    };
    store = λ a x. record {
      by = λ w h.
          by_content w _ (same_allocator w.content _ (store_leaves a x w.content)) h
          (by_leaves is_there there_view (Within w.executions) w.content _ (store_leaves a x w.content) (content_names w h));
    };
    make = λ words. record {
      by = λ w h. by_content w _ (make_allocator words w.content) h
          ((make_keeps is_there there_view (Within w.executions) words).by w.content (content_names w h));
    };
    free = λ o at. record {
      by = λ w h.
          by_content w _ (same_allocator w.content _ (free_leaves o at w.content)) h
          (by_leaves is_there there_view (Within w.executions) w.content _ (free_leaves o at w.content) (content_names w h));
    };
    print = λ bytes. record {
      by = λ w h. by_content w _ (print_allocator bytes w.content) h
          ((print_keeps is_there there_view (Within w.executions) bytes).by w.content (content_names w h));
    };
    visit = λ loop lo hi locals. record { by = λ w h. visit_keeps lo hi locals w (loop_at g.typed loop) h };
  }

  -- ---- the start

  global_or : (n k : ℕ) (o : Obj) (gs : List TGlobal) (ws : List Val) (b : Bool) → obj_eq o (Global k) ≡ b → k < n
      → (is_some (fin.get (globals_from (k + 1) gs) o) ≡ true → IsWithin n 0 o)
      → is_some (cond b (Some ws) (fin.get (globals_from (k + 1) gs) o)) ≡ true → IsWithin n 0 o
  global_or n k o gs ws true e l more h = subst (IsWithin n 0) (sym (obj_equal o (Global k) e)) l
  global_or n k o gs ws false e l more h = more h

  globals_only : (n k : ℕ) (gs : List TGlobal) → k + length gs ≤ n → (o : Obj) → is_some (fin.get (globals_from k gs) o) ≡ true → IsWithin n 0 o
  globals_only n k [] l o h = absurd (true≢false (sym h ∙ ap is_some (fin.get-empty obj_cmp o)))
  globals_only n k (z ∷ gs) l o h =
      global_or n k o gs (start_words z) (obj_eq o (Global k)) refl (omega (arith, l)) (globals_only n (k + 1) gs (omega (arith, l)) o)
      (sym (ap is_some (fin.get-insert obj_total (globals_from (k + 1) gs) (Global k) (start_words z) o)) ∙ h)

  pub starts_named : HasNames g (start g).world
  starts_named = record { objects = globals_only (length g.typed.globals) 0 g.typed.globals (omega arith); outer = refl; counted = omega arith }

  pub run_named : HasNames g (whole_run g).1.world
  unfolding whole_run
  run_named =
      (of_call (outside g) (outside g) (λ A. Keeps (HasNames g) {A = A})
      (keeps_closed (HasNames g) (outside g) names_world) Outside g.typed.funcs g.input ACTIVE_CALLS g.typed.main []
      (line_of (slice_get g.typed.funcs g.typed.main))).by (start g) starts_named

pub statements_keep_names : StatementsKeepNames
statements_keep_names g here funcs input calls stmt s h =
    (of_program (outside g) (outside g) (λ A. Keeps (HasNames g) {A = A})
    (keeps_closed (HasNames g) (outside g) (names_world g)) here funcs input calls stmt).by s h

pub names_fit : NamesFit
names_fit typed input knobs modes ok q t =
    let g : Setting = record { typed = typed; input = input; sizes = sizes_of knobs; modes = modes } in
    more_begun (length typed.globals) (whole_run g).1.world.executions (2 ^ 32) q (omega (arith, executions_bound g, ok.serial_steps.1))
    ((run_named g).objects q t)
