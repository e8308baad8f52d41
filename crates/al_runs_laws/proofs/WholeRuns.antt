-- A whole run is like the run in other modes that is like it loop by loop.
use Rattle.std.proofs.Common.{◌≡◌, ℕ, ◌+◌, ◌<◌, List, [], Option, Some, None, Result, Ok, Err, Bool, true, false, refl, sym, ap, subst, ◌∙◌, inl, inr, arith, map, take, w64, FitsSigned}
use Rattle.std.specs.Prelude.{ℤ, pos, ◌+ℤ◌, nat_lt, slice_get}
use Rattle.std.proofs.Math.Bool.{true≢false}
use Rattle.al_source.specs.declared.limits.TheConstants.{ACTIVE_CALLS}
use Rattle.al_core.specs.declared.values.Obj.{Obj}
use Rattle.al_core.specs.declared.values.Obj.TheVariants.{Global}
use Rattle.al_core.specs.declared.values.Val.{Val}
use Rattle.al_core.specs.declared.values.Addr.TheVariants.{Word}
use Rattle.al_core.specs.declared.values.Kind.{Kind}
use Rattle.al_core.specs.declared.values.Kind.TheVariants as kind
use Rattle.al_core.specs.declared.values.Trap.{Trap}
use Rattle.al_core.specs.declared.typed_tree.TFunc.{TFunc}
use Rattle.al_core.specs.declared.typed_tree.TLocal.{TLocal}
use Rattle.al_core.specs.Values.{trips}
use Rattle.al_core.specs.Access.{Allocator, Outer, Content, name_of, word_limit, load, store, make, free, print}
use Rattle.al_core.specs.Action.{AllPrivate, State, Answer}
use Rattle.al_core.specs.Iteration.{ending_of}
use Rattle.al_core.specs.Loops.{Loop, loop_at}
use Rattle.al_core.specs.Meaning.{Outside, call_to}
use Rattle.al_core.specs.Run.{Setting, Mode, Whole, on_content, if_trips, visit_loop, outside, start, line_of, whole_run}
use Rattle.al_core.specs.Report.{shown_of}
use Rattle.al_laws.specs.Names.{HasOnly}
use Rattle.al_laws.proofs.Operations.{Leaves, load_leaves, store_leaves, free_leaves}
use Rattle.al_laws.proofs.Naming.{there_view}
use Rattle.al_laws.proofs.Stays.{limited}
use Rattle.al_laws.proofs.Words.{same_some, some_none}
use Rattle.al_rules.specs.WellFormed.{is_one, gives, param_kinds}
use Rattle.al_graded_laws.proofs.Graded.{Fineness, Fine, OkIs, Any}
use Rattle.al_graded_laws.proofs.Values.{zero_fits}
use Rattle.al_graded_laws.specs.InRange.{has_64_bits}
use Rattle.al_kinds_laws.specs.Programs.{IsProgram}
use Rattle.al_kinds_laws.proofs.Kinded.{IsNumber, Says, HaveKinds}
use Rattle.al_kinds_laws.proofs.Following.{FrameKinds, Sane, Leaves as Leaving, Follows, Works, Visits, Worlds, follows_call}
use Rattle.al_kinds_laws.proofs.KeptKinds.{Kept, no_variables, load_word, store_word, make_kept, free_kept}
use Rattle.al_kinds_laws.proofs.KindedIterations.{taken, results, numbers_of, globals_of, program_of}
use Rattle.al_runs_laws.specs.Modes.{AreAllowed}
use Rattle.al_runs_laws.proofs.ProgramLoops.{Stands, function_loops, loop_facts}
use Rattle.al_runs_laws.proofs.LoopsInRounds.{IsBefore}
use Rattle.al_runs_laws.proofs.Outside.{shut, F, OuterSane, SameOutside, other, Matching, loop_visited}

module _ (g : Setting) (p : IsProgram g.typed g.input) (modes : ℕ → ℕ → Mode) (Good : Whole → Type 0) (fits : AreAllowed g)
    (matching : Matching g p modes Good) where
  abbrev Sound : Whole → Type 0
  Sound = OuterSane g p

  abbrev Like : Whole → Whole → Type 0
  Like = SameOutside g p

  abbrev G : Fineness
  G = F g p

  abbrev against : Setting
  against = other g p modes Good

  abbrev Visited : List TLocal → (Whole → Answer (List Val) × Whole) → (Whole → Answer (List Val) × Whole) → Type 0
  Visited = Visits G zero_fits Sound Like Good

  -- ---- visits

  tripped : (number : ℕ) (l : Loop) (at : loop_at g.typed number ≡ Some l) (lo hi : ℤ) (vs : List Val) → FitsSigned w64 lo → FitsSigned w64 hi
      → FrameKinds G zero_fits (loop_facts g.typed g.input p number l at).func.locals vs → (e : Result ℕ Trap)
      → OkIs (λ n. (j : ℕ) → j < n → FitsSigned w64 (lo +ℤ pos j)) e
      → Visited (loop_facts g.typed g.input p number l at).func.locals (λ w. if_trips g l lo hi vs w e) (λ u. if_trips against l lo hi vs u e)
  tripped number l at lo hi vs f k kinds (Err t) c = record { sane = λ w o. (tt, o); back = λ w o b. b; by = λ w u o same b. (refl, same) }
  tripped number l at lo hi vs f k kinds (Ok n) c = loop_visited g p modes Good fits matching number l at lo hi n vs c f k kinds

  -- the function in which a loop stands is the one that its note names
  same_function : (f : ℕ) (func : TFunc) (number : ℕ) (l : Loop) (at : loop_at g.typed number ≡ Some l) → slice_get g.typed.funcs f ≡ Some func
      → Stands g.typed f number → (loop_facts g.typed g.input p number l at).func ≡ func
  same_function f func number l at is s =
      let facts = loop_facts g.typed g.input p number l at in
      same_some facts.func func (sym facts.stands ∙ ap (slice_get g.typed.funcs) (s l at) ∙ is)

  visited : (f : ℕ) (func : TFunc) → slice_get g.typed.funcs f ≡ Some func → (number : ℕ) (lo hi : ℤ) (vs : List Val) → Stands g.typed f number
      → FitsSigned w64 lo → FitsSigned w64 hi → FrameKinds G zero_fits func.locals vs → (l : Option Loop) → loop_at g.typed number ≡ l
      → Visited func.locals (λ w. visit_loop g lo hi vs w l) (λ u. visit_loop against lo hi vs u l)
  visited f func is number lo hi vs s low high kinds (Some l) at =
      let same = same_function f func number l at is s in
      subst (λ (q : TFunc). Visited q.locals (λ w. if_trips g l lo hi vs w (trips lo hi)) (λ u. if_trips against l lo hi vs u (trips lo hi))) same
      (tripped number l at lo hi vs low high (subst (λ (q : TFunc). FrameKinds G zero_fits q.locals vs) (sym same) kinds) (trips lo hi)
      ((numbers_of g.typed g.input p).counter lo hi low high))
  visited f func is number lo hi vs s low high kinds None at =
      record { sane = λ w o. (kinds, o); back = λ w o b. b; by = λ w u o same b. (refl, same) }

  -- ---- the other operations

  abbrev Op : {A : Type 0} → (A → Type 0) → (Whole → Result A Trap × Whole) → Type 0
  Op P f = Works G zero_fits Sound Like Good P f f

  -- an operation on the content
  on_contents : {A : Type 0} (P : A → Type 0) (f : Content → Result A Trap × Content)
      → ((c : Content) → Kept zero_fits (shut g p) [] [] c → OkIs P (f c).0 × Kept zero_fits (shut g p) [] [] (f c).1)
      → ((c : Content) (n : ℕ) → c.allocations.allocator ≡ Outer → HasOnly (IsBefore n) c.memory → HasOnly (IsBefore n) (f c).1.memory)
      → ((c : Content) → (f c).1.allocations.allocator ≡ c.allocations.allocator) → Op P (on_content f)
  on_contents P f k names same_allocator = record {
    sane = λ w o.
        let r = k w.content o.known in (
          r.0,
          record {
            known = r.1;
            allocator = same_allocator w.content ∙ o.allocator;
            names = names w.content w.executions o.allocator o.names;
            events = o.events;
          },
        );
    back = λ w o b. matching.content w (f w.content).1 b;
    by = λ w u o same b.
        ((λ i. (f (same.content i)).0), record { content = λ i. (f (same.content i)).1; executions = same.executions });
  }

  by_leaving : (f : Content → Content) → ((c : Content) → Leaves c (f c)) → (c : Content) (n : ℕ) → c.allocations.allocator ≡ Outer
      → HasOnly (IsBefore n) c.memory → HasOnly (IsBefore n) (f c).memory
  by_leaving f l c n a h q t = h q ((l c).objects q t)

  allocator_left : (f : Content → Content) → ((c : Content) → Leaves c (f c)) → (c : Content) → (f c).allocations.allocator ≡ c.allocations.allocator
  allocator_left f l c = ap (λ z. z.allocator) (l c).allocations

  load_op : (o : Obj) (i : ℕ) (k : Kind) → Op (Says G (is_one k kind.Int)) (on_content (load (Word o i) k))
  load_op o i k =
      let f = load (Word o i) k in
      on_contents (Says G (is_one k kind.Int)) f (load_word zero_fits (shut g p) [] [] (no_variables zero_fits (shut g p) []) o i k)
      (by_leaving (λ c. (f c).1) (λ c. load_leaves (Word o i) k c)) (allocator_left (λ c. (f c).1) (λ c. load_leaves (Word o i) k c))

  store_op : (o : Obj) (i : ℕ) (v : Val) → Fine G v → ((k : ℕ) → o ≡ Global k → shut g p k ≡ true → IsNumber v)
      → Op {A = Unit {0}} Any (on_content (store (Word o i) v))
  store_op o i v fine number =
      let f = store (Word o i) v in
      on_contents {A = Unit {0}} Any f (store_word zero_fits (shut g p) [] [] (no_variables zero_fits (shut g p) []) o i v fine number)
      (by_leaving (λ c. (f c).1) (λ c. store_leaves (Word o i) v c)) (allocator_left (λ c. (f c).1) (λ c. store_leaves (Word o i) v c))

  free_op : (o : Obj) (i : ℕ) → Op {A = Unit {0}} Any (on_content (free o i))
  free_op o i =
      let f = free o i in
      on_contents {A = Unit {0}} Any f (free_kept zero_fits (shut g p) [] [] (no_variables zero_fits (shut g p) []) o i)
      (by_leaving (λ c. (f c).1) (λ c. free_leaves o i c)) (allocator_left (λ c. (f c).1) (λ c. free_leaves o i c))

  -- what is made outside iterations is no object of an execution
  outer_name : (n : ℕ) (a : Allocator) (k : ℕ) (q : Obj) → a ≡ Outer → q ≡ name_of a k → IsBefore n q
  outer_name n a k q e i = subst (IsBefore n) (sym (i ∙ ap (λ z. name_of z k) e)) tt

  limited_names : (c : Content) (n words : ℕ) (b : Bool) → c.allocations.allocator ≡ Outer → HasOnly (IsBefore n) c.memory
      → HasOnly (IsBefore n) (limited c b words).1.memory
  limited_names c n words true a h q t = h q t
  limited_names c n words false a h q t =
      elim (there_view.made c (name_of c.allocations.allocator c.allocations.next) words q t) as (λ _. IsBefore n q) [
        | inl e ↦ outer_name n c.allocations.allocator c.allocations.next q a e
        | inr old ↦ h q old
      ]

  limited_allocator : (c : Content) (words : ℕ) (b : Bool) → (limited c b words).1.allocations.allocator ≡ c.allocations.allocator
  limited_allocator c words true = refl
  limited_allocator c words false = refl

  make_op : (words : ℕ) → Op G.obj (on_content (make words))
  unfolding make
  make_op words =
      let over = λ (c : Content). nat_lt (word_limit c.allocations.allocator) (c.allocations.words + words + 1) in
      on_contents G.obj (make words) (make_kept zero_fits (shut g p) [] [] (no_variables zero_fits (shut g p) []) words)
      (λ c n a h. limited_names c n words (over c) a h)
      (λ c. limited_allocator c words (over c))

  print_op : (bytes : List ℕ) → Op {A = Unit {0}} Any (λ w. (Ok tt, record w { content = print bytes w.content }))
  unfolding print
  print_op bytes = record {
    sane = λ w o. (
      tt,
      record {
        known = record { log = o.known.log; memory = o.known.memory };
        allocator = o.allocator;
        names = o.names;
        events = o.events;
      },
    );
    back = λ w o b. matching.content w (print bytes w.content) b;
    by = λ w u o same b. (refl, record { content = λ i. print bytes (same.content i); executions = same.executions });
  }

  outside_worlds : (f : ℕ) (func : TFunc) → slice_get g.typed.funcs f ≡ Some func
      → Worlds G zero_fits Sound Like Good (outside g) (outside against) (shut g p) AllPrivate func.locals (Stands g.typed f)
  outside_worlds f func is = record {
    load_local = λ k e. absurd (true≢false e);
    store_local = λ k v e. absurd (true≢false e);
    load = load_op;
    store = store_op;
    make = make_op;
    free = λ o i _. free_op o i;
    print = print_op;
    visit = λ loop lo hi vs s low high kinds. visited f func is loop lo hi vs s low high kinds (loop_at g.typed loop) refl;
  }

  -- ---- the whole

  abbrev Main : Type 0
  Main =
      Follows G zero_fits Sound Like Good AllPrivate [] Val (Says G (gives (slice_get (results g.typed g.input p) g.typed.main) kind.Int))
      (call_to (outside g) Outside g.typed.funcs g.input ACTIVE_CALLS g.typed.main [] (line_of (slice_get g.typed.funcs g.typed.main)))
      (call_to (outside against) Outside g.typed.funcs g.input ACTIVE_CALLS g.typed.main [] (line_of (slice_get g.typed.funcs g.typed.main)))

  main_follows : Main
  main_follows =
      let main = p.formed.main in
      let stands = function_loops g.typed p.formed.loops in
      let program = program_of g.typed g.input p (Stands g.typed) Sound Like Good stands in
      follows_call G zero_fits Sound Like Good (outside g) (outside against) (shut g p) (taken g.typed g.input p) has_64_bits g.typed
      (results g.typed g.input p) (Stands g.typed) program Outside g.input (numbers_of g.typed g.input p) (globals_of g.typed g.input p) outside_worlds
      AllPrivate [] ACTIVE_CALLS g.typed.main main.0 [] (line_of (slice_get g.typed.funcs g.typed.main)) main.1 no_arguments
    where
      no_arguments : HaveKinds G (param_kinds p.formed.main.0) []
      no_arguments = subst (λ z. HaveKinds G (map (λ l. l.kind) (take z p.formed.main.0.locals)) []) (sym p.formed.main.2) tt

  start_sane : Kept zero_fits (shut g p) [] [] (start g).world.content → HasOnly (IsBefore 0) (start g).world.content.memory
      → Sane G zero_fits Sound Like Good AllPrivate [] (start g)
  start_sane known names = record {
    own_is = refl;
    kinds = (omega arith, λ k v e. absurd (some_none v (sym e)));
    world = record { known = known; allocator = refl; names = names; events = tt };
  }

  pub whole_follows : Kept zero_fits (shut g p) [] [] (start g).world.content → HasOnly (IsBefore 0) (start g).world.content.memory
      → Good (whole_run g).1.world → shown_of (whole_run g) ≡ shown_of (whole_run against)
  unfolding whole_run
  whole_follows known names good =
      let c = main_follows.by (start g) (start against) (start_sane known names)
      (record { frame = refl; budget = refl; world = record { content = refl; executions = refl } }) good in
      λ i. record { output = (c.state.world.content i).printed; ending = ending_of (c.answer i) }

  sound_end : (P : Val → Type 0) (r : Answer Val) (s : State Whole)
      → Leaving G zero_fits Sound Like Good AllPrivate [] P r s → Sound s.world
  sound_end P (Ok v) s h = h.1.world
  sound_end P (Err e) s h = h

  pub whole_sound : Kept zero_fits (shut g p) [] [] (start g).world.content → HasOnly (IsBefore 0) (start g).world.content.memory
      → Sound (whole_run g).1.world
  unfolding whole_run
  whole_sound known names =
      sound_end (Says G (gives (slice_get (results g.typed g.input p) g.typed.main) kind.Int)) (whole_run g).0 (whole_run g).1
      (main_follows.sane (start g) (start_sane known names))
