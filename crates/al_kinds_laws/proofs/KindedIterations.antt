-- Iterations on one memory keep it that integer locals and shut globals hold numbers.
use Rattle.std.proofs.Common.{◌≡◌, ℕ, zero, suc, ◌+◌, ◌-◌, ◌<◌, ◌≤◌, List, [], ◌∷◌, length, Option, Some, None, Result, Ok, Err, Bool, true, false, refl, sym, ap, subst, ◌∙◌, arith, w64, FitsSigned}
use Rattle.std.specs.Prelude.{ℤ, pos, ◌+ℤ◌, not, nat_le, slice_get}
use Rattle.std.specs.List.{AllByRecursion}
use Rattle.std.proofs.Math.Bool.{true≢false}
use Rattle.al_core.specs.declared.reports.Ending.{Ending}
use Rattle.al_core.specs.declared.reports.Ending.TheVariants as ending
use Rattle.al_core.specs.declared.values.Val.{Val}
use Rattle.al_core.specs.declared.values.Val.TheVariants.{Int}
use Rattle.al_core.specs.declared.values.Addr.TheVariants.{Word, Local}
use Rattle.al_core.specs.declared.values.Kind.{Kind}
use Rattle.al_core.specs.declared.values.Kind.TheVariants as kind
use Rattle.al_core.specs.declared.values.Trap.{Trap}
use Rattle.al_core.specs.declared.typed_tree.TFunc.{TFunc}
use Rattle.al_core.specs.declared.typed_tree.TGlobal.{TGlobal}
use Rattle.al_core.specs.declared.typed_tree.TLocal.{TLocal}
use Rattle.al_core.specs.declared.typed_tree.Typed.{Typed}
use Rattle.al_core.specs.Loops.{ForLoop, for_loops, for_loops_in}
use Rattle.al_core.specs.Memory.{Memory}
use Rattle.al_core.specs.Access.{Content, in_iteration}
use Rattle.al_core.specs.Action.{AllPrivate, Own, Private, State, Answer, is_private}
use Rattle.al_core.specs.Meaning.{Inside, body_of, call_to}
use Rattle.al_core.specs.Iteration.{Execution, Finished, calls_within, iteration, iteration_does, iteration_from, then_by, iterations}
use Rattle.al_core.specs.Chunk.{chunk_start, chunk_end, chunk_trips, chunk_runs}
use Rattle.al_core.specs.Serial.{direct, chunks_run, plain_loop, serial}
use Rattle.al_rules.specs.WellFormed.{is_int_global, is_some_kind, is_int_local}
use Rattle.al_graded_laws.specs.Rules.{Rules, stmts_obey}
use Rattle.al_graded_laws.specs.InRange.{has_64_bits, in_range}
use Rattle.al_graded_laws.proofs.Graded.{Fineness, FineNumbers, Any}
use Rattle.al_graded_laws.proofs.Numbers.{fine_numbers}
use Rattle.al_graded_laws.proofs.Values.{zero_fits, fits_64, fine_input_at}
use Rattle.al_graded_laws.proofs.Watched.{outer_rules}
use Rattle.al_kinds_laws.specs.Whole.{scalar_of, is_shut}
use Rattle.al_kinds_laws.specs.Programs.{IsProgram}
use Rattle.al_kinds_laws.proofs.Kinded.{Says, says_number, Kinded}
use Rattle.al_kinds_laws.proofs.KindedExpressions.{Globals}
use Rattle.al_kinds_laws.proofs.KindedStatements.{kinded_execute}
use Rattle.al_kinds_laws.proofs.Following.{zero_kinds, Leaves, Follows, Works, Worlds, Program, follows_kinded, follows_call}
use Rattle.al_core.specs.declared.choices.Red.{Red}
use Rattle.al_kinds_laws.proofs.KeptKinds.{AreVariables, no_variables, kept_by, KeptMemory, Kept, Keeps, load_word, load_local, store_word, store_local, make_kept, free_kept, print_kept}
use Rattle.al_kinds_laws.proofs.LoopBodies.{GoodBody}
use Rattle.al_kinds_laws.proofs.Taking.{shut_int, functions_obey}

module _ (typed : Typed) (input : List ℤ) (p : IsProgram typed input) where
  abbrev pub shut : ℕ → Bool
  shut = is_shut typed

  abbrev pub taken : ℕ → Bool
  taken k = not (is_shut typed k)

  abbrev pub F : Fineness
  F = kept_by shut

  abbrev pub rules : Rules
  rules = outer_rules taken has_64_bits

  abbrev pub results : List (Option Kind)
  results = p.formed.results

  pub numbers_of : FineNumbers F rules input
  numbers_of =
      fine_numbers F (λ n f. f) (λ n f. f) rules input fits_64 (fine_input_at F (λ n f. f) input p.numbers.input_numbers) p.numbers.input_length

  not_false : (b : Bool) → not b ≡ true → b ≡ false
  not_false true e = absurd (true≢false (sym e))
  not_false false e = refl

  scalar_int : (g : Option TGlobal) → is_int_global g ≡ true → scalar_of g ≡ Some kind.Int
  scalar_int (Some g) e = some_int g.scalar e
    where
      some_int : (k : Option Kind) → is_some_kind k kind.Int ≡ true → k ≡ Some kind.Int
      some_int (Some kind.Int) e = refl
      some_int (Some kind.Ptr) e = absurd (true≢false (sym e))
      some_int None e = absurd (true≢false (sym e))
  scalar_int None e = absurd (true≢false (sym e))

  pub globals_of : Globals F typed taken shut
  globals_of = record {
    taken_fine = λ k t. not_false (shut k) t;
    shut_scalar = λ k s. scalar_int (slice_get typed.globals k) (shut_int typed k s);
    shut_apart = λ k s o. true≢false (sym s ∙ o);
  }

  -- the functions of the program
  pub program_of : (Stands : ℕ → ℕ → Type 0) → {S T : Type 0} (U : S → Type 0) (R : S → T → Type 0) (Good : S → Type 0)
      → ((f : ℕ) (func : TFunc) → slice_get typed.funcs f ≡ Some func → AllByRecursion (λ l. Stands f l.number) (for_loops_in func.body))
      → Program F zero_fits U R Good typed results taken has_64_bits Stands
  program_of Stands U R Good stand = record {
    formed = p.formed.funcs;
    obeys = λ f func is. functions_obey typed f func is (ap (λ g. stmts_obey in_range (body_of g)) (sym is) ∙ p.numbers.code f);
    whole = p.whole;
    loops = stand;
  }

-- ---- iterations

any_loop : (ls : List ForLoop) → AllByRecursion (λ l. Unit {0}) ls
any_loop [] = tt
any_loop (l ∷ ls) = (tt, any_loop ls)

module _ (x : Execution) (p : IsProgram x.typed x.input) (locals : List TLocal) (result : Option Kind)
    (body : GoodBody x.typed (results x.typed x.input p) locals result (rules x.typed x.input p) x.loop.body)
    (enough : length locals ≤ x.loop.locals) (counters : (j : ℕ) → j < x.trips → FitsSigned w64 (x.lo +ℤ pos j)) where
  module _ (reds : List Red) (variables : AreVariables zero_fits (is_shut x.typed) locals reds) where
    abbrev closed : ℕ → Bool
    closed = shut x.typed x.input p

    abbrev G : Fineness
    G = F x.typed x.input p

    abbrev Known : Content → Type 0
    Known = Kept zero_fits closed locals reds

    abbrev Same : Content → Content → Type 0
    Same s t = s ≡ t

    abbrev Any_end : Content → Type 0
    Any_end s = Unit {0}

    abbrev own : Private
    own = Own x.loop.info.counter x.loop.info.first x.loop.info.last

    works : {A : Type 0} (P : A → Type 0) (f : Content → Result A Trap × Content) → Keeps zero_fits closed locals reds P f
        → Works G zero_fits Known Same Any_end P f f
    works P f h = record { sane = h; back = λ s u e. tt; by = λ s t u e g. (ap (λ z. (f z).0) e, ap (λ z. (f z).1) e) }

    abbrev Here : Private → List TLocal → Type 0
    Here side inner = Worlds G zero_fits Known Same Any_end in_iteration in_iteration closed side inner (λ l. Unit {0})

    -- with what is known of the locals that iterations share
    worlds_by : (side : Private) (inner : List TLocal)
        → ((k : ℕ) → is_private side k ≡ false → Works G zero_fits Known Same Any_end (Says G (is_int_local inner k)) (in_iteration.load (Local k) kind.Int)
        (in_iteration.load (Local k) kind.Int))
        → ((k : ℕ) (v : Val) → is_private side k ≡ false → Says G (is_int_local inner k) v
        → Works G zero_fits Known Same Any_end {A = Unit {0}} Any (in_iteration.store (Local k) v) (in_iteration.store (Local k) v)) → Here side inner
    worlds_by side inner l s = record {
      load_local = l;
      store_local = s;
      load = λ o i k. works (Says G _) (in_iteration.load (Word o i) k) (load_word zero_fits closed locals reds variables o i k);
      store = λ o i v f n. works {A = Unit {0}} Any (in_iteration.store (Word o i) v) (store_word zero_fits closed locals reds variables o i v f n);
      make = λ words. works G.obj (in_iteration.make words) (make_kept zero_fits closed locals reds variables words);
      free = λ o i f. works {A = Unit {0}} Any (in_iteration.free o i) (free_kept zero_fits closed locals reds variables o i);
      print = λ bytes. works {A = Unit {0}} Any (λ c. (Ok tt, in_iteration.print bytes c)) (print_kept zero_fits closed locals reds variables bytes);
      visit = λ loop lo hi vs _ f g k. record { sane = λ c u. (k, u); back = λ c u e. tt; by = λ c d u e _. (refl, e) };
    }

    in_function : (inner : List TLocal) → Here AllPrivate inner
    in_function inner = worlds_by AllPrivate inner (λ k e. absurd (true≢false e)) (λ k v e. absurd (true≢false e))

    in_body : Here own locals
    in_body =
        worlds_by own locals (λ k e. works (Says G (is_int_local locals k)) (in_iteration.load (Local k) kind.Int)
        (load_local zero_fits closed locals reds variables k))
        (λ k v e s. works {A = Unit {0}} Any (in_iteration.store (Local k) v) (store_local zero_fits closed locals reds variables k v s))

    abbrev kinded : Kinded in_iteration in_iteration G closed locals (λ l. Unit {0}) (Follows G zero_fits Known Same Any_end own locals)
    kinded = follows_kinded G zero_fits Known Same Any_end in_iteration in_iteration closed own locals (λ l. Unit {0}) in_body

    iterates : (j : ℕ) → j < x.trips → Follows G zero_fits Known Same Any_end own locals (Unit {0}) Any (iteration_does x j) (iteration_does x j)
    iterates j l =
        let call = call_to in_iteration Inside x.typed.funcs x.input calls_within in
        let calls = λ (f : ℕ) (func : TFunc) (vs : List Val) (line : ℕ).
        follows_call G zero_fits Known Same Any_end in_iteration in_iteration closed (taken x.typed x.input p) has_64_bits x.typed (results x.typed x.input p)
        (λ f l. Unit {0}) (program_of x.typed x.input p (λ f l. Unit {0}) Known Same Any_end (λ f func is. any_loop (for_loops_in func.body))) Inside x.input
        (numbers_of x.typed x.input p) (globals_of x.typed x.input p) (λ f func is. in_function func.locals) own locals calls_within f func vs line in
        kinded.of_bind (kinded.of_spend x.loop.info.line) (λ u _.
        kinded.of_bind (kinded.of_set_local x.loop.info.counter (Int (x.lo +ℤ pos j)) x.loop.info.line
        (says_number G (is_int_local locals x.loop.info.counter) _ (counters j l))) (λ u _.
        kinded.of_bind (kinded_execute in_iteration in_iteration G (taken x.typed x.input p) has_64_bits closed x.typed (results x.typed x.input p) locals
        (λ l. Unit {0}) (Follows G zero_fits Known Same Any_end own locals) kinded Inside x.input (numbers_of x.typed x.input p)
        (globals_of x.typed x.input p)
        call call calls result x.loop.body true body.formed body.obeys body.whole (any_loop (for_loops x.loop.body)))
        (λ flow _. kinded.of_pure tt tt)))

    left_known : {A : Type 0} (P : A → Type 0) (a : Answer A) (s : State Content) → Leaves G zero_fits Known Same Any_end own locals P a s → Known s.world
    left_known P (Ok a) s h = h.1.world
    left_known P (Err e) s h = h

    iteration_known : (j : ℕ) (c : Content) → j < x.trips → Known c → Known (iteration x j c).content
    unfolding iteration
    iteration_known j c l k =
        let s = iteration_from x j c in
        let r = iteration_does x j s in
        left_known Any r.0 r.1 ((iterates j l).sane s (record {
          own_is = refl;
          kinds = zero_kinds G zero_fits locals x.loop.locals enough;
          world = record { log = k.log; memory = k.memory };
        }))

    then_known : (r : Finished) (f : Content → Finished) → Known r.content → ((c : Content) → Known c → Known (f c).content) → (e : Ending)
        → Known (then_by e r f).content
    then_known r f k more ending.Done = more r.content k
    then_known r f k more (ending.Trap t line) = k

    iterations_known : (n j : ℕ) (c : Content) → j + n ≤ x.trips → Known c → Known (iterations x n j c).content
    iterations_known zero j c l k = k
    iterations_known (suc n) j c l k =
        then_known (iteration x j c) (iterations x n (suc j)) (iteration_known j c (omega arith) k)
        (λ d g. iterations_known n (suc j) d (omega arith) g) (iteration x j c).ending

    lower : (a b : ℕ) → nat_le a b ≡ true → a ≤ b
    lower a b e = grind arith

    none : (a b : ℕ) → nat_le a b ≡ false → 0 ≡ b - a
    none a b e = grind arith

    pub chunk_known : (c : ℕ) (d : Content) → Known d → Known (chunk_runs x c d).content
    chunk_known c d k =
        elim (nat_le (chunk_start x c) (chunk_end x c)) as (λ z. nat_le (chunk_start x c) (chunk_end x c) ≡ z → Known (chunk_runs x c d).content) [
          | true ↦ λ e. iterations_known (chunk_trips x c) (chunk_start x c) d (omega (arith, lower _ _ e)) k
          | false ↦ λ e. subst (λ n. Known (iterations x n (chunk_start x c) d).content) (none _ _ e) k
        ] refl

  abbrev Plain : Content → Type 0
  Plain = Kept zero_fits (shut x.typed x.input p) locals []

  plain_chunk : (c : ℕ) (d : Content) → Plain d → Plain (chunk_runs x c d).content
  plain_chunk = chunk_known [] (no_variables zero_fits (is_shut x.typed) locals)

  at_start : (m : Memory) → KeptMemory zero_fits (shut x.typed x.input p) locals m → Plain (direct x m)
  at_start m k = record { log = tt; memory = k }

  then_plain : (r : Finished) (f : Content → Finished) → Plain r.content → ((c : Content) → Plain c → Plain (f c).content) → (e : Ending)
      → Plain (then_by e r f).content
  then_plain = then_known [] (no_variables zero_fits (is_shut x.typed) locals)

  chunks_known : (cs : List ℕ) (d : Content) → Plain d → Plain (chunks_run x cs d).content
  chunks_known [] d k = k
  chunks_known (c ∷ cs) d k = then_plain (chunk_runs x c d) (chunks_run x cs) (plain_chunk c d k) (λ d g. chunks_known cs d g) (chunk_runs x c d).ending

  pub serial_known : (cs : List ℕ) (m : Memory) → KeptMemory zero_fits (shut x.typed x.input p) locals m
      → KeptMemory zero_fits (shut x.typed x.input p) locals (serial x cs m).content.memory
  unfolding serial
  serial_known cs m k = (chunks_known cs (direct x m) (at_start m k)).memory

  pub plain_known : (m : Memory) → KeptMemory zero_fits (shut x.typed x.input p) locals m
      → KeptMemory zero_fits (shut x.typed x.input p) locals (plain_loop x m).content.memory
  unfolding plain_loop
  plain_known m k =
      (iterations_known [] (no_variables zero_fits (is_shut x.typed) locals) x.trips 0 (direct x m) (omega arith) (at_start m k)).memory
