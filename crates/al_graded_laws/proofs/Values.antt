-- Every value that iterations meet has the sizes of its type.
use Rattle.std.proofs.Common.{◌≡◌, ℕ, zero, suc, ◌+◌, ◌-◌, ◌^◌, ◌<◌, ◌≤◌, List, [], ◌∷◌, map, length, Option, Some, None, true, false, refl, sym, ap, subst, ◌∙◌, arith, w64, FitsSigned}
use Rattle.std.specs.Prelude.{ℤ, pos, negsuc, ◌+ℤ◌, slice_get, nat_lt, nat_le}
use Rattle.std.specs.List.{AllByRecursion}
use Rattle.std.proofs.Math.Bool.{true≢false}
use Rattle.al_source.specs.declared.operators.RedOp.{RedOp}
use Rattle.al_source.specs.declared.operators.RedOp.TheVariants as red
use Rattle.al_core.specs.declared.choices.Red.{Red}
use Rattle.al_core.specs.declared.reports.Ending.{Ending}
use Rattle.al_core.specs.declared.reports.Ending.TheVariants as ending
use Rattle.al_core.specs.declared.values.Val.{Val}
use Rattle.al_core.specs.declared.values.Val.TheVariants.{Int, Ptr}
use Rattle.al_core.specs.declared.values.Addr.TheVariants.{Word, Local}
use Rattle.al_core.specs.Reductions.{red_identity}
use Rattle.al_core.specs.Values.{input_at, input_number}
use Rattle.al_core.specs.Memory.{Memory, word_in}
use Rattle.al_core.specs.Access.{AccessRecord, Content, in_iteration}
use Rattle.al_core.specs.Action.{AllPrivate, Own, Private, Act}
use Rattle.al_core.specs.Accepted.{terms, terms_of}
use Rattle.al_core.specs.Meaning.{Where, Inside, Flow, execute, body_of, call_to}
use Rattle.al_core.specs.World.{World}
use Rattle.al_core.specs.declared.typed_tree.TFunc.{TFunc}
use Rattle.al_core.specs.declared.typed_tree.TStmt.{TStmt}
use Rattle.al_core.specs.Iteration.{Execution, Finished, calls_within, iteration, iteration_does, iteration_from, then_by, iterations}
use Rattle.al_core.specs.Chunk.{chunk_start, chunk_end, chunk_trips, chunk_runs, chunk_from}
use Rattle.al_core.specs.Readiness.{IsObj, IsVal, HasValues}
use Rattle.al_core.specs.Serial.{direct, chunks_run, serial, plain_loop}
use Rattle.al_graded_laws.specs.Rules.{AnyFunction, stmt_obeys, stmts_obey}
use Rattle.al_graded_laws.specs.InRange.{has_64_bits, in_range, RunsInRange, AreSums, SeesValues, IterationsKeepValues, ChunksKeepValues, SerialKeepsValues, PlainKeepsValues}
use Rattle.al_graded_laws.proofs.Graded.{Fineness, Fine, FineAll, FineFlow, FineNumbers, OkIs, Any, Graded, may_call_all, graded_execute}
use Rattle.al_graded_laws.proofs.Numbers.{fine_numbers}
use Rattle.al_graded_laws.proofs.Steady.{fine_replicate, steady_graded, steady_call}
use Rattle.al_graded_laws.proofs.Alone.{Both, Anything, Does, KeepsWorld, alone_worlds}
use Rattle.al_graded_laws.proofs.Contents.{FineSums, FineObjects, Within, value_fine, load_keeps, store_keeps, make_keeps, free_keeps, print_keeps}

-- ---- fine is what has its sizes

abbrev pub sizes : Fineness
sizes = record { num = λ n. FitsSigned w64 n; obj = IsObj; at = λ o. Unit {0}; reach = λ o h. tt }

pub zero_fits : FitsSigned w64 (pos 0)
zero_fits = grind arith

pub is_val : (v : Val) → Fine sizes v → IsVal v
is_val (Int n) h = h
is_val (Ptr o w) h = h

pub fine_val : (v : Val) → IsVal v → Fine sizes v
fine_val (Int n) h = h
fine_val (Ptr o w) h = h

fine_list : (l : List Val) → ((k : ℕ) (v : Val) → slice_get l k ≡ Some v → IsVal v) → FineAll sizes l
fine_list [] h = tt
fine_list (v ∷ l) h = (fine_val v (h 0 v refl), fine_list l (λ k w e. h (suc k) w e))

pub fine_objects : (m : Memory) → HasValues m → FineObjects sizes zero_fits m
fine_objects m h o ws e = fine_list ws (λ k v t. h (Word o k) v (ap (λ z. word_in z k) e ∙ t))

pub fine_locals : (m : Memory) → HasValues m → FineAll sizes m.locals
fine_locals m h = fine_list m.locals (λ k v t. h (Local k) v t)

pub values_of : (m : Memory) → FineObjects sizes zero_fits m → FineAll sizes m.locals → HasValues m
values_of m h l a v e = is_val v (value_fine sizes zero_fits m a v h l e)

fine_sums_list : (l : List Val) → AllByRecursion IsVal l → FineAll sizes l
fine_sums_list [] h = tt
fine_sums_list (v ∷ l) h = (fine_val v h.0, fine_sums_list l h.1)

sums_list : (l : List Val) → FineAll sizes l → AllByRecursion IsVal l
sums_list [] h = tt
sums_list (v ∷ l) h = (is_val v h.0, sums_list l h.1)

fine_sums : (z : Option AccessRecord) → AreSums z → FineSums sizes zero_fits z
fine_sums (Some l) h = fine_sums_list l.accumulators h
fine_sums None h = tt

sums_of : (z : Option AccessRecord) → FineSums sizes zero_fits z → AreSums z
sums_of (Some l) h = sums_list l.accumulators h
sums_of None h = tt

-- ---- the numbers of a program

pub fits_64 : (n : ℤ) → has_64_bits n ≡ true → FitsSigned w64 n
fits_64 n e = grind arith

below : (k : ℕ) → nat_lt k (2 ^ 32) ≡ true → k < 2 ^ 32
below k e = grind arith

module _ (F : Fineness) (to : (n : ℤ) → FitsSigned w64 n → F.num n) where
  fine_input_number : (z : Option ℤ) → ((n : ℤ) → z ≡ Some n → FitsSigned w64 n) → OkIs (Fine F) (input_number z)
  fine_input_number (Some n) h = to n (h n refl)
  fine_input_number None h = tt

  -- what is read of an input whose numbers have 64 bits
  pub fine_input_at : (input : List ℤ) → ((i : ℕ) (n : ℤ) → slice_get input i ≡ Some n → FitsSigned w64 n) → (i : ℤ) → OkIs (Fine F) (input_at input i)
  fine_input_at input h (pos i) = fine_input_number (slice_get input i) (h i)
  fine_input_at input h (negsuc i) = tt

module _ (input : List ℤ) (read : (i : ℕ) (n : ℤ) → slice_get input i ≡ Some n → FitsSigned w64 n) (count : FitsSigned w64 (pos (length input))) where
  pub program_numbers : FineNumbers sizes in_range input
  program_numbers = fine_numbers sizes (λ n f. f) (λ n f. f) in_range input fits_64 (fine_input_at sizes (λ n f. f) input read) count

-- ---- iterations

pub keeps_values : KeepsWorld sizes zero_fits (Within sizes zero_fits) in_iteration in_range
keeps_values = record {
  global = λ k e. tt;
  taken = below;
  load = load_keeps sizes zero_fits;
  store = store_keeps sizes zero_fits;
  make = make_keeps sizes zero_fits;
  free = free_keeps sizes zero_fits;
  print = print_keeps sizes zero_fits;
  visit = λ loop lo hi locals f g h. record { by = λ c w. (h, w) };
}

-- a statement of a program, and its calls, in a world that keeps values
module _ {S : Type 0} (v : World S) (here : Where) (funcs : List TFunc) (input : List ℤ) (n : FineNumbers sizes in_range input)
    (bodies : (f : ℕ) → stmts_obey in_range (body_of (slice_get funcs f)) ≡ true) (U : S → Type 0) (k : KeepsWorld sizes zero_fits U v in_range) where
  abbrev pub Runs : (own : Private) (A : Type 0) → (A → Type 0) → Act S A → Act S A → Type 0
  Runs = Does sizes zero_fits U

  pub run_graded : (own : Private) → Graded v v sizes in_range (Runs own)
  run_graded own =
      steady_graded sizes zero_fits (Both sizes zero_fits U) (Anything sizes zero_fits U) (λ s. tt) (λ r s t e f. tt) v v own in_range
      (alone_worlds sizes zero_fits U own v in_range k)

  pub run_call : (own : Private) (m f : ℕ) (args : List Val) (line : ℕ) → FineAll sizes args
      → Runs own Val (Fine sizes) (call_to v here funcs input m f args line) (call_to v here funcs input m f args line)
  run_call own m f args line g =
      steady_call sizes zero_fits (Both sizes zero_fits U) (Anything sizes zero_fits U) (λ s. tt)
      (λ r s t e f. tt) v v in_range.global in_range.taken in_range.literal AnyFunction
      (alone_worlds sizes zero_fits U AllPrivate v in_range k) here funcs input n (λ f _. bodies f)
      (λ f _. may_call_all (terms_of (body_of (slice_get funcs f)))) own m f args line tt g

  pub run_statement : (own : Private) (m : ℕ) (d : TStmt) → stmt_obeys in_range d ≡ true
      → Runs own Flow (FineFlow sizes) (execute v here input (call_to v here funcs input m) d) (execute v here input (call_to v here funcs input m) d)
  run_statement own m d o =
      graded_execute v v sizes in_range (Runs own) (run_graded own) here input n (call_to v here funcs input m) (call_to v here funcs input m)
      (λ f vs line _ g. run_call own m f vs line g)
      (record {
        set = λ k e line t _. absurd (true≢false (sym t));
        store = λ p e line t _ _. absurd (true≢false (sym t));
        update = λ op k e line t _. absurd (true≢false (sym t));
        update_at = λ op p e line t _ _. absurd (true≢false (sym t));
      }) d o (may_call_all (terms d))

-- ---- iterations, one after another

lower : (a b : ℕ) → nat_le a b ≡ true → a ≤ b
lower a b e = grind arith

none : (a b : ℕ) → nat_le a b ≡ false → 0 ≡ b - a
none a b e = grind arith

identity_fits : (op : RedOp) → FitsSigned w64 (red_identity op)
identity_fits red.Add = grind arith
identity_fits red.Mul = grind arith
identity_fits red.Min = grind arith
identity_fits red.Max = grind arith
identity_fits red.BitAnd = grind arith
identity_fits red.BitOr = grind arith
identity_fits red.BitXor = grind arith

identities : (reds : List Red) → FineAll sizes (map (λ r. Int (red_identity r.op)) reds)
identities [] = tt
identities (r ∷ reds) = (identity_fits r.op, identities reds)

-- what is known of the values between iterations
pub record Between (c : Content) : Type 0 where
  pub objects : FineObjects sizes zero_fits c.memory
  pub locals : FineAll sizes c.memory.locals
  pub sums : FineSums sizes zero_fits c.accesses

pub between : (c : Content) → SeesValues c → Between c
between c h = record { objects = fine_objects c.memory h.memory; locals = fine_locals c.memory h.memory; sums = fine_sums c.accesses h.sums }

pub sees : (c : Content) → Between c → SeesValues c
sees c b = record { memory = values_of c.memory b.objects b.locals; sums = sums_of c.accesses b.sums }

module _ (x : Execution) (h : RunsInRange x) where
  abbrev own : Private
  own = Own x.loop.info.counter x.loop.info.first x.loop.info.last

  abbrev fit : FineNumbers sizes in_range x.input
  fit = program_numbers x.input h.program.input_numbers h.program.input_length

  abbrev Iterates : (A : Type 0) → (A → Type 0) → Act Content A → Act Content A → Type 0
  Iterates = Runs in_iteration Inside x.typed.funcs x.input fit h.program.code (Within sizes zero_fits) keeps_values own

  iterates : (j : ℕ) → j < x.trips → Iterates (Unit {0}) Any (iteration_does x j) (iteration_does x j)
  iterates j l =
      let g = run_graded in_iteration Inside x.typed.funcs x.input fit h.program.code (Within sizes zero_fits) keeps_values own in
      g.of_bind (g.of_spend x.loop.info.line)
      (λ u _. g.of_bind (g.of_set_local x.loop.info.counter (Int (x.lo +ℤ pos j)) x.loop.info.line refl (h.counters j l))
      (λ u _. g.of_bind (run_statement in_iteration Inside x.typed.funcs x.input fit h.program.code
      (Within sizes zero_fits) keeps_values own calls_within x.loop.body h.body) (λ flow _. g.of_pure tt tt)))

  iteration_between : (j : ℕ) (c : Content) → j < x.trips → Between c → Between (iteration x j c).content
  unfolding iteration
  iteration_between j c l b =
      let w : Within sizes zero_fits (iteration_from x j c).world = record {
        objects = b.objects;
        locals = b.locals;
        sums = b.sums;
        counted = omega arith;
        named = λ k s. (h.number, omega (arith, l, h.trips), omega (arith, s));
      } in
      let e = (iterates j l).by (iteration_from x j c) (iteration_from x j c) (record {
        frame = refl;
        own_is = refl;
        locals = fine_replicate sizes x.loop.locals zero_fits;
        budget = refl;
        world = (refl, w);
      }) in
      record { objects = e.world.1.objects; locals = e.world.1.locals; sums = e.world.1.sums }

  then_between : (r : Finished) (f : Content → Finished) → Between r.content → ((c : Content) → Between c → Between (f c).content) → (e : Ending)
      → Between (then_by e r f).content
  then_between r f b more ending.Done = more r.content b
  then_between r f b more (ending.Trap t line) = b

  iterations_between : (n j : ℕ) (c : Content) → j + n ≤ x.trips → Between c → Between (iterations x n j c).content
  iterations_between zero j c l b = b
  iterations_between (suc n) j c l b =
      then_between (iteration x j c) (iterations x n (suc j)) (iteration_between j c (omega arith) b)
      (λ d g. iterations_between n (suc j) d (omega arith) g) (iteration x j c).ending

  -- a chunk of no trips runs nothing, and any other ends where the loop ends or before
  chunk_between : (c : ℕ) (d : Content) → Between d → Between (chunk_runs x c d).content
  chunk_between c d b =
      elim (nat_le (chunk_start x c) (chunk_end x c)) as (λ z. nat_le (chunk_start x c) (chunk_end x c) ≡ z → Between (chunk_runs x c d).content) [
        | true ↦ λ e. iterations_between (chunk_trips x c) (chunk_start x c) d (omega (arith, lower _ _ e)) b
        | false ↦ λ e. subst (λ n. Between (iterations x n (chunk_start x c) d).content) (none _ _ e) b
      ] refl

  chunks_between : (cs : List ℕ) (d : Content) → Between d → Between (chunks_run x cs d).content
  chunks_between [] d b = b
  chunks_between (c ∷ cs) d b = then_between (chunk_runs x c d) (chunks_run x cs) (chunk_between c d b) (λ d g. chunks_between cs d g) (chunk_runs x c d).ending

  direct_between : (m : Memory) → HasValues m → Between (direct x m)
  direct_between m v = record { objects = fine_objects m v; locals = fine_locals m v; sums = tt }

  serial_values : (cs : List ℕ) (m : Memory) → HasValues m → HasValues (serial x cs m).content.memory
  unfolding serial
  serial_values cs m v = (sees _ (chunks_between cs (direct x m) (direct_between m v))).memory

  plain_values : (m : Memory) → HasValues m → HasValues (plain_loop x m).content.memory
  unfolding plain_loop
  plain_values m v = (sees _ (iterations_between x.trips 0 (direct x m) (omega arith) (direct_between m v))).memory

  chunk_values : (reds : List Red) (m : Memory) (c : ℕ) → HasValues m → SeesValues (chunk_runs x c (chunk_from x reds m c)).content
  chunk_values reds m c v =
      sees _ (chunk_between c (chunk_from x reds m c) (record { objects = fine_objects m v; locals = fine_locals m v; sums = identities reds }))

pub iterations_keep_values : IterationsKeepValues
iterations_keep_values x h n j c l s = sees _ (iterations_between x h n j c l (between c s))

pub chunks_keep_values : ChunksKeepValues
chunks_keep_values x h = chunk_values x h

pub serial_keeps_values : SerialKeepsValues
serial_keeps_values x h = serial_values x h

pub plain_keeps_values : PlainKeepsValues
plain_keeps_values x h = plain_values x h
