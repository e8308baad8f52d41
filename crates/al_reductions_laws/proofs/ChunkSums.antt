-- A chunk with reductions, on a memory that is ready for it, comes to its direct run.
use Rattle.std.proofs.Common.{◌≡◌, ℕ, zero, suc, ◌+◌, ◌-◌, ◌*◌, ◌<◌, ◌≤◌, List, [], ◌∷◌, Option, Some, None, true, false, refl, sym, ap, subst, ◌∙◌, arith, w64, FitsSigned}
use Rattle.std.specs.Prelude.{ℤ, pos, ◌+ℤ◌, is_some, map, slice_get}
use Rattle.std.proofs.Math.Nat.{min-le_right}
use Rattle.al_source.specs.declared.operators.RedOp.{RedOp}
use Rattle.al_source.specs.declared.operators.RedOp.TheVariants as red
use Rattle.al_core.specs.declared.choices.Red.{Red}
use Rattle.al_core.specs.declared.reports.Ending.{Ending}
use Rattle.al_core.specs.declared.reports.Ending.TheVariants as ending
use Rattle.al_core.specs.declared.values.Val.{Val}
use Rattle.al_core.specs.declared.values.Val.TheVariants.{Int}
use Rattle.al_core.specs.declared.values.Addr.{Addr}
use Rattle.al_core.specs.declared.values.Addr.TheVariants.{Word}
use Rattle.al_core.specs.declared.values.Obj.TheVariants.{Iter}
use Rattle.al_core.specs.Reductions.{red_identity, red_apply}
use Rattle.al_core.specs.Memory.{Memory, value_at}
use Rattle.al_core.specs.Access.{Allocations, AccessRecord, Content, nothing_made, red_index, name_of, in_iteration}
use Rattle.al_core.specs.Action.{AllPrivate, Own, Private, At}
use Rattle.al_core.specs.Accepted.{terms, terms_of}
use Rattle.al_core.specs.Meaning.{Inside, call_to, body_of}
use Rattle.al_core.specs.Iteration.{Execution, Finished, calls_within, ending_of, iteration, iteration_does, iteration_from, then_by, then_runs, iterations}
use Rattle.al_core.specs.Chunk.{fresh_accesses, chunk_start, chunk_trips, chunk_runs, chunk_from, sum_of, outcome_of, outcome}
use Rattle.al_core.specs.Readiness.{IsFresh}
use Rattle.al_core.specs.Applied.{with_sums, applied}
use Rattle.al_core.specs.Serial.{direct}
use Rattle.al_laws.specs.DirectRuns.{RunsAs}
use Rattle.al_laws.proofs.Joining.{is_commutative, has_identity, stays_in_range}
use Rattle.al_laws.proofs.Words.{same_some, some_none}
use Rattle.al_laws.proofs.DirectRuns.{applied_is_private}
use Rattle.al_graded_laws.specs.Rules.{Rules, stmt_obeys, stmts_obey, MayCallIn}
use Rattle.al_graded_laws.proofs.Graded.{Graded, Fine, FineAll, FineNumbers, Any, Exempt, graded_execute}
use Rattle.al_graded_laws.proofs.Steady.{steady_graded, steady_call, in_functions, fine_replicate}
use Rattle.al_reductions_laws.proofs.Variables.{is_red}
use Rattle.al_reductions_laws.proofs.Sums.{apart, Sums, SameSums, Avoids, sums_worlds}
use Rattle.al_reductions_laws.proofs.Updates.{Strong, Weak}
use Rattle.al_reductions_laws.proofs.Joined.{AreApart, numbers_by, found_at, index_of, sums_joined}

identity_fits : (op : RedOp) → FitsSigned w64 (red_identity op)
identity_fits red.Add = grind arith
identity_fits red.Mul = grind arith
identity_fits red.Min = grind arith
identity_fits red.Max = grind arith
identity_fits red.BitAnd = grind arith
identity_fits red.BitOr = grind arith
identity_fits red.BitXor = grind arith

at_identity : (op : RedOp) (n : ℤ) → FitsSigned w64 n → red_apply op n (red_identity op) ≡ n
at_identity op n f = is_commutative op n (red_identity op) f (identity_fits op) ∙ has_identity op n f

-- the accumulator of a reduction at the start
gathered_at : (rs : List Red) (i : ℕ) (r : Red) → slice_get rs i ≡ Some r
    → slice_get (map (λ r. Int (red_identity r.op)) rs) i ≡ Some (Int (red_identity r.op))
gathered_at [] i r e = absurd (some_none r (sym e))
gathered_at (q ∷ rs) zero r e = ap (λ z. Some (Int (red_identity z.op))) (same_some q r e)
gathered_at (q ∷ rs) (suc i) r e = gathered_at rs i r e

abbrev pub own_of : Execution → Private
own_of x = Own x.loop.info.counter x.loop.info.first x.loop.info.last

module _ (zero_fits : FitsSigned w64 (pos 0)) (x : Execution) (reds : List Red) (olds : ℕ → ℤ) (r : Rules) where
  abbrev pub functions : Rules
  functions =
      in_functions (apart reds) zero_fits (Sums reds olds) (λ s t. Unit {0}) (λ s. tt) (λ r s t e f. tt) r.global r.taken r.literal r.called

  -- what the tree has to meet
  pub record Obeyed : Type 0 where
    pub avoids : Avoids reds olds (own_of x) r
    pub avoids_in_functions : Avoids reds olds AllPrivate functions
    pub numbers : FineNumbers (apart reds) r x.input
    pub numbers_in_functions : FineNumbers (apart reds) functions x.input
    pub bodies : (f : ℕ) → r.called f → stmts_obey functions (body_of (slice_get x.typed.funcs f)) ≡ true
    pub inside : (f : ℕ) → r.called f → MayCallIn r.called (terms_of (body_of (slice_get x.typed.funcs f)))
    pub body : stmt_obeys r x.loop.body ≡ true
    pub calls : MayCallIn r.called (terms x.loop.body)
    pub counter : r.local x.loop.info.counter ≡ true
    pub counters : (j : ℕ) → j < x.trips → FitsSigned w64 (x.lo +ℤ pos j)
    pub no_iter : (e j k w : ℕ) → is_red reds (Word (Iter e j k) w) ≡ false

  -- a memory that is ready for a chunk, where the reduction variables are these numbers
  pub record IsReadyFor (c : ℕ) (m : Memory) : Type 0 where
    pub fresh : IsFresh x m c
    pub values : (a : Addr) (v : Val) → value_at m a ≡ Some v → Fine (apart reds) v
    pub numbers : (a : Addr) (i : ℕ) → red_index reds a ≡ Some i → value_at m a ≡ Some (Int (olds i))

  module _ (h : Obeyed) where
    -- calls, with the accumulators kept, and without
    pub strong_calls : (m f : ℕ) (args : List Val) (line : ℕ) → r.called f → FineAll (apart reds) args
        → Strong reds olds zero_fits (own_of x) Val (Fine (apart reds)) (call_to in_iteration Inside x.typed.funcs x.input m f args line)
        (call_to in_iteration Inside x.typed.funcs x.input m f args line)
    strong_calls m f args line o g =
        steady_call (apart reds) zero_fits (Sums reds olds) SameSums (λ s. refl) (λ r s t e f. e ∙ f) in_iteration in_iteration
        r.global r.taken r.literal r.called
        (sums_worlds reds olds zero_fits SameSums (λ s. refl) (λ r s t e f. e ∙ f) (λ s t e. e) AllPrivate functions h.avoids_in_functions)
        Inside x.typed.funcs x.input h.numbers_in_functions h.bodies h.inside (own_of x) m f args line o g

    pub weak_calls : (m f : ℕ) (args : List Val) (line : ℕ) → r.called f → FineAll (apart reds) args
        → Weak reds olds zero_fits (own_of x) Val (Fine (apart reds)) (call_to in_iteration Inside x.typed.funcs x.input m f args line)
        (call_to in_iteration Inside x.typed.funcs x.input m f args line)
    weak_calls m f args line o g =
        steady_call (apart reds) zero_fits (Sums reds olds) (λ s t. Unit {0}) (λ s. tt) (λ r s t e f. tt) in_iteration in_iteration
        r.global r.taken r.literal r.called
        (sums_worlds reds olds zero_fits (λ s t. Unit {0}) (λ s. tt) (λ r s t e f. tt) (λ s t e. tt) AllPrivate functions h.avoids_in_functions)
        Inside x.typed.funcs x.input h.numbers_in_functions h.bodies h.inside (own_of x) m f args line o g

    abbrev pub weak_graded : Graded in_iteration in_iteration (apart reds) r (Weak reds olds zero_fits (own_of x))
    weak_graded =
        steady_graded (apart reds) zero_fits (Sums reds olds) (λ s t. Unit {0}) (λ s. tt) (λ r s t e f. tt) in_iteration in_iteration (own_of x) r
        (sums_worlds reds olds zero_fits (λ s t. Unit {0}) (λ s. tt) (λ r s t e f. tt) (λ s t e. tt) (own_of x) r h.avoids)

    abbrev pub body_calls : ℕ → List Val → At Content Val
    body_calls = call_to in_iteration Inside x.typed.funcs x.input calls_within

    abbrev pub ExemptHere : Type 0
    ExemptHere =
        Exempt in_iteration in_iteration (apart reds) r (Weak reds olds zero_fits (own_of x)) weak_graded Inside x.input h.numbers
        body_calls body_calls (weak_calls calls_within)

    module _ (exempt : ExemptHere) where
      iteration_related : (j : ℕ) → j < x.trips
          → Weak reds olds zero_fits (own_of x) (Unit {0}) Any (iteration_does x j) (iteration_does x j)
      iteration_related j l =
          weak_graded.of_bind (weak_graded.of_spend x.loop.info.line) (λ u _.
          weak_graded.of_bind (weak_graded.of_set_local x.loop.info.counter (Int (x.lo +ℤ pos j)) x.loop.info.line h.counter (h.counters j l)) (λ u _.
          weak_graded.of_bind (graded_execute in_iteration in_iteration (apart reds) r (Weak reds olds zero_fits (own_of x)) weak_graded Inside x.input
          h.numbers body_calls body_calls (weak_calls calls_within) exempt x.loop.body h.body h.calls) (λ flow _. weak_graded.of_pure tt tt)))

      -- ---- iterations

      abbrev some_names : Allocations
      some_names = nothing_made x.number 0

      abbrev named : Content → Allocations → Content
      named c a = record c { allocations = a }

      rename : (c d : Content) → Sums reds olds c d → (a : Allocations) → ((k : ℕ) → (apart reds).obj (name_of a.allocator k))
          → Sums reds olds (named c a) (named d a)
      rename c d k a n = record {
        accesses = k.accesses;
        is = k.is;
        reds_are = k.reds_are;
        none = k.none;
        allocations = refl;
        named = n;
        printed = k.printed;
        elsewhere = k.elsewhere;
        lengths = k.lengths;
        count = k.count;
        sums = k.sums;
        fine = k.fine;
      }

      -- between iterations, whatever names come
      abbrev Here : Content → Content → Type 0
      Here c d = Sums reds olds (named c some_names) (named d some_names)

      record SumsEnd (p q : Finished) : Type 0 where
        pub ending : p.ending ≡ q.ending
        pub steps : p.steps ≡ q.steps
        pub content : Here p.content q.content

      iteration_sums : (j : ℕ) → j < x.trips → (c d : Content) → Here c d → SumsEnd (iteration x j c) (iteration x j d)
      unfolding iteration
      iteration_sums j l c d k =
          let start = rename (named c some_names) (named d some_names) k (nothing_made x.number j) (λ i w. h.no_iter x.number j i w) in
          let e = (iteration_related j l).by (iteration_from x j c) (iteration_from x j d) (record {
            frame = refl;
            own_is = refl;
            locals = fine_replicate (apart reds) x.loop.locals zero_fits;
            budget = refl;
            world = start;
          }) in
          record {
            ending = ap ending_of e.answer;
            steps = ap (λ b. x.iter_steps - b) e.budget;
            content = rename _ _ e.world some_names (λ i w. h.no_iter x.number 0 i w);
          }

      then_sums : (e : Ending) (p q : Finished) (f : Content → Finished) → q.ending ≡ e → SumsEnd p q
          → ((c d : Content) → Here c d → SumsEnd (f c) (f d)) → SumsEnd (then_by e p f) (then_by e q f)
      then_sums ending.Done p q f e s k =
          let next = k p.content q.content s.content in
          record { ending = next.ending; steps = λ t. s.steps t + next.steps t; content = next.content }
      then_sums (ending.Trap t line) p q f e s k = s

      both_sums : (p q : Finished) (f : Content → Finished) → SumsEnd p q → ((c d : Content) → Here c d → SumsEnd (f c) (f d))
          → SumsEnd (then_runs p f) (then_runs q f)
      both_sums p q f s k = subst (λ e. SumsEnd (then_by e p f) (then_runs q f)) (sym s.ending) (then_sums q.ending p q f refl s k)

      iterations_sums : (n j : ℕ) → ((i : ℕ) → j ≤ i → i < j + n → i < x.trips) → (c d : Content) → Here c d
          → SumsEnd (iterations x n j c) (iterations x n j d)
      iterations_sums zero j l c d k = record { ending = refl; steps = refl; content = k }
      iterations_sums (suc n) j l c d k =
          both_sums (iteration x j c) (iteration x j d) (iterations x n (suc j)) (iteration_sums j (l j (omega arith) (omega arith)) c d k)
          (iterations_sums n (suc j) (λ i a b. l i (omega arith) (omega arith)))

      in_chunk : (c i : ℕ) → chunk_start x c ≤ i → i < chunk_start x c + chunk_trips x c → i < x.trips
      in_chunk c i g l = omega (arith, min-le_right ((c + 1) * x.factor) x.trips)

      sums_at_start : (m : Memory) (c : ℕ) → IsReadyFor c m → Here (chunk_from x reds m c) (direct x m)
      sums_at_start m c k = record {
        accesses = fresh_accesses reds;
        is = refl;
        reds_are = refl;
        none = refl;
        allocations = refl;
        named = λ i w. h.no_iter x.number 0 i w;
        printed = refl;
        elsewhere = λ a f. refl;
        lengths = λ o. refl;
        count = refl;
        sums = λ a i e.
            let q = found_at reds a i e in
            let number = k.numbers a i e in
            let fits = k.values a (Int (olds i)) number in
            record {
              red = q.0;
              stands = q.1;
              at = q.2;
              sum = red_identity q.0.op;
              was = number;
              gathered = gathered_at reds i q.0 q.1;
              now = number ∙ ap (λ n. Some (Int n)) (sym (at_identity q.0.op (olds i) fits));
              old_fits = fits;
              sum_fits = identity_fits q.0.op;
            };
        fine = λ a v f e. k.values a v e;
      }

      chunk_sums : (m : Memory) (c : ℕ) → IsReadyFor c m → SumsEnd (chunk_runs x c (chunk_from x reds m c)) (chunk_runs x c (direct x m))
      chunk_sums m c k = iterations_sums (chunk_trips x c) (chunk_start x c) (in_chunk c) (chunk_from x reds m c) (direct x m) (sums_at_start m c k)

      -- ---- the law

      sums_of_outcome : (r : Finished) (z : Option AccessRecord) (l : AccessRecord) → z ≡ Some l → (outcome_of r z).accumulators ≡ map sum_of l.accumulators
      sums_of_outcome r z l e = ap (λ z. (outcome_of r z).accumulators) e

      joined_memory : AreApart reds → (m : Memory) (c : ℕ) → IsReadyFor c m
          → applied reds m (outcome x reds m c) ≡ (chunk_runs x c (direct x m)).content.memory
      unfolding outcome
      joined_memory differ m c k =
          let r = chunk_runs x c (chunk_from x reds m c) in
          let d = (chunk_runs x c (direct x m)).content in
          let e = (chunk_sums m c k).content in
          applied_is_private x reds m c k.fresh
          ∙ ap (λ l. with_sums reds l r.content.memory) (sums_of_outcome r r.content.accesses e.accesses e.is)
          ∙ sums_joined reds olds differ (named r.content some_names) (named d some_names) e
          (numbers_by reds r.content.memory (λ i q g. (olds i, (e.sums q.at i (index_of reds i q differ g)).was)))

      record Tells (f : Finished) (z : Option AccessRecord) : Type 0 where
        pub printed : (outcome_of f z).printed ≡ f.content.printed
        pub ending : (outcome_of f z).ending ≡ f.ending
        pub steps : (outcome_of f z).steps ≡ f.steps

      tells : (r : Finished) (z : Option AccessRecord) → Tells r z
      tells r (Some l) = record { printed = refl; ending = refl; steps = refl }
      tells r None = record { printed = refl; ending = refl; steps = refl }

      pub runs_directly : AreApart reds → (c : ℕ) (m : Memory) → IsReadyFor c m → RunsAs reds m (outcome x reds m c) (chunk_runs x c (direct x m))
      unfolding outcome
      runs_directly differ c m k =
          let r = chunk_runs x c (chunk_from x reds m c) in
          let e = chunk_sums m c k in
          let t = tells r r.content.accesses in
          record {
            memory = joined_memory differ m c k;
            printed = t.printed ∙ e.content.printed;
            ending = t.ending ∙ e.ending;
            steps = t.steps ∙ e.steps;
          }

      by_red : (c d : Content) (e : Here c d) (a : Addr) (v : Val) (i : Option ℕ) → red_index reds a ≡ i → value_at d.memory a ≡ Some v
          → Fine (apart reds) v
      by_red c d e a v (Some i) f g =
          let s = e.sums a i f in
          subst (Fine (apart reds)) (same_some (Int (red_apply s.red.op (olds i) s.sum)) v (sym s.now ∙ g))
          (stays_in_range s.red.op (olds i) s.sum s.old_fits s.sum_fits)
      by_red c d e a v None f g = e.fine a v (ap is_some f) (e.elsewhere a (ap is_some f) ∙ g)

      -- after the chunk is committed every value is fine, and each reduction variable is a number
      pub values_after : AreApart reds → (c : ℕ) (m : Memory) → IsReadyFor c m → (a : Addr) (v : Val)
          → value_at (applied reds m (outcome x reds m c)) a ≡ Some v → Fine (apart reds) v
      values_after differ c m k a v e =
          by_red (chunk_runs x c (chunk_from x reds m c)).content (chunk_runs x c (direct x m)).content (chunk_sums m c k).content a v
          (red_index reds a) refl (ap (λ z. value_at z a) (sym (joined_memory differ m c k)) ∙ e)

      pub numbers_after : AreApart reds → (c : ℕ) (m : Memory) → IsReadyFor c m → (a : Addr) (i : ℕ) → red_index reds a ≡ Some i
          → (n : ℤ) × (value_at (applied reds m (outcome x reds m c)) a ≡ Some (Int n))
      numbers_after differ c m k a i e =
          let s = (chunk_sums m c k).content.sums a i e in
          (red_apply s.red.op (olds i) s.sum, ap (λ z. value_at z a) (joined_memory differ m c k) ∙ s.now)
