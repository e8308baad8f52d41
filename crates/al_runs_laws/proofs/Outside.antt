-- What code outside iterations keeps, and a run in other modes that is like it, loop by loop.
use Rattle.std.proofs.Common.{◌≡◌, ℕ, ◌+◌, ◌<◌, ◌≤◌, List, [], ◌++◌, Some, Bool, sym, ap, subst, arith, w64, FitsSigned}
use Rattle.std.specs.Prelude.{ℤ, pos, ◌+ℤ◌}
use Rattle.std.specs.Int.{int_max}
use Rattle.std.proofs.lemmas.List.{length-set}
use Rattle.al_core.specs.declared.reports.Ending.{Ending}
use Rattle.al_core.specs.declared.reports.Ending.TheVariants as ending
use Rattle.al_core.specs.declared.values.Obj.{Obj}
use Rattle.al_core.specs.declared.values.Obj.TheVariants.{Global, Serial, Iter}
use Rattle.al_core.specs.declared.values.Val.{Val}
use Rattle.al_core.specs.declared.values.Val.TheVariants.{Int}
use Rattle.al_core.specs.declared.typed_tree.TLocal.{TLocal}
use Rattle.al_core.specs.Memory.{Memory}
use Rattle.al_core.specs.Access.{Outer, Content}
use Rattle.al_core.specs.Action.{Answer}
use Rattle.al_core.specs.Loops.{Loop, loop_at}
use Rattle.al_core.specs.Iteration.{Execution}
use Rattle.al_core.specs.Lockstep.{lockstep}
use Rattle.al_core.specs.Run.{Setting, Mode, Plainly, InRounds, InChunks, Whole, LoopResult, by_mode, after_loop, come_back, execution, at_loop, run_loop}
use Rattle.al_laws.specs.Names.{HasOnly}
use Rattle.al_laws.proofs.Naming.{mode_only}
use Rattle.al_laws.proofs.Words.{some_none}
use Rattle.al_rules.specs.WellFormed.{is_int_local}
use Rattle.al_graded_laws.proofs.Graded.{Fineness}
use Rattle.al_graded_laws.proofs.Values.{zero_fits}
use Rattle.al_rounds_laws.specs.Loops.{LoopEnd}
use Rattle.al_kinds_laws.specs.Programs.{IsProgram}
use Rattle.al_kinds_laws.specs.Whole.{is_shut}
use Rattle.al_kinds_laws.proofs.Kinded.{Says, says_number}
use Rattle.al_kinds_laws.proofs.Following.{FrameKinds, each_set, Visits, Handed}
use Rattle.al_kinds_laws.proofs.KeptKinds.{kept_by, KeptMemory, Kept}
use Rattle.al_kinds_laws.proofs.KindedIterations.{numbers_of}
use Rattle.al_runs_laws.specs.Modes.{AreAllowed}
use Rattle.al_runs_laws.proofs.Events.{Below, below_both, below_rounds, below_next}
use Rattle.al_runs_laws.proofs.ProgramLoops.{loop_facts}
use Rattle.al_runs_laws.proofs.LoopsInRounds.{IsBefore, loop_keeps}

-- what an execution comes to, but for its counts
abbrev pub result_end : LoopResult → LoopEnd
result_end r = record { memory = r.memory; printed = r.printed; ending = r.ending }

module _ (g : Setting) (p : IsProgram g.typed g.input) where
  abbrev pub shut : ℕ → Bool
  shut = is_shut g.typed

  abbrev pub F : Fineness
  F = kept_by shut

  -- what is known between the operations of code outside iterations
  pub record OuterSane (w : Whole) : Type 0 where
    pub known : Kept zero_fits shut [] [] w.content
    pub allocator : w.content.allocations.allocator ≡ Outer
    pub names : HasOnly (IsBefore w.executions) w.content.memory
    pub events : Below w.executions w.counts.events

  pub record SameOutside (w u : Whole) : Type 0 where
    pub content : w.content ≡ u.content
    pub executions : w.executions ≡ u.executions

  -- ---- names

  more_begun : (n m : ℕ) (o : Obj) → n ≤ m → IsBefore n o → IsBefore m o
  more_begun n m (Global k) l h = tt
  more_begun n m (Serial k) l h = tt
  more_begun n m (Iter e j k) l h = omega (arith, l, h)

  -- ---- executions

  -- the kinds of a frame are those of the memory at the loop
  kept_at_loop : (locals : List TLocal) (c : Content) (vs : List Val) → Kept zero_fits shut [] [] c → FrameKinds F zero_fits locals vs
      → KeptMemory zero_fits shut locals (at_loop c vs)
  kept_at_loop locals c vs k f = record { objects = k.memory.objects; locals = f; shuts = k.memory.shuts }

  module _ (modes : ℕ → ℕ → Mode) (Good : Whole → Type 0) where
    abbrev pub other : Setting
    other = record g { modes = modes }

    -- what makes the other run like this one, execution by execution
    pub record Matching : Type 0 where
      pub content : (w : Whole) (c : Content) → Good (record w { content = c }) → Good w
      pub before : (number : ℕ) (l : Loop) (lo hi : ℤ) (n : ℕ) (vs : List Val) (w : Whole) → loop_at g.typed number ≡ Some l → OuterSane w
          → Good (run_loop g (execution g l w.executions lo n) hi vs w).1 → Good w
      pub same : (number : ℕ) (l : Loop) (lo hi : ℤ) (n : ℕ) (vs : List Val) (w : Whole) (at : loop_at g.typed number ≡ Some l)
          → ((j : ℕ) → j < n → FitsSigned w64 (lo +ℤ pos j)) → OuterSane w
          → KeptMemory zero_fits shut (loop_facts g.typed g.input p number l at).func.locals (at_loop w.content vs)
          → Good (run_loop g (execution g l w.executions lo n) hi vs w).1
          → result_end (by_mode (execution g l w.executions lo n) g.sizes.lanes (at_loop w.content vs) (g.modes l.info.number w.executions))
          ≡ result_end (by_mode (execution g l w.executions lo n) g.sizes.lanes (at_loop w.content vs) (modes l.info.number w.executions))

    module _ (fits : AreAllowed g) (matching : Matching) where
      abbrev Visited : List TLocal → (Whole → Answer (List Val) × Whole) → (Whole → Answer (List Val) × Whole) → Type 0
      Visited = Visits F zero_fits OuterSane SameOutside Good

      -- coming back from a loop
      same_back : (x : Execution) (hi : ℤ) (w u : Whole) (r q : LoopResult) → result_end r ≡ result_end q → SameOutside w u
          → ((come_back x hi w r).0 ≡ (come_back x hi u q).0) × SameOutside (come_back x hi w r).1 (come_back x hi u q).1
      same_back x hi w u r q s o = (
        (λ i. after_loop x hi (s i).ending (s i).memory.locals),
        record {
          content = λ i. record (o.content i) {
            memory = record { objects = (s i).memory.objects; locals = [] };
            printed = (o.content i).printed ++ (s i).printed;
          };
          executions = ap (λ n. n + 1) o.executions;
        },
      )

      after_kinds : (locals : List TLocal) (x : Execution) (hi : ℤ) (e : Ending) (vs : List Val) → FitsSigned w64 x.lo → FitsSigned w64 hi
          → FrameKinds F zero_fits locals vs → Handed F zero_fits OuterSane SameOutside Good locals (after_loop x hi e vs)
      after_kinds locals x hi ending.Done vs f k h =
          let counter = x.loop.info.counter in
          let end = Int (int_max x.lo hi) in
          let says = says_number F (is_int_local locals counter) _ ((numbers_of g.typed g.input p).greater x.lo hi f k) in
          (omega (arith, h.0, length-set vs counter end), each_set (λ k v. Says F (is_int_local locals k) v) vs counter end says h.1)
      after_kinds locals x hi (ending.Trap t line) vs f k h = tt

      -- the events that an execution adds
      added_below : (x : Execution) (m : Memory) (mode : Mode) → Below (x.number + 1) (by_mode x g.sizes.lanes m mode).counts.events
      added_below x m Plainly = tt
      added_below x m (InRounds choice) = (omega arith, below_rounds (x.number + 1) (lockstep x choice g.sizes.lanes m).rounds)
      added_below x m (InChunks cs) = tt

      own_names : (n e j k : ℕ) → e < n → IsBefore n (Iter e j k)
      own_names n e j k l = l

      module _ (number : ℕ) (l : Loop) (at : loop_at g.typed number ≡ Some l) (lo hi : ℤ) (n : ℕ) (vs : List Val)
          (counters : (j : ℕ) → j < n → FitsSigned w64 (lo +ℤ pos j)) (low : FitsSigned w64 lo) (high : FitsSigned w64 hi)
          (kinds : FrameKinds F zero_fits (loop_facts g.typed g.input p number l at).func.locals vs) where
        abbrev locals : List TLocal
        locals = (loop_facts g.typed g.input p number l at).func.locals

        abbrev run : Whole → Execution
        run w = execution g l w.executions lo n

        abbrev mode_at : Whole → Mode
        mode_at w = g.modes l.info.number w.executions

        abbrev comes : Whole → LoopResult
        comes w = by_mode (run w) g.sizes.lanes (at_loop w.content vs) (mode_at w)

        kept_after : (w : Whole) → OuterSane w → KeptMemory zero_fits shut locals (comes w).memory
        kept_after w o =
            loop_keeps g p number l at w.executions lo n counters (at_loop w.content vs) (mode_at w) (fits number l w.executions at)
            (kept_at_loop locals w.content vs o.known kinds)

        sane_after : (w : Whole) → OuterSane w → OuterSane (run_loop g (run w) hi vs w).1
        sane_after w o =
            let k = kept_after w o in
            record {
              known = record {
                log = o.known.log;
                memory = record { objects = k.objects; locals = (omega arith, λ j v e. absurd (some_none v (sym e))); shuts = k.shuts };
              };
              allocator = o.allocator;
              names = mode_only (IsBefore (w.executions + 1)) (run w) (λ j k _ _. own_names (w.executions + 1) w.executions j k (omega arith)) g.sizes.lanes
                  (at_loop w.content vs) (mode_at w) (λ q t. more_begun w.executions (w.executions + 1) q (omega arith) (o.names q t));
              events = below_both (w.executions + 1) w.counts.events (comes w).counts.events (below_next w.executions w.counts.events o.events)
                  (added_below (run w) (at_loop w.content vs) (mode_at w));
            }

        pub loop_visited : Visited locals (λ w. run_loop g (run w) hi vs w) (λ u. run_loop other (execution other l u.executions lo n) hi vs u)
        loop_visited = record {
          sane = λ w o. (after_kinds locals (run w) hi (comes w).ending (comes w).memory.locals low high (kept_after w o).locals, sane_after w o);
          back = λ w o b. matching.before number l lo hi n vs w at o b;
          by = λ w u o same b.
              let q = matching.same number l lo hi n vs w at counters o (kept_at_loop locals w.content vs o.known kinds) b in
              subst (λ e. ((run_loop g (run w) hi vs w).0 ≡ (run_loop other (execution other l e lo n) hi vs u).0)
              × SameOutside (run_loop g (run w) hi vs w).1 (run_loop other (execution other l e lo n) hi vs u).1) same.executions
              (subst (λ c. ((run_loop g (run w) hi vs w).0
              ≡ (come_back (run w) hi u (by_mode (run w) g.sizes.lanes (at_loop c vs) (modes l.info.number w.executions))).0)
              × SameOutside (run_loop g (run w) hi vs w).1
              (come_back (run w) hi u (by_mode (run w) g.sizes.lanes (at_loop c vs) (modes l.info.number w.executions))).1) same.content
              (same_back (run w) hi w u (comes w) _ q same));
        }
