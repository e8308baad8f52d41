-- A machine's run of an iteration is the tree's iteration.
use Rattle.std.proofs.Common.{◌≡◌, ℕ, ◌-◌, List, Option, Some, Ok, Err, sym, ap, ◌∙◌, subst}
use Rattle.std.specs.Prelude.{slice_get, replicate, ℤ, pos, ◌+ℤ◌}
use Rattle.al_core.specs.declared.choices.LoopInfo.{LoopInfo}
use Rattle.al_core.specs.declared.reports.Ending.{Ending}
use Rattle.al_core.specs.declared.reports.Ending.TheVariants as ending
use Rattle.al_core.specs.declared.typed_tree.Typed.{Typed}
use Rattle.al_core.specs.declared.values.Trap.{Trap}
use Rattle.al_core.specs.declared.values.Val.{Val}
use Rattle.al_core.specs.declared.values.Val.TheVariants.{Int}
use Rattle.al_core.specs.Access.{Content, nothing_made, in_iteration}
use Rattle.al_core.specs.Action.{Own, State, Answer, Act, pure, spend, set_local, ◌>>=◌, ◌>>◌}
use Rattle.al_core.specs.Iteration.{Execution, calls_within, body_does, iteration_from, iteration}
use Rattle.al_core.specs.Loops.{Loop}
use Rattle.al_core.specs.Meaning.{Inside, returned}
use Rattle.al_laws.proofs.Words.{same_some}
use Rattle.al_code.specs.declared.lowered.Code.{Code}
use Rattle.al_code.specs.Machine.{at_start}
use Rattle.al_code.specs.Runs.{Stop, Ended, exec, exec_to_stop, from_iteration, ComesTo}
use Rattle.al_code.specs.Stands.{iteration_does}
use Rattle.al_code.specs.Valid.{IsValid}
use Rattle.al_code_laws.specs.Stops.{IsOver, EndsOnce, resumed}
use Rattle.al_code_laws.proofs.Ends.{runs_end_once}
use Rattle.al_code_laws.proofs.Resumed.{stops_go_on}
use Rattle.al_exec.specs.declared.machine.Machine.{Machine}
use Rattle.al_exec.specs.declared.stop.Stop.{Stop as Stopped}
use Rattle.al_exec.specs.declared.stop.Stop.TheVariants as stopped
use Rattle.al_exec.specs.Going.{begin_with, run_of, state_with, StopsAs}
use Rattle.al_exec.specs.Machines.{where_of}
use Rattle.al_exec.specs.Starts.{StartsIteration}
use Rattle.al_chunk.specs.declared.env.LoopEnv.{LoopEnv}
use Rattle.al_chunk.specs.Loops.{execution_of, StandsForLoop}
use Rattle.al_chunk.proofs.Once.{then_once, then_over, answered_over, ended, answered_ended, then_ended}
use Rattle.al_chunk.proofs.Starting.{Place, same_info, same_locals}

-- names of another allocator before it change nothing
pub renamed : (x : Execution) (j : ℕ) (w v : Content) → v ≡ record w { allocations = nothing_made x.number j } → iteration x j v ≡ iteration x j w
unfolding iteration
renamed x j w v e = ap (λ c. iteration x j c) e

-- how a run that stops so ends
abbrev pub EndsAs : Stopped → Ending → Type 0
EndsAs (stopped.Ended v) e = e ≡ ending.Done
EndsAs (stopped.AtLoop k lo hi) e = ⊥
EndsAs (stopped.Trapped t line) e = e ≡ ending.Trap t line

module _ (code : Code) (valid : IsValid code) (info : LoopInfo) (one : slice_get code.loops info.number ≡ Some info) (p : Place code info)
    (typed : Typed) (l : Loop) (stands : StandsForLoop code info.number typed l) (input : List ℤ) (env : LoopEnv) (j : ℕ) (counter : ℤ)
    (counts : counter ≡ env.lo +ℤ pos j) (m : Machine) (starts : StartsIteration code info p.entry p.body counter m)
    (w : Content) (names : w.allocations ≡ nothing_made env.execution j) where
  abbrev x : Execution
  x = execution_of typed l input env

  abbrev from : State Content
  from = iteration_from x j w

  info_is : l.info ≡ info
  info_is = same_info code typed l info one stands

  locals_are : p.entry.locals ≡ l.locals
  locals_are = same_locals code typed l info p.entry one stands p.has_entry

  -- the machine's state is the iteration's
  state_is : state_with m env.iter_steps w ≡ from
  state_is =
      (λ t. record { frame = starts.frame t; budget = env.iter_steps; world = record w { allocations = names t } })
      ∙ (λ t. record {
        frame = record {
          locals = replicate (locals_are t) (Int (pos 0));
          own = Own (sym info_is t).counter (sym info_is t).first (sym info_is t).last;
        };
        budget = env.iter_steps;
        world = record w { allocations = nothing_made env.execution j };
      })

  abbrev to_stop : ℕ → Act Content (Option Stop)
  to_stop n = from_iteration in_iteration code l.info p.body counter (exec_to_stop in_iteration Inside input code n)

  abbrev whole : ℕ → Act Content (Option Val)
  whole n = from_iteration in_iteration code l.info p.body counter (exec in_iteration Inside input code n)

  run_is : (n : ℕ) → run_of input code m n ≡ to_stop n
  run_is n =
      (λ t. begin_with (starts.start t) (λ n. exec_to_stop in_iteration (where_of (starts.inside t)) input code n (starts.spot t)) n)
      ∙ (λ t. from_iteration in_iteration code (sym info_is t) p.body counter (exec_to_stop in_iteration Inside input code n))

  once : EndsOnce whole
  once =
      then_once (spend l.info.line) _
      (then_once (set_local in_iteration l.info.counter (Int counter) l.info.line) _
      (runs_end_once in_iteration Inside input code (at_start p.body.start calls_within)))

  abbrev does : Act Content (Option Val)
  does = iteration_does in_iteration Inside input typed.funcs l counter

  does_over : IsOver (does from).0
  does_over =
      then_over (spend l.info.line) _
      (then_over (set_local in_iteration l.info.counter (Int counter) l.info.line) _ (λ t. answered_over (body_does x) returned t)) from

  whole_is : (n : ℕ) × (whole n from ≡ does from)
  whole_is =
      let h = stands.stands.iterations info.number l stands.loop in
      let same : h.0 ≡ p.body = same_some h.0 p.body (sym h.1 ∙ p.has_body) in
      let k = h.2 input counter from in
      (k.0, (λ t. from_iteration in_iteration code l.info (sym same t) counter (exec in_iteration Inside input code k.0) from) ∙ k.1)

  -- where the run stops so, the tree's iteration is over so
  over_so : (q : Answer (Option Stop) × State Content) → ComesTo (run_of input code m) (state_with m env.iter_steps w) q → IsOver q.0
      → IsOver (resumed in_iteration Inside input code 0 q).0 → does from ≡ resumed in_iteration Inside input code 0 q
  over_so q h stopped over =
      let there : to_stop h.0 from ≡ q = (λ t. sym (run_is h.0) t (sym state_is t)) ∙ h.1 in
      let on = (stops_go_on in_iteration Inside input code).2 l.info p.body counter h.0 from (subst (λ r. IsOver r.0) (sym there) stopped) 0 in
      let is : whole on.0 from ≡ resumed in_iteration Inside input code 0 q = on.1 ∙ ap (resumed in_iteration Inside input code 0) there in
      let k = whole_is in
      sym k.1
      ∙ once k.0 on.0 from (subst (λ r. IsOver r.0) (sym k.1) does_over) (subst (λ r. IsOver r.0) (sym is) over)
      ∙ is

  -- how the tree's iteration ends
  ended_so : iteration x j w ≡ ended env.iter_steps (does from)
  unfolding iteration
  ended_so =
      let b = env.iter_steps in
      let set = set_local in_iteration l.info.counter (Int counter) l.info.line in
      (λ t. ended b ((spend l.info.line >> (set_local in_iteration l.info.counter (Int (sym counts t)) l.info.line
      >> (body_does x >>= (λ flow. pure tt)))) from))
      ∙ then_ended b (spend l.info.line) _ _
      (λ t. then_ended b set _ _ (λ t. answered_ended b (body_does x) (λ flow. tt) (λ flow. Some (returned flow)) t) t) from

  pub by_end : (v : Val) (m' : Machine) (n : ℕ) (w' : Content)
      → ComesTo (run_of input code m) (state_with m env.iter_steps w) (Ok (Some (Ended v)), state_with m' n w')
      → iteration x j w ≡ record { ending = ending.Done; steps = env.iter_steps - n; content = w' }
  by_end v m' n w' h = ended_so ∙ ap (ended env.iter_steps) (over_so (Ok (Some (Ended v)), state_with m' n w') h tt tt)

  pub by_trap : (t : Trap) (line : ℕ) (m' : Machine) (n : ℕ) (w' : Content)
      → ComesTo (run_of input code m) (state_with m env.iter_steps w) (Err (t, line), state_with m' n w')
      → iteration x j w ≡ record { ending = ending.Trap t line; steps = env.iter_steps - n; content = w' }
  by_trap t line m' n w' h = ended_so ∙ ap (ended env.iter_steps) (over_so (Err (t, line), state_with m' n w') h tt tt)

  pub by_stop : (stop : Stopped) (e : Ending) (m' : Machine) (n steps : ℕ) (w' : Content)
      → StopsAs code m.inside (run_of input code m) (state_with m env.iter_steps w) stop m' n w' → steps ≡ env.iter_steps - n → EndsAs stop e
      → iteration x j w ≡ record { ending = e; steps = steps; content = w' }
  by_stop (stopped.Ended v) e m' n steps w' h k is =
      by_end v m' n w' h ∙ (λ t. record { ending = sym is t; steps = sym k t; content = w' })
  by_stop (stopped.AtLoop loop lo hi) e m' n steps w' h k is = absurd is
  by_stop (stopped.Trapped trap line) e m' n steps w' h k is =
      by_trap trap line m' n w' h ∙ (λ t. record { ending = sym is t; steps = sym k t; content = w' })
