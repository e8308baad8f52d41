-- Executions of a loop of the code, in a tree for which it stands.
use Rattle.std.proofs.Common.{◌≡◌, ◌≤◌, ℕ, List, Option, Some, None, Ok, refl, sym, ap, ◌∙◌, subst}
use Rattle.std.specs.Prelude.{FitsSigned, option_map, slice_get}
use Rattle.std.specs.Int.{w64, div_ceil}
use Rattle.al_source.specs.declared.limits.TheConstants.{MOST_STEPS}
use Rattle.al_core.specs.declared.choices.LoopInfo.{LoopInfo}
use Rattle.al_core.specs.declared.reports.Event.TheVariants as event
use Rattle.al_core.specs.declared.typed_tree.TNote.{TNote}
use Rattle.al_core.specs.declared.typed_tree.Typed.{Typed}
use Rattle.al_core.specs.declared.values.Val.{Val}
use Rattle.al_core.specs.Values.{trips}
use Rattle.al_core.specs.Action.{Answer}
use Rattle.al_core.specs.Memory.{Memory}
use Rattle.al_core.specs.Loops.{Loop, PlacedLoop, Start, started_loop, noted_loop, start_of, loop_at}
use Rattle.al_core.specs.Iteration.{Execution}
use Rattle.al_core.specs.Lockstep as lockstep
use Rattle.al_core.specs.Report.{by_choices}
use Rattle.al_core.specs.Run.{Counts, Whole, LoopResult, no_counts, enter_event, counts_of_rounds, result_of_rounds, by_mode, execution, come_back, run_loop, if_trips, visit_loop}
use Rattle.al_code.specs.declared.lowered.Code.{Code}
use Rattle.al_chunk.specs.Loops.{StandsForLoop, execution_of}
use Rattle.al_engine.specs.declared.counts.Counts.{Counts as KeptCounts}
use Rattle.al_engine.specs.declared.entered.Entered.{Entered}
use Rattle.al_engine.specs.declared.rounds.Rounds.{Rounds}
use Rattle.al_engine.specs.Counting.{entered, with_rounds, with_steps}
use Rattle.al_engine.specs.Executions.{HasNoLoop, InTrees, IsLoop, MayEnter, event_of, counts_of, rounds_of, loop_result}
use Rattle.al_engine.specs.Jobs.{IsCodeOf, MayRun, setting_of}
use Rattle.al_engine.proofs.Counted.{counted}
use Rattle.al_engine.proofs.Trips.{trips_few, trips_fit}

-- ---- loops of a number

abbrev number_or : ℕ → Option Loop → ℕ
number_or n (Some l) = l.info.number
number_or n None = n

started_number : (n : ℕ) (note : TNote) (p : PlacedLoop) (o : Option Start) → number_or n (started_loop n note p o) ≡ n
started_number n note p None = refl
started_number n note p (Some s) = refl

noted_number : (n : ℕ) (note : Option TNote) (p : Option PlacedLoop) → number_or n (noted_loop n note p) ≡ n
noted_number n (Some note) (Some p) = started_number n note p (start_of p.loop.first)
noted_number n (Some note) None = refl
noted_number n None p = refl

loop_number : (typed : Typed) (n : ℕ) (l : Loop) → loop_at typed n ≡ Some l → l.info.number ≡ n
loop_number typed n l e = ap (number_or n) (sym e) ∙ noted_number n _ _

-- the tree's loop of that number, where the code has one
loop_by : (o : Option LoopInfo) (p : Option Loop) (info : LoopInfo) → o ≡ option_map (λ (l : Loop). l.info) p → o ≡ Some info
    → (l : Loop) × ((p ≡ Some l) × (l.info ≡ info))
loop_by o None info e h = absurd (cc (e, h))
loop_by o (Some l) info e h = (l, (refl, cc (e, h)))

none_by : (o : Option LoopInfo) (p : Option Loop) → o ≡ option_map (λ (l : Loop). l.info) p → o ≡ None → p ≡ None
none_by o None e h = refl
none_by o (Some l) e h = absurd (cc (e, h))

pub no_loop : (code : Code) (number : ℕ) → slice_get code.loops number ≡ None → HasNoLoop code number
no_loop code number h typed is = none_by (slice_get code.loops number) (loop_at typed number) (is.stands.loops number) h

pub other_loop : (code : Code) (number : ℕ) (info : LoopInfo) → slice_get code.loops number ≡ Some info → ¬ (info.number ≡ number)
    → HasNoLoop code number
other_loop code number info h other typed is =
    let l = loop_by (slice_get code.loops number) (loop_at typed number) info (is.stands.loops number) h in
    absurd (other (ap (λ (i : LoopInfo). i.number) (sym l.1.1) ∙ loop_number typed number l.0 l.1.0))

-- ---- an execution

pub may_enter : (x : Entered) → MayRun x.job → (number : ℕ) → IsLoop x.job.code.now number x.info.now → trips x.env.lo x.hi ≡ Ok x.env.trips
    → FitsSigned w64 x.env.lo → FitsSigned w64 x.hi → x.env.chunk ≡ x.job.knobs.chunk → x.env.iter_steps ≡ x.job.knobs.iter_steps → MayEnter x
may_enter x may number is told lo hi factor steps = record {
  job = may;
  one = ap (slice_get x.job.code.now.loops) is.same ∙ is.has;
  bounded = record {
    trips = trips_few x.env.lo x.hi x.env.trips (sym told);
    counter = trips_fit x.env.lo x.hi x.env.trips (sym told) lo hi;
    chunk = subst (λ n. 1 ≤ n) (sym factor) may.range.chunk.0;
    steps = subst (λ n. n ≤ MOST_STEPS) (sym steps) may.range.iter_steps.1;
  };
  trips = told;
  lo = lo;
  hi = hi;
  factor = factor;
  iter_steps = steps;
}

module _ (x : Entered) (may : MayEnter x) where
  -- the code's loop is the tree's
  info_is : (typed : Typed) (l : Loop) → StandsForLoop x.job.code.now x.info.now.number typed l → l.info ≡ x.info.now
  info_is typed l h =
      let found = loop_by (slice_get x.job.code.now.loops x.info.now.number) (loop_at typed x.info.now.number) x.info.now
      (h.stands.loops x.info.now.number) may.one in
      cc (found.1.0, found.1.1, h.loop)

  pub counted_at : (r : Rounds) (chunks : ℕ) → chunks ≡ div_ceil x.env.trips x.env.chunk → (n0 n1 n2 n3 : Counts) → n0 ≡ no_counts
      → n1 ≡ entered (event_of x chunks) n0 → n2 ≡ with_rounds r.rounds n1 → n3 ≡ with_steps r.span n2 → (m : Memory)
      → InTrees x (λ e. n3 ≡ counts_of_rounds e (rounds_of m r))
  counted_at r chunks ec n0 n1 n2 n3 e0 e1 e2 e3 m typed l h =
      let e = execution_of typed l x.job.input.now x.env in
      let enter : event_of x chunks ≡ enter_event e =
      ap (event_of x) ec ∙ ap (λ (i : LoopInfo). event.Enter i.number x.env.execution i.line x.env.trips (div_ceil x.env.trips x.env.chunk))
      (sym (info_is typed l h)) in
      e3 ∙ ap (with_steps r.span) (e2 ∙ ap (with_rounds r.rounds) (e1 ∙ (λ t. entered (enter t) (e0 t)))) ∙ counted e (rounds_of m r)

  -- what an execution comes to, with the locals of before
  pub run_loop_is : (w : Whole) (locals : List Val) (m : Memory) → m ≡ record w.content.memory { locals = locals } → (r : LoopResult)
      → InTrees x (λ e. by_mode e x.job.knobs.lanes m (by_choices x.job.choices.now x.info.now.number x.env.execution) ≡ r)
      → InTrees x (λ e. run_loop (setting_of x.job e.typed) e x.hi locals w ≡ come_back e x.hi w r)
  run_loop_is w locals m em r is typed l h =
      let e = execution_of typed l x.job.input.now x.env in
      let number : l.info.number ≡ x.info.now.number = ap (λ (i : LoopInfo). i.number) (info_is typed l h) in
      ap (come_back e x.hi w)
      ((λ t. by_mode e x.job.knobs.lanes (sym em t) (by_choices x.job.choices.now (number t) x.env.execution)) ∙ is typed l h)

  -- the answer to the loop
  pub visits : (number : ℕ) → IsLoop x.job.code.now number x.info.now → (locals : List Val) (w : Whole) → w.executions ≡ x.env.execution
      → (q : Answer (List Val) × Whole) → InTrees x (λ e. run_loop (setting_of x.job e.typed) e x.hi locals w ≡ q)
      → (typed : Typed) → IsCodeOf typed x.job.code.now
      → visit_loop (setting_of x.job typed) x.env.lo x.hi locals w (loop_at typed number) ≡ q
  visits number is locals w ee q told typed code =
      let g = setting_of x.job typed in
      let found = loop_by (slice_get x.job.code.now.loops number) (loop_at typed number) x.info.now (code.stands.loops number) is.has in
      let l = found.0 in
      let h : StandsForLoop x.job.code.now x.info.now.number typed l = record {
        stands = code.stands;
        loop = ap (loop_at typed) is.same ∙ found.1.0;
        locals = code.locals number l found.1.0;
      } in
      ap (visit_loop g x.env.lo x.hi locals w) found.1.0
      ∙ ap (if_trips g l x.env.lo x.hi locals w) may.trips
      ∙ (λ t. run_loop g (record (execution g l (ee t) x.env.lo x.env.trips) { factor = sym may.factor t; iter_steps = sym may.iter_steps t }) x.hi locals w)
      ∙ told typed l h

-- an execution in rounds
pub rounds_result : (e : Execution) (m : Memory) (r : Rounds) (rs : lockstep.Rounds) (n : KeptCounts) → rounds_of m r ≡ rs
    → counts_of n ≡ counts_of_rounds e (rounds_of m r) → result_of_rounds e rs ≡ loop_result m r.printed r.ending n
rounds_result e m r rs n er en =
    ap (result_of_rounds e) (sym er)
    ∙ (λ t. record { memory = m; printed = r.printed; ending = r.ending; counts = sym en t })
