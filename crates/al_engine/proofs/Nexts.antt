-- What a whole run comes to, from stop to stop.
use Rattle.std.proofs.Common.{◌≡◌, ℕ, zero, suc, ◌-◌, ◌<◌, ◌≤◌, Bool, false, List, [], ◌∷◌, ◌++◌, length, Option, Some, None, Ok, Err, refl, sym, ap, ◌∙◌, subst, arith}
use Rattle.std.specs.Prelude.{ℤ, slice_get, replicate, pos}
use Rattle.std.proofs.lemmas.List.{replicate-append-replicate, length-replicate}
use Rattle.al_core.specs.declared.reports.Ending.{Ending}
use Rattle.al_core.specs.declared.reports.Ending.TheVariants as ending
use Rattle.al_core.specs.declared.typed_tree.Typed.{Typed}
use Rattle.al_core.specs.declared.values.Trap.{Trap}
use Rattle.al_core.specs.declared.values.Val.{Val}
use Rattle.al_core.specs.declared.values.Val.TheVariants.{Int}
use Rattle.al_core.specs.Action.{AllPrivate, Frame, State, Answer, Act, spend, ◌>>◌}
use Rattle.al_core.specs.Access.{Content, in_iteration}
use Rattle.al_core.specs.Iteration.{ending_of, calls_within}
use Rattle.al_core.specs.Loops.{loop_at}
use Rattle.al_core.specs.Meaning.{Outside}
use Rattle.al_core.specs.Run.{Whole, start, visit_loop, whole_run}
use Rattle.al_code.specs.declared.lowered.Code.{Code}
use Rattle.al_code.specs.declared.lowered.Entry.{Entry}
use Rattle.al_code.specs.Answerers.{answered}
use Rattle.al_code.specs.Machine.{Spot, frame_at, at_start}
use Rattle.al_code.specs.Runs.{Stop, Ended, AtLoop, exec, exec_to_stop, entry_line, from_function, ComesTo}
use Rattle.al_code.specs.Valid.{IsValid}
use Rattle.al_code_laws.specs.Stops.{IsOver, raise, resumed}
use Rattle.al_exec.specs.declared.machine.Machine.{Machine}
use Rattle.al_exec.specs.declared.machine.Start.{Start}
use Rattle.al_exec.specs.declared.machine.Start.TheVariants as begin
use Rattle.al_exec.specs.declared.stop.Stop.TheVariants as stop
use Rattle.al_exec.specs.Going.{begin_with, run_of, state_with, StopsAs}
use Rattle.al_exec.specs.Machines.{spot_in, where_of, Stands}
use Rattle.al_exec.specs.Starts.{frame_in, StartsFunction}
use Rattle.al_engine.specs.declared.job.Job.{Job}
use Rattle.al_engine.specs.Ends.{EndsAs}
use Rattle.al_engine.specs.Jobs.{IsCodeOf, setting_of}
use Rattle.al_engine.specs.Rests.{Beginning, Step, begun, rest, answerer, begins, Leads, beginning_of, IsBeginning, state_at, IsAt, IsStopped, IsNext}
use Rattle.al_engine.specs.Starts.{no_arguments}
use Rattle.al_engine.specs.Worlds.{locals_or, answer_by}
use Rattle.al_engine.proofs.Mains.{tells}
use Rattle.al_engine.proofs.Stopping.{to_stop, reaches, visited, visit_traps}

-- ---- the start

all_zeros : (p n : ℕ) → p ≤ n → replicate p (Int (pos 0)) ++ replicate (n - length (replicate p (Int (pos 0)))) (Int (pos 0))
    ≡ [] ++ replicate (n - length {A = Val} []) (Int (pos 0))
all_zeros p n h =
    replicate-append-replicate p (n - length (replicate p (Int (pos 0)))) (Int (pos 0))
    ∙ ap (λ (k : ℕ). replicate k (Int (pos 0))) (omega (arith, length-replicate p (Int (pos 0))))

-- the frame of `main`, whatever its parameters
frame_of_zeros : (e : Entry) → e.params ≤ e.locals → frame_at e (no_arguments e.params) ≡ frame_at e []
frame_of_zeros e h = ap (λ (locals : List Val). record { locals = locals; own = AllPrivate }) (all_zeros e.params e.locals h)

module _ (j : Job) (m : Machine) (budget : ℕ) (w : Whole) where
  starts : (e : Entry) (b : Beginning) (c : Spot) (frame : Frame) → (k : ℕ) → b ≡ Step (entry_line j.code.now e) → c ≡ at_start e.start calls_within
      → frame ≡ frame_at e [] → (typed : Typed) → begins (setting_of j typed) e ≡ record { frame = frame_at e []; budget = budget; world = w }
      → from_function (answered (answerer (setting_of j typed))) j.code.now e calls_within
      (exec (answered (answerer (setting_of j typed))) Outside j.input.now j.code.now k) (begins (setting_of j typed) e)
      ≡ rest (answerer (setting_of j typed)) j.input.now j.code.now b c k (record { frame = frame; budget = budget; world = w })
  starts e b c frame k eb ec ef typed es =
      let g = setting_of j typed in
      ap (rest (answerer g) j.input.now j.code.now (Step (entry_line j.code.now e)) (at_start e.start calls_within) k) es
      ∙ (λ t. rest (answerer g) j.input.now j.code.now (sym eb t) (sym ec t) k (record { frame = sym ef t; budget = budget; world = w }))

  -- the machine stands before `main`
  pub at_main : IsValid j.code.now → (e : Entry) → slice_get j.code.now.funcs j.code.now.main ≡ Some e
      → StartsFunction j.code.now e (no_arguments e.params) m → budget ≡ j.knobs.serial_steps
      → ((typed : Typed) → IsCodeOf typed j.code.now → w ≡ (start (setting_of j typed)).world) → IsAt j m budget w
  at_main valid e has h steps world = record {
    stands = h.stands;
    outside = h.outside;
    begins = subst IsBeginning (sym h.start) tt;
    leads = λ typed is f there k.
        let same : e ≡ f = cc (has, there) in
        subst (λ e. (j' : ℕ) × (from_function (answered (answerer (setting_of j typed))) j.code.now e calls_within
        (exec (answered (answerer (setting_of j typed))) Outside j.input.now j.code.now j') (begins (setting_of j typed) e)
        ≡ rest (answerer (setting_of j typed)) j.input.now j.code.now (beginning_of m.start) (spot_in m) k (state_at m budget w)))
        same (
          k,
          starts e (beginning_of m.start) (spot_in m) (frame_in m) k (ap beginning_of h.start) h.spot
              (h.frame ∙ frame_of_zeros e (valid.functions j.code.now.main e has).params) typed
              (λ t. record { frame = frame_at e []; budget = sym steps t; world = sym (world typed is) t }),
        );
  }

-- ---- to a stop

same_run : (input : List ℤ) (code : Code) (begin : Start) (inside : Bool) (c : Spot) (n : ℕ) → IsBeginning begin → inside ≡ false
    → begin_with begin (λ n. exec_to_stop in_iteration (where_of inside) input code n c) n
    ≡ begun (beginning_of begin) (exec_to_stop in_iteration Outside input code n c)
same_run input code begin.Running inside c n h o =
    ap (λ b. exec_to_stop in_iteration (where_of b) input code n c) o
same_run input code (begin.Function line) inside c n h o =
    ap (λ b. spend line >> exec_to_stop in_iteration (where_of b) input code n c) o
same_run input code (begin.Iteration line counter v) inside c n h o = absurd h

module _ (j : Job) (m : Machine) (budget : ℕ) (w : Whole) (at : IsAt j m budget w) where
  -- what the machine's run to its stop comes to, the whole run comes to
  comes : (r : Answer (Option Stop)) (t : State Content) → ComesTo (run_of j.input.now j.code.now m) (state_with m budget w.content) (r, t) → IsOver r
      → Leads j (λ g k s. resumed (answered (answerer g)) Outside j.input.now j.code.now k (r, s)) (raise t w)
  comes r t h over typed is e has k =
      let g = setting_of j typed in
      let to : ComesTo (to_stop (answerer g) j.input.now j.code.now (beginning_of m.start) (spot_in m)) (state_with m budget w.content) (r, t) = (
        h.0,
        sym (ap (λ (p : Act Content (Option Stop)). p (state_with m budget w.content))
            (same_run j.input.now j.code.now m.start m.inside (spot_in m) h.0 at.begins at.outside)) ∙ h.1,
      ) in
      let on = reaches (answerer g) j.input.now j.code.now (beginning_of m.start) (spot_in m) (state_with m budget w.content) t w r to over k in
      let first = at.leads typed is e has on.0 in
      (first.0, first.1 ∙ on.1)

has_at : {A : Type 0} (xs : List A) (k : ℕ) → k < length xs → (x : A) × (slice_get xs k ≡ Some x)
has_at [] k h = absurd (omega arith)
has_at (x ∷ xs) zero h = (x, refl)
has_at (x ∷ xs) (suc k) h = has_at xs k (omega arith)

-- what a run of the code that is over tells of the whole run
ends : (j : Job) → IsValid j.code.now → (r : Answer (Option Val)) (t : State Whole) → IsOver r → Leads j (λ g k s. (r, s)) t
    → (typed : Typed) → IsCodeOf typed j.code.now → EndsAs (whole_run (setting_of j typed)) (ending_of r) t.world t.budget
ends j valid r t over h typed is =
    let e = has_at j.code.now.funcs j.code.now.main valid.main in
    let on = h typed is e.0 e.1 0 in
    tells (setting_of j typed) j.code.now is.stands e.0 e.1 on.0 r t on.1 over

module _ (j : Job) (valid : IsValid j.code.now) (m : Machine) (budget : ℕ) (w : Whole) (at : IsAt j m budget w) (m' : Machine) (n : ℕ) (c : Content) where
  -- the machine's run ended
  pub ended : (v : Val)
      → StopsAs j.code.now m.inside (run_of j.input.now j.code.now m) (state_with m budget w.content) (stop.Ended v) m' n c
      → IsNext j m' n (record w { content = c }) (Some ending.Done)
  ended v h typed is =
      ends j valid (Ok (Some v)) (raise (state_with m' n c) w) tt
      (λ typed is e has k. comes j m budget w at (Ok (Some (Ended v))) (state_with m' n c) h tt typed is e has k) typed is

  -- it trapped
  pub trapped : (t : Trap) (line : ℕ)
      → StopsAs j.code.now m.inside (run_of j.input.now j.code.now m) (state_with m budget w.content) (stop.Trapped t line) m' n c
      → IsNext j m' n (record w { content = c }) (Some (ending.Trap t line))
  trapped t line h typed is =
      ends j valid (Err (t, line)) (raise (state_with m' n c) w) tt
      (λ typed is e has k. comes j m budget w at (Err (t, line)) (state_with m' n c) h tt typed is e has k) typed is

  -- it stands at a loop
  pub stopped : (loop : ℕ) (lo hi : ℤ)
      → StopsAs j.code.now m.inside (run_of j.input.now j.code.now m) (state_with m budget w.content) (stop.AtLoop loop lo hi) m' n c
      → m'.start ≡ begin.Running → IsStopped j loop lo hi m' n (record w { content = c })
  stopped loop lo hi h running = record {
    stands = h.stands;
    outside = h.here ∙ at.outside;
    running = running;
    counter = h.counter;
    leads = λ typed is e has k. comes j m budget w at (Ok (Some (AtLoop loop lo hi (spot_in m')))) (state_with m' n c) h.comes tt typed is e has k;
  }

-- the same numbers, written otherwise
pub stopped_as : (j : Job) (loop : ℕ) (lo hi : ℤ) (m : Machine) (n : ℕ) (w : Whole) (lo' hi' : ℤ) (n' : ℕ) → lo' ≡ lo → hi' ≡ hi → n' ≡ n
    → IsStopped j loop lo hi m n w → IsStopped j loop lo' hi' m n' w
stopped_as j loop lo hi m n w lo' hi' n' el eh en h =
    subst (λ (lo : ℤ). IsStopped j loop lo hi' m n' w) (sym el)
    (subst (λ (hi : ℤ). IsStopped j loop lo hi m n' w) (sym eh) (subst (λ (n : ℕ). IsStopped j loop lo hi m n w) (sym en) h))

-- ---- from a loop

module _ (j : Job) (valid : IsValid j.code.now) (loop : ℕ) (lo hi : ℤ) (m : Machine) (n : ℕ) (w : Whole) (at : IsStopped j loop lo hi m n w) (w' : Whole) where
  -- the machine with other locals
  abbrev with_other : List Val → Machine
  with_other locals = record m { active = record m.active { locals = locals } }

  with_locals_at : (locals : List Val) → ((typed : Typed) → IsCodeOf typed j.code.now
      → visit_loop (setting_of j typed) lo hi m.active.locals w (loop_at typed loop) ≡ (Ok locals, w'))
      → Stands j.code.now (with_other locals) → IsAt j (with_other locals) n w'
  with_locals_at locals did stands = record {
    stands = stands;
    outside = at.outside;
    begins = subst IsBeginning (sym at.running) tt;
    leads = λ typed is e has k.
        let g = setting_of j typed in
        let first = at.leads typed is e has k in (
          first.0,
          first.1
              ∙ visited (answerer g) j.input.now j.code.now loop lo hi (state_at m n w) locals w'
              (exec (answered (answerer g)) Outside j.input.now j.code.now k (spot_in m)) (did typed is)
              ∙ ap (λ (b : Beginning). rest (answerer g) j.input.now j.code.now b (spot_in m) k (state_at (with_other locals) n w'))
              (sym (ap beginning_of at.running)),
        );
  }

  -- the answer, where its numbers and locals are written otherwise
  pub told : (left : Option (List Val)) (e e' : Ending) → e ≡ e' → (shown : List Val) → shown ≡ m.active.locals → (lo' hi' : ℤ) → lo' ≡ lo → hi' ≡ hi
      → ((typed : Typed) → IsCodeOf typed j.code.now
      → visit_loop (setting_of j typed) lo' hi' shown w (loop_at typed loop) ≡ (answer_by e shown left, w'))
      → (typed : Typed) → IsCodeOf typed j.code.now
      → visit_loop (setting_of j typed) lo hi m.active.locals w (loop_at typed loop) ≡ (answer_by e' m.active.locals left, w')
  told left e e' ee shown es lo' hi' el eh h typed is =
      sym (λ t. visit_loop (setting_of j typed) (el t) (eh t) (es t) w (loop_at typed loop))
      ∙ h typed is
      ∙ (λ t. (answer_by (ee t) (es t) left, w'))

  -- the loop was answered, and the machine has its locals
  pub answered_on : (left : Option (List Val)) → ((typed : Typed) → IsCodeOf typed j.code.now
      → visit_loop (setting_of j typed) lo hi m.active.locals w (loop_at typed loop) ≡ (answer_by ending.Done m.active.locals left, w'))
      → (m' : Machine) → m' ≡ record m { active = record m.active { locals = locals_or m.active.locals left } }
      → Stands j.code.now m' → IsNext j m' n w' None
  answered_on left did m' is stands =
      subst (λ (m' : Machine). Stands j.code.now m' → IsAt j m' n w') (sym is) (with_locals_at (locals_or m.active.locals left) did) stands

  -- it trapped
  pub answered_trap : (t : Trap) (line : ℕ) (left : Option (List Val)) → ((typed : Typed) → IsCodeOf typed j.code.now
      → visit_loop (setting_of j typed) lo hi m.active.locals w (loop_at typed loop) ≡ (answer_by (ending.Trap t line) m.active.locals left, w'))
      → (m' : Machine) → IsNext j m' n w' (Some (ending.Trap t line))
  answered_trap t line left did m' typed is =
      ends j valid (Err (t, line)) (record (state_at m n w) { world = w' }) tt
      (λ typed is e has k.
      let g = setting_of j typed in
      let first = at.leads typed is e has k in (
        first.0,
        first.1
            ∙ visit_traps (answerer g) j.input.now j.code.now loop lo hi (state_at m n w) (t, line) w'
            (exec (answered (answerer g)) Outside j.input.now j.code.now k (spot_in m)) (did typed is),
      )) typed is
