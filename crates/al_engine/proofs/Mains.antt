-- The call of `main` from nowhere, in the frame that it is given, and as its own caller makes it.
use Rattle.std.proofs.Common.{◌≡◌, ℕ, zero, suc, ◌-◌, [], ◌++◌, Option, Some, None, Ok, Err, refl, sym, ap, ◌∙◌, subst}
use Rattle.std.specs.Prelude.{slice_get, length, replicate, pos}
use Rattle.al_core.specs.declared.typed_tree.TFunc.{TFunc}
use Rattle.al_core.specs.declared.values.Val.{Val}
use Rattle.al_core.specs.declared.values.Val.TheVariants.{Int}
use Rattle.al_core.specs.Action.{AllPrivate, Frame, State, Answer, Act, after, bind, pure, spend, get_frame, set_frame, ◌>>=◌, ◌>>◌, enter, leave}
use Rattle.al_core.specs.Meaning.{Outside, Flow, returned, frame_of, body_of, execute_all, call_to}
use Rattle.al_core.specs.Iteration.{ending_of, calls_within}
use Rattle.al_core.specs.Run.{Setting, Whole, outside, start, line_of, whole_run}
use Rattle.al_code.specs.declared.lowered.Code.{Code}
use Rattle.al_code.specs.declared.lowered.Entry.{Entry}
use Rattle.al_code.specs.Machine.{frame_at, at_start}
use Rattle.al_code.specs.Runs.{exec, entry_line, from_function}
use Rattle.al_code.specs.Stands.{StandsFor, IsEntryOf, AreEntryOf, function_does}
use Rattle.al_code_laws.specs.Stops.{IsOver, EndsOnce}
use Rattle.al_code_laws.proofs.Ends.{runs_end_once}
use Rattle.al_engine.specs.Ends.{EndsAs}
use Rattle.al_engine.specs.Rests.{answerer, begins}

-- ---- in its frame

module _ (does : Act Whole Flow) (line : ℕ) (frame : Frame) where
  -- in the frame that it is given
  alone : Act Whole (Option Val)
  alone = spend line >> (does >>= (λ flow. pure (Some (returned flow))))

  -- and in one of its own
  called : Act Whole Val
  called = spend line >> (enter frame >>= (λ old. does >>= (λ flow. leave old (returned flow))))

  -- how a run of the first kind ends
  pub record Shows (r : Answer (Option Val) × State Whole) (c : Answer Val × State Whole) : Type 0 where
    pub over : IsOver r.0
    pub ends : EndsAs c (ending_of r.0) r.1.world r.1.budget

  by_flow : (r : Answer Flow) (t : State Whole) (old : Frame)
      → Shows (after r t (λ flow. pure (Some (returned flow)))) (after r t (λ flow. leave old (returned flow)))
  unfolding bind pure set_frame
  by_flow (Ok flow) t old = record { over = tt; ends = record { ending = refl; world = refl; budget = refl } }
  by_flow (Err e) t old = record { over = tt; ends = record { ending = refl; world = refl; budget = refl } }

  by_budget : (n : ℕ) (f : Frame) (w : Whole)
      → Shows (alone (record { frame = frame; budget = n; world = w })) (called (record { frame = f; budget = n; world = w }))
  unfolding alone called bind pure spend get_frame set_frame
  by_budget zero f w = record { over = tt; ends = record { ending = refl; world = refl; budget = refl } }
  by_budget (suc n) f w =
      by_flow (does (record { frame = frame; budget = n; world = w })).0 (does (record { frame = frame; budget = n; world = w })).1 f

-- ---- the end of a run

module _ (g : Setting) where
  abbrev main_does : TFunc → Act Whole Flow
  main_does f = execute_all (outside g) Outside g.input (call_to (outside g) Outside g.typed.funcs g.input calls_within) f.body

  main_shows : (f : TFunc) → slice_get g.typed.funcs g.typed.main ≡ Some f
      → Shows (main_does f) f.line (frame_of (Some f) [])
      (function_does (outside g) Outside g.input g.typed.funcs calls_within f (record (start g) { frame = frame_of (Some f) [] })) (whole_run g)
  unfolding whole_run alone called
  main_shows f e =
      subst (λ o. Shows (main_does f) f.line (frame_of (Some f) [])
      (function_does (outside g) Outside g.input g.typed.funcs calls_within f (record (start g) { frame = frame_of (Some f) [] }))
      ((spend (line_of o)
      >> (enter (frame_of o [])
      >>= (λ old. execute_all (outside g) Outside g.input (call_to (outside g) Outside g.typed.funcs g.input calls_within) (body_of o)
      >>= (λ flow. leave old (returned flow))))) (start g)))
      (sym e) (by_budget (main_does f) f.line (frame_of (Some f) []) g.sizes.serial_steps (start g).frame (start g).world)

  abbrev frame_with : ℕ → Frame
  frame_with n = record { locals = [] ++ replicate (n - length {A = Val} []) (Int (pos 0)); own = AllPrivate }

  -- the function of an entry
  has_function : (o : Option TFunc) (e : Entry) → AreEntryOf o (Some e) → (f : TFunc) × ((o ≡ Some f) × IsEntryOf f e)
  has_function (Some f) e h = (f, (refl, h))
  has_function None e h = absurd h

  same_frame : (f : TFunc) (e : Entry) → IsEntryOf f e → frame_of (Some f) [] ≡ frame_at e []
  same_frame f e h = ap frame_with (sym h.locals)

module _ {S A : Type 0} (line : ℕ) (run : ℕ → Act S (Option A)) (once : EndsOnce run) where
  by_start : (r : Answer (Unit {0})) (t : State S) (n m : ℕ) → IsOver (after r t (λ u. run n)).0 → IsOver (after r t (λ u. run m)).0
      → after r t (λ u. run n) ≡ after r t (λ u. run m)
  by_start (Ok u) t n m h k = once n m t h k
  by_start (Err e) t n m h k = refl

  once_after : EndsOnce (λ n. spend line >> run n)
  unfolding bind
  once_after n m s h k = by_start (spend line s).0 (spend line s).1 n m h k

module _ (g : Setting) (code : Code) (stands : StandsFor code g.typed) (e : Entry) (has : slice_get code.funcs code.main ≡ Some e) where
  abbrev runs : ℕ → Act Whole (Option Val)
  runs j = from_function (outside g) code e calls_within (exec (outside g) Outside g.input code j)

  -- a run of the code that is over tells how the whole run ends
  pub tells : (j : ℕ) (r : Answer (Option Val)) (t : State Whole) → runs j (begins g e) ≡ (r, t) → IsOver r
      → EndsAs (whole_run g) (ending_of r) t.world t.budget
  tells j r t is over =
      let at_main : AreEntryOf (slice_get g.typed.funcs g.typed.main) (Some e) =
      subst (λ m. AreEntryOf (slice_get g.typed.funcs m) (Some e)) stands.main
      (subst (AreEntryOf (slice_get g.typed.funcs code.main)) has (stands.entries code.main)) in
      let f = has_function g (slice_get g.typed.funcs g.typed.main) e at_main in
      let there : slice_get g.typed.funcs code.main ≡ Some f.0 = ap (slice_get g.typed.funcs) stands.main ∙ f.1.0 in
      let by_tree = stands.by_answerer (answerer g) g.input code.main f.0 e there has calls_within (begins g e) in
      let shown = subst (λ (frame : Frame). Shows (main_does g f.0) (f.0).line (frame_of (Some f.0) [])
      (function_does (outside g) Outside g.input g.typed.funcs calls_within f.0 (record (start g) { frame = frame })) (whole_run g))
      (same_frame g f.0 e f.1.1) (main_shows g f.0 f.1.0) in
      let once = once_after (entry_line code e) (λ n. exec (outside g) Outside g.input code n (at_start e.start calls_within))
      (runs_end_once (outside g) Outside g.input code (at_start e.start calls_within)) in
      let same : (r, t) ≡ function_does (outside g) Outside g.input g.typed.funcs calls_within f.0 (begins g e) =
      sym is ∙ once j by_tree.0 (begins g e) (subst (λ q. IsOver q.0) (sym is) over) (subst (λ q. IsOver q.0) (sym by_tree.1) shown.over) ∙ by_tree.1 in
      subst (λ (q : Answer (Option Val) × State Whole). EndsAs (whole_run g) (ending_of q.0) q.1.world q.1.budget) (sym same) shown.ends
