-- From what an instruction does to what the run does.
use Rattle.std.proofs.Common.{◌≡◌, ℕ, suc, ◌+◌, ◌-◌, ◌*◌, ◌<◌, ◌≤◌, List, length, Some, Ok, Err, refl, sym, ap, ◌∙◌, subst, arith}
use Rattle.std.specs.Prelude.{slice_get, ℤ}
use Rattle.std.specs.List.{AllByRecursion}
use Rattle.std.proofs.lemmas.Option.{slice_get_within}
use Rattle.al_core.specs.declared.values.Trap.{Trap}
use Rattle.al_core.specs.declared.view.ViewFault.TheVariants as fault
use Rattle.al_core.specs.Action.{State, Answer, after, bind}
use Rattle.al_core.specs.Access.{Content, in_iteration}
use Rattle.al_code.specs.declared.instructions.Instr.{Instr}
use Rattle.al_code.specs.declared.instructions.Instr.TheVariants as i
use Rattle.al_code.specs.declared.lowered.Code.{Code}
use Rattle.al_code.specs.Machine.{Move, does}
use Rattle.al_code.specs.Runs.{or_no_line, moved_to_stop, exec_to_stop}
use Rattle.al_code.specs.Valid.{takes, puts, places_after, IsValid, IsSound}
use Rattle.al_exec.specs.declared.fault.Fault.{Fault}
use Rattle.al_exec.specs.declared.fault.Fault.TheVariants as exec_fault
use Rattle.al_exec.specs.declared.pause.Pause.{Pause}
use Rattle.al_exec.specs.Active.{Active, state_of}
use Rattle.al_exec.specs.Meets.{Around, spot_of, Went, Did}
use Rattle.al_exec.specs.Pauses.{instr_of}
use Rattle.al_exec.specs.Running.{Fits, weight, Paused, Further, Trapped, RanOn, Ran}
use Rattle.al_exec.proofs.Weights.{lands_on, falls}

module _ (code : Code) (place height room : ℕ) (tall : (q h : ℕ) → slice_get code.heights q ≡ Some h → h ≤ room) where
  -- there is room for what an instruction puts
  pub has_room : (x : Instr) → height ≤ room
      → AllByRecursion (λ q. slice_get code.heights q ≡ Some (height - takes code x + puts x)) (places_after code place x)
      → height - takes code x + puts x ≤ room
  has_room (i.Push n) le all = tall _ _ all.0
  has_room (i.GetLocal k) le all = tall _ _ all.0
  has_room (i.SetLocal k) le all = tall _ _ all.0
  has_room (i.Global k) le all = tall _ _ all.0
  has_room i.NotNull le all = tall _ _ all.0
  has_room (i.Plus n) le all = tall _ _ all.0
  has_room (i.Elem n) le all = tall _ _ all.0
  has_room (i.Load want) le all = tall _ _ all.0
  has_room i.Store le all = tall _ _ all.0
  has_room i.Dup le all = tall _ _ all.0
  has_room i.Drop le all = tall _ _ all.0
  has_room (i.Unary op) le all = tall _ _ all.0
  has_room i.Truth le all = tall _ _ all.0
  has_room (i.Binary op) le all = tall _ _ all.0
  has_room (i.Same e) le all = tall _ _ all.0
  has_room (i.Choose op) le all = tall _ _ all.0
  has_room (i.Jump to) le all = tall _ _ all.0
  has_room (i.JumpIf b to) le all = tall _ _ all.0
  has_room (i.Call f) le all = tall _ _ all.0
  has_room i.Return le all = omega (arith, le)
  has_room i.Input le all = tall _ _ all.0
  has_room i.Inputs le all = tall _ _ all.0
  has_room (i.Calloc n) le all = tall _ _ all.0
  has_room i.Free le all = tall _ _ all.0
  has_room (i.Print k) le all = tall _ _ all.0
  has_room i.Step le all = tall _ _ all.0
  has_room (i.Loop k) le all = omega (arith, le)
  has_room i.EndIteration le all = omega (arith, le)

module _ (code : Code) (valid : IsValid code) (s : Active) (fits : Fits code s) where
  pub is_within : s.place < length code.instrs
  is_within = let h = slice_get_within code.heights s.place s.height fits.height in omega (arith, h, valid.heights)

  pub is_low : s.height ≤ s.room
  is_low = fits.room s.place s.height fits.height

  pub sound : (x : Instr) → slice_get code.instrs s.place ≡ Some x → IsSound code s.place x s.height
  sound x at = valid.instrs s.place x s.height at fits.height

  pub fits_next : (x : Instr) (s' : Active) → slice_get code.instrs s.place ≡ Some x → Went code x s s' → Fits code s'
  fits_next x s' at went = record {
    height =
        lands_on code s.place s'.place (λ q. slice_get code.heights q ≡ Some (s.height - takes code x + puts x)) x (sound x at).heights went.place
        ∙ ap Some (sym went.height);
    room = λ q h e. subst (λ n. h ≤ n) (sym went.room) (fits.room q h e);
  }

  pub falls_next : (x : Instr) (s' : Active) → slice_get code.instrs s.place ≡ Some x → Went code x s s' → (n : ℕ)
      → weight code (2 * s'.budget + n) s'.place < weight code (2 * s.budget + n) s.place
  falls_next x s' at went n = falls code s.place s'.place s.budget s'.budget n x at is_within (sound x at).back went.place went.steps

-- ---- the run of a function

pub begun : (input : List ℤ) (code : Code) (s : Active) (w : Content) → Fits code s → Further input code s w s w
begun input code s w fits = record { comes = λ a k. (k, refl); fits = fits; below = refl; room = refl; size = refl; weighs = λ n. omega arith }

module _ (input : List ℤ) (code : Code) (s : Active) (w : Content) where
  -- one instruction of a run
  step_on : (x : Instr) → slice_get code.instrs s.place ≡ Some x → (a : Around) (r : Answer Move × State Content)
      → does in_iteration a.here input code (Some x) (or_no_line (slice_get code.lines s.place)) (spot_of a s) (state_of s w) ≡ r → (k : ℕ)
      → exec_to_stop in_iteration a.here input code (suc k) (spot_of a s) (state_of s w)
      ≡ after r.0 r.1 (moved_to_stop in_iteration a.here input code (exec_to_stop in_iteration a.here input code k))
  unfolding bind
  step_on x at a r did k =
      let line = or_no_line (slice_get code.lines s.place) in
      let go = moved_to_stop in_iteration a.here input code (exec_to_stop in_iteration a.here input code k) in
      ap (λ o. after (does in_iteration a.here input code o line (spot_of a s) (state_of s w)).0
      (does in_iteration a.here input code o line (spot_of a s) (state_of s w)).1 go) at
      ∙ ap (λ (r : Answer Move × State Content). after r.0 r.1 go) did

module _ (input : List ℤ) (code : Code) (s0 s s' : Active) (w0 w w' : Content) (run : Further input code s0 w0 s w) where
  pub went_on : IsValid code → (x : Instr) → slice_get code.instrs s.place ≡ Some x → Did input code x s w (Ok tt) s' w' → Further input code s0 w0 s' w'
  went_on valid x at did = record {
    comes = λ a k.
        let h = run.comes a (suc k) in
        (h.0, h.1 ∙ step_on input code s w x at a _ (did.0 a (or_no_line (slice_get code.lines s.place))) k);
    fits = fits_next code valid s run.fits x s' at did.1;
    below = did.1.below ∙ run.below;
    room = did.1.room ∙ run.room;
    size = did.2 ∙ run.size;
    weighs = λ n. let h = falls_next code valid s run.fits x s' at did.1 n in omega (arith, h, run.weighs n);
  }

  pub stayed : s' ≡ s → w' ≡ w → Further input code s0 w0 s' w'
  stayed same_s same_w =
      subst (λ s. Further input code s0 w0 s w') (sym same_s) (subst (λ w. Further input code s0 w0 s w) (sym same_w) run)

  -- one run after another
  pub goes_on : Further input code s w s' w' → Further input code s0 w0 s' w'
  goes_on next = record {
    comes = λ a k.
        let h = next.comes a k in
        let b = run.comes a h.0 in
        (b.0, b.1 ∙ h.1);
    fits = next.fits;
    below = next.below ∙ run.below;
    room = next.room ∙ run.room;
    size = next.size ∙ run.size;
    weighs = λ n. let h = next.weighs n in omega (arith, h, run.weighs n);
  }

  pub traps_on : (t : Trap) (line : ℕ) → Trapped input code s w t line s' w' → Trapped input code s0 w0 t line s' w'
  traps_on t line next a =
      let h = next a in
      let b = run.comes a h.0 in
      (b.0, b.1 ∙ h.1)

  pub ends_on : (e : Fault) → RanOn input code s w (Err e) s' w' → Ran input code s0 w0 (Err e) s' w'
  ends_on (exec_fault.Trap t line) next = traps_on t line next
  ends_on exec_fault.Memory next = tt

  pub trapped_there : (x : Instr) (t : Trap) (line : ℕ) → slice_get code.instrs s.place ≡ Some x → line ≡ or_no_line (slice_get code.lines s.place)
      → Did input code x s w (Err (fault.Trap t)) s' w' → (a : Around)
      → (j : ℕ) × (exec_to_stop in_iteration a.here input code j (spot_of a s0) (state_of s0 w0) ≡ (Err (t, line), state_of s' w'))
  trapped_there x t line at is did a =
      let h = run.comes a 1 in
      (h.0, h.1 ∙ step_on input code s w x at a _ (did.0 a (or_no_line (slice_get code.lines s.place))) 0 ∙ (λ j. (Err (t, sym is j), state_of s' w')))

  pub paused_there : (x : Instr) (p : Pause) → slice_get code.instrs s.place ≡ Some x → x ≡ instr_of p → s' ≡ s → w' ≡ w → Paused input code s0 w0 p s' w'
  paused_there x p at is same_s same_w =
      subst (λ s. Paused input code s0 w0 p s w') (sym same_s) (subst (λ w. Paused input code s0 w0 p s w) (sym same_w)
      (record { comes = run.comes; stands = at ∙ ap Some is; fits = run.fits; below = run.below; room = run.room; weighs = run.weighs }))
