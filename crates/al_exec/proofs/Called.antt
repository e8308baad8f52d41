-- The machine after a call.
use Rattle.std.proofs.Common.{◌≡◌, ℕ, suc, ◌+◌, ◌-◌, ◌*◌, ◌<◌, ◌≤◌, List, [], ◌∷◌, ◌++◌, length, drop, reverse, Some, Ok, sym, ap, ◌∙◌, subst, arith, length-append, add-one}
use Rattle.std.specs.Prelude.{slice_get, ℤ}
use Rattle.std.proofs.lemmas.List.{reverse-append}
use Rattle.al_core.specs.Action.{Frame}
use Rattle.al_core.specs.Access.{Content, in_iteration}
use Rattle.al_code.specs.declared.instructions.Instr.TheVariants as i
use Rattle.al_code.specs.declared.lowered.Entry.{Entry}
use Rattle.al_code.specs.declared.lowered.Code.{Code}
use Rattle.al_code.specs.Machine.{Goes, does, caller_at}
use Rattle.al_code.specs.Valid.{IsValid, params_of}
use Rattle.al_exec.specs.declared.active.Left.{Left}
use Rattle.al_exec.specs.declared.machine.Machine.{Machine}
use Rattle.al_exec.specs.declared.machine.Waiting.{Waiting}
use Rattle.al_exec.specs.declared.machine.Onward.TheVariants as onward
use Rattle.al_exec.specs.Active.{Active}
use Rattle.al_exec.specs.Frames.{Opened, Filled}
use Rattle.al_exec.specs.Running.{Fits}
use Rattle.al_exec.specs.Machines.{caller_in, callers_in, Lie, loops_in, where_of, spot_in, state_in, Stands, begun_in, Moved}
use Rattle.al_exec.proofs.Calling.{call_goes, locals_are, place_is, below_is, caller_frame, caller_stack, caller_height, floor_within, budget_is, room_is}
use Rattle.al_exec.proofs.Weights.{spent}

module _ (code : Code) (valid : IsValid code) (m : Machine) (stands : Stands code m) (f : ℕ) (e : Entry)
    (at : slice_get code.instrs m.active.place ≡ Some (i.Call f)) (has : slice_get code.funcs f ≡ Some e) where
  pub params_fit : e.params ≤ e.locals
  params_fit = (valid.functions f e has).params

  pub args_stand : e.params ≤ m.active.height
  args_stand =
      let h = (valid.instrs m.active.place (i.Call f) m.active.height at stands.fits.height).operands in
      let p : params_of (slice_get code.funcs f) ≡ e.params = ap params_of has in
      omega (arith, h, p)

  -- the height of the place after the call
  after_call : slice_get code.heights (m.active.place + 1) ≡ Some (suc (m.active.height - e.params))
  after_call =
      let h = (valid.instrs m.active.place (i.Call f) m.active.height at stands.fits.height).heights.0 in
      let p : params_of (slice_get code.funcs f) ≡ e.params = ap params_of has in
      ap (slice_get code.heights) (add-one m.active.place) ∙ h
      ∙ ap (λ k. Some (m.active.height - k + 1)) p ∙ ap Some (add-one (m.active.height - e.params))

  module _ (m' : Machine) (s1 s2 : Active) (left : Left) (n : ℕ) (room : m.room ≡ suc n)
      (steps : m.active.budget ≡ suc s1.budget) (paid : s1 ≡ record m.active { budget = s1.budget })
      (filled : Filled s1 (e.locals - e.params) m.tallest s2) (opened : Opened s2 e.locals e.start left m'.active)
      (callers : m'.callers.items ≡ m.callers.items ++ record { left = left; inner = m.inner } ∷ [])
      (inner : m'.inner.items ≡ []) (room' : m'.room ≡ n) (inside : m'.inside ≡ m.inside) (tallest : m'.tallest ≡ m.tallest) where
    abbrev s : Active
    s = m.active

    abbrev s3 : Active
    s3 = m'.active

    abbrev waiting : Waiting
    waiting = record { left = left; inner = m.inner }

    backwards : reverse m'.callers.items ≡ waiting ∷ reverse m.callers.items
    backwards = ap reverse callers ∙ reverse-append m.callers.items (waiting ∷ [])

    abbrev frame : Frame
    frame = record { locals = s.locals; own = s.own }

    this_caller : caller_in waiting s3.below ≡ caller_at (spot_in m) (drop e.params s.stack) frame
    this_caller = λ j. record {
      place = place_is e m.tallest s s1 s2 s3 left params_fit paid filled opened j;
      stack = caller_stack e m.tallest s s1 s2 s3 left params_fit paid filled opened j;
      inner = reverse m.inner.items;
      frame = caller_frame e m.tallest s s1 s2 s3 left params_fit paid filled opened j;
    }

    all_callers : caller_at (spot_in m) (drop e.params s.stack) frame ∷ callers_in s.below (reverse m.callers.items)
        ≡ callers_in s3.below (reverse m'.callers.items)
    all_callers =
        sym (ap (callers_in s3.below) backwards
        ∙ (λ j. this_caller j ∷ callers_in (below_is e m.tallest s s1 s2 s3 left params_fit paid filled opened j) (reverse m.callers.items)))

    did : (input : List ℤ) (w : Content) (line : ℕ)
        → does in_iteration (where_of m.inside) input code (Some (i.Call f)) line (spot_in m) (state_in m w)
        ≡ (Ok (Goes (spot_in m')), state_in m' w)
    did input w line =
        call_goes (where_of m.inside) input code f e has (spot_in m) line (state_in m w) n s1.budget room steps
        ∙ (λ j. (
          Ok (Goes (record {
            place = sym (ap (λ (s : Active). s.place) opened.new) j;
            stack = sym (ap (λ (s : Active). s.stack) opened.new) j;
            inner = sym (ap reverse inner) j;
            callers = all_callers j;
            room = sym room' j;
          })),
          record {
            frame = record {
              locals = sym (locals_are e m.tallest s s1 s2 s3 left params_fit paid filled opened args_stand) j;
              own = sym (ap (λ (s : Active). s.own) opened.new) j;
            };
            budget = sym (budget_is e m.tallest s s1 s2 s3 left params_fit paid filled opened) j;
            world = w;
          },
        ))

    fits : Fits code s3
    fits = record {
      height =
          ap (slice_get code.heights) (ap (λ (s : Active). s.place) opened.new)
          ∙ (valid.functions f e has).height ∙ ap Some (sym (ap (λ (s : Active). s.height) opened.new));
      room = λ q h g.
          let a = stands.tall q h g in
          let b = room_is e m.tallest s s1 s2 s3 left params_fit paid filled opened in
          omega (arith, a, b);
    }

    lie : Lie code s3.below (reverse m'.callers.items)
    lie =
        subst (Lie code s3.below) (sym backwards) (
          opened.base,
          floor_within e m.tallest s s1 s2 s3 left params_fit paid filled opened,
          ap (slice_get code.heights) (place_is e m.tallest s s1 s2 s3 left params_fit paid filled opened) ∙ after_call
              ∙ ap (λ k. Some (suc k)) (sym (caller_height e m.tallest s s1 s2 s3 left params_fit paid filled opened args_stand)),
          subst (λ b. Lie code b (reverse m.callers.items)) (sym (below_is e m.tallest s s1 s2 s3 left params_fit paid filled opened)) stands.callers,
        )

    one_more : length m'.callers.items ≡ length m.callers.items + 1
    one_more = ap length callers ∙ length-append m.callers.items (waiting ∷ [])

    stands' : Stands code m'
    stands' = record {
      fits = fits;
      callers = lie;
      tall = λ q h g. subst (λ k. h ≤ k) (sym tallest) (stands.tall q h g);
      calls = omega (arith, stands.calls, room, room', one_more);
    }

    begun : begun_in m' ≡ begun_in m + 1
    begun =
        let a = ap length inner in
        let b : loops_in (reverse m'.callers.items) ≡ length m.inner.items + loops_in (reverse m.callers.items) = ap loops_in backwards in
        omega (arith, a, b, one_more)

    less : 2 * s3.budget + begun_in m' < 2 * s.budget + begun_in m
    less = let a = budget_is e m.tallest s s1 s2 s3 left params_fit paid filled opened in omega (arith, a, steps, begun)

    pub call_moved : (input : List ℤ) (w : Content) → Moved input code (i.Call f) m w onward.Goes m' w
    call_moved input w = record {
      did = did input w;
      inside = inside;
      stays = (stands', spent code s.place s3.place (2 * s.budget + begun_in m) (2 * s3.budget + begun_in m') less);
    }
