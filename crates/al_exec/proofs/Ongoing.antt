-- From one pause of the machine to the next, and to a stop.
use Rattle.std.proofs.Common.{◌≡◌, ℕ, suc, ◌<◌, ◌≤◌, List, reverse, Some, Ok, Err, refl, sym, ap, ◌∙◌, subst, arith}
use Rattle.std.specs.Prelude.{slice_get, ℤ}
use Rattle.al_core.specs.declared.values.Val.{Val}
use Rattle.al_core.specs.declared.values.Trap.{Trap}
use Rattle.al_core.specs.Action.{State, Answer, after, bind, pure}
use Rattle.al_core.specs.Access.{Content, in_iteration}
use Rattle.al_code.specs.declared.instructions.Instr.{Instr}
use Rattle.al_code.specs.declared.lowered.Code.{Code}
use Rattle.al_code.specs.Machine.{Move, does}
use Rattle.al_code.specs.Runs.{Ended, or_no_line, moved_to_stop, exec_to_stop, ComesTo}
use Rattle.al_exec.specs.declared.machine.Machine.{Machine}
use Rattle.al_exec.specs.declared.machine.Onward.TheVariants as onward
use Rattle.al_exec.specs.declared.pause.Pause.{Pause}
use Rattle.al_exec.specs.Active.{Active, state_of}
use Rattle.al_exec.specs.Meets.{Around, spot_of}
use Rattle.al_exec.specs.Running.{Paused}
use Rattle.al_exec.specs.Machines.{callers_in, Lie, where_of, around_of, spot_in, state_in, Stands, Keeps, begun_in, total, Moved}
use Rattle.al_exec.specs.Going.{run_in, StopsAtLoop}

-- with other locals it stands where it stood
pub relocated : (code : Code) (m : Machine) (s : Active) → s ≡ record m.active { locals = s.locals } → Stands code m → Stands code (record m { active = s })
relocated code m s same stands =
    subst (λ (s : Active). Stands code (record m { active = s })) (sym same)
    (record {
      fits = record { height = stands.fits.height; room = stands.fits.room };
      callers = stands.callers;
      tall = stands.tall;
      calls = stands.calls;
    })

-- how far the machine is from where it began
pub record InGo (input : List ℤ) (code : Code) (m0 : Machine) (w0 : Content) (m : Machine) (w : Content) : Type 0 where
  pub comes : (k : ℕ) → (j : ℕ) × (run_in input code m0 j (state_in m0 w0) ≡ run_in input code m k (state_in m w))
  pub stands : Stands code m
  pub inside : m.inside ≡ m0.inside
  pub kept : Keeps m0 m

-- in turn
pub keeps_on : (m m1 m2 : Machine) → Keeps m m1 → Keeps m1 m2 → Keeps m m2
keeps_on m m1 m2 a b = record { cells = omega (arith, a.cells, b.cells); tallest = b.tallest ∙ a.tallest }

pub ran_kept : (m0 m m1 : Machine) (s1 : Active) → Keeps m0 m → s1.size ≡ m.active.size → m1 ≡ record m { active = s1; bytes = m1.bytes } → Keeps m0 m1
ran_kept m0 m m1 s1 kept size new =
    let same : m1.active.size ≡ s1.size = ap (λ (m : Machine). m.active.size) new in
    record { cells = omega (arith, kept.cells, size, same); tallest = ap (λ (m : Machine). m.tallest) new ∙ kept.tallest }

pub begun : (input : List ℤ) (code : Code) (m : Machine) (w : Content) → Stands code m → InGo input code m w m w
begun input code m w stands = record { comes = λ k. (k, refl); stands = stands; inside = refl; kept = record { cells = omega arith; tallest = refl } }

module _ (input : List ℤ) (code : Code) (m0 m m1 : Machine) (w0 w w1 : Content) (go : InGo input code m0 w0 m w) (p : Pause) (s1 : Active)
    (paused : Paused input code m.active w p s1 w1) (size : s1.size ≡ m.active.size) (new : m1 ≡ record m { active = s1; bytes = m1.bytes }) where
  same_callers : callers_in s1.below (reverse m.callers.items) ≡ callers_in m.active.below (reverse m.callers.items)
  same_callers = ap (λ b. callers_in b (reverse m.callers.items)) paused.below

  abbrev m2 : Machine
  m2 = record m { active = s1; bytes = m1.bytes }

  paused_stands : Stands code m2
  paused_stands = record {
    fits = paused.fits;
    callers = subst (λ b. Lie code b (reverse m.callers.items)) (sym paused.below) go.stands.callers;
    tall = go.stands.tall;
    calls = go.stands.calls;
  }

  paused_comes : (k : ℕ) → (j : ℕ) × (run_in input code m0 j (state_in m0 w0) ≡ run_in input code m2 k (state_in m2 w1))
  paused_comes k =
      let a = paused.comes (around_of m) k in
      let b = go.comes a.0 in (
        b.0,
        b.1 ∙ a.1
            ∙ (λ j. exec_to_stop in_iteration (where_of m.inside) input code k
            (record { place = s1.place; stack = s1.stack; inner = reverse m.inner.items; callers = sym same_callers j; room = m.room }) (state_of s1 w1)),
      )

  pub paused_on : InGo input code m0 w0 m1 w1
  paused_on =
      subst (λ (m : Machine). InGo input code m0 w0 m w1) (sym new)
      (record { comes = paused_comes; stands = paused_stands; inside = go.inside; kept = ran_kept m0 m m2 s1 go.kept size refl })

  pub paused_less : total code m1 ≤ total code m
  paused_less =
      subst (λ (x : Machine). total code x ≤ total code m) (sym new) (paused.weighs (begun_in m))

  pub paused_at : slice_get code.instrs m1.active.place ≡ Some (Rattle.al_exec.specs.Pauses.instr_of p)
  paused_at = ap (λ (x : Machine). slice_get code.instrs x.active.place) new ∙ paused.stands

module _ (input : List ℤ) (code : Code) (m0 m m' : Machine) (w0 w w' : Content) (go : InGo input code m0 w0 m w) (x : Instr)
    (at : slice_get code.instrs m.active.place ≡ Some x) where
  abbrev line : ℕ
  line = or_no_line (slice_get code.lines m.active.place)

  step : (r : Answer Move × State Content) → does in_iteration (where_of m.inside) input code (Some x) line (spot_in m) (state_in m w) ≡ r → (k : ℕ)
      → run_in input code m (suc k) (state_in m w)
      ≡ after r.0 r.1 (moved_to_stop in_iteration (where_of m.inside) input code (exec_to_stop in_iteration (where_of m.inside) input code k))
  unfolding bind
  step r did k =
      let next = moved_to_stop in_iteration (where_of m.inside) input code (exec_to_stop in_iteration (where_of m.inside) input code k) in
      ap (λ o. after (does in_iteration (where_of m.inside) input code o line (spot_in m) (state_in m w)).0
      (does in_iteration (where_of m.inside) input code o line (spot_in m) (state_in m w)).1 next) at
      ∙ ap (λ (r : Answer Move × State Content). after r.0 r.1 next) did

  pub moved_on : Moved input code x m w onward.Goes m' w' → Keeps m m' → InGo input code m0 w0 m' w'
  moved_on moved kept = record {
    comes = λ k.
        let a = go.comes (suc k) in (
          a.0,
          a.1 ∙ step _ (moved.did line) k
              ∙ ap (λ b. exec_to_stop in_iteration (where_of b) input code k (spot_in m') (state_in m' w')) (sym moved.inside),
        );
    stands = moved.stays.0;
    inside = moved.inside ∙ go.inside;
    kept = keeps_on m0 m m' go.kept kept;
  }

  pub moved_less : Moved input code x m w onward.Goes m' w' → total code m' < total code m
  moved_less moved = moved.stays.1

  pub stopped_at : (k : ℕ) (lo hi : ℤ) → Moved input code x m w (onward.Stops k lo hi) m' w'
      → StopsAtLoop code m0.inside (run_in input code m0) (state_in m0 w0) k lo hi m' m'.active.budget w'
  unfolding pure
  stopped_at k lo hi moved =
      let a = go.comes 1 in
      record {
        comes = (a.0, a.1 ∙ step _ (moved.did line) 0);
        stands = moved.stays.0;
        here = moved.inside ∙ go.inside;
        counter = moved.stays.1;
      }

  pub ended_with : (v : Val) → Moved input code x m w (onward.Ends v) m' w'
      → ComesTo (run_in input code m0) (state_in m0 w0) (Ok (Some (Ended v)), state_in m' w')
  unfolding pure
  ended_with v moved = let a = go.comes 1 in (a.0, a.1 ∙ step _ (moved.did line) 0)

  pub trapped_with : (t : Trap) (l : ℕ) → l ≡ line
      → ((line : ℕ) → does in_iteration (where_of m.inside) input code (Some x) line (spot_in m) (state_in m w) ≡ (Err (t, line), state_in m' w'))
      → ComesTo (run_in input code m0) (state_in m0 w0) (Err (t, l), state_in m' w')
  trapped_with t l is did = let a = go.comes 1 in (a.0, a.1 ∙ step _ (did line) 0 ∙ (λ j. (Err (t, sym is j), state_in m' w')))

module _ (input : List ℤ) (code : Code) (m0 m : Machine) (w0 w w' : Content) (go : InGo input code m0 w0 m w) where
  pub run_trapped : (s' : Active) (t : Trap) (l : ℕ)
      → ((a : Around) → (j : ℕ) × (exec_to_stop in_iteration a.here input code j (spot_of a m.active) (state_of m.active w) ≡ (Err (t, l), state_of s' w')))
      → ComesTo (run_in input code m0) (state_in m0 w0) (Err (t, l), state_of s' w')
  run_trapped s' t l h =
      let a = h (around_of m) in
      let b = go.comes a.0 in
      (b.0, b.1 ∙ a.1)
