-- The machine after a return.
use Rattle.std.proofs.Common.{◌≡◌, ℕ, suc, ◌+◌, ◌-◌, ◌*◌, ◌<◌, ◌≤◌, List, [], ◌∷◌, ◌++◌, length, take, drop, reverse, Some, Ok, sym, ap, ◌∙◌, subst, arith, length-append, add-one}
use Rattle.std.specs.Prelude.{slice_get, ℤ}
use Rattle.std.proofs.lemmas.List.{reverse-append}
use Rattle.al_core.specs.declared.values.Val.{Val}
use Rattle.al_core.specs.Action.{State, bind, pure, set_frame}
use Rattle.al_core.specs.Access.{Content, in_iteration}
use Rattle.al_core.specs.Meaning.{Where}
use Rattle.al_code.specs.declared.instructions.Instr.TheVariants as i
use Rattle.al_code.specs.declared.lowered.Code.{Code}
use Rattle.al_code.specs.Machine.{Caller, Spot, Goes, Ends, does, top, return_to, back_at}
use Rattle.al_exec.specs.declared.machine.Machine.{Machine}
use Rattle.al_exec.specs.declared.machine.Waiting.{Waiting}
use Rattle.al_exec.specs.declared.machine.Onward.TheVariants as onward
use Rattle.al_exec.specs.Active.{Active, state_of}
use Rattle.al_exec.specs.Frames.{Resumed}
use Rattle.al_exec.specs.Machines.{caller_in, callers_in, Lie, loops_in, where_of, spot_in, state_in, Stands, begun_in, Moved}
use Rattle.al_exec.proofs.Weights.{spent}

module _ (here : Where) (input : List ℤ) (code : Code) (line : ℕ) (c : Spot) (s : State Content) where
  return_goes : (k : Caller) (ks : List Caller) → c.callers ≡ k ∷ ks
      → does in_iteration here input code (Some i.Return) line c s ≡ (Ok (Goes (back_at k ks (suc c.room) (top c.stack))), record s { frame = k.frame })
  unfolding bind pure set_frame
  return_goes k ks is = ap (λ l. return_to c.room (top c.stack) l s) is

  return_ends : c.callers ≡ [] → does in_iteration here input code (Some i.Return) line c s ≡ (Ok (Ends (top c.stack)), s)
  unfolding pure
  return_ends is = ap (λ l. return_to c.room (top c.stack) l s) is

pub ended : (code : Code) (m m' : Machine) (v : Val) → m.callers.items ≡ [] → v ≡ top m.active.stack → m'.active ≡ m.active → m'.inside ≡ m.inside
    → (input : List ℤ) (w : Content) → Moved input code i.Return m w (onward.Ends v) m' w
ended code m m' v none is same inside input w = record {
  did = λ line.
      return_ends (where_of m.inside) input code line (spot_in m) (state_in m w) (ap (λ l. callers_in m.active.below (reverse l)) none)
      ∙ (λ j. (Ok (Ends (sym is j)), state_of (sym same j) w));
  inside = inside;
  stays = tt;
}

module _ (code : Code) (m : Machine) (stands : Stands code m) (w : Waiting) (waiting : List Waiting) (callers : m.callers.items ≡ waiting ++ w ∷ []) where
  abbrev s : Active
  s = m.active

  backwards : reverse m.callers.items ≡ w ∷ reverse waiting
  backwards = ap reverse callers ∙ reverse-append waiting (w ∷ [])

  lies : Lie code s.below (w ∷ reverse waiting)
  lies = subst (Lie code s.below) backwards stands.callers

  pub base_low : w.left.base ≤ w.left.floor
  base_low = lies.0

  pub floor_low : w.left.floor ≤ length s.below
  floor_low = lies.1

  pub room_for_value : suc (length s.below - w.left.floor) ≤ s.room
  room_for_value = stands.fits.room w.left.place (suc (length s.below - w.left.floor)) lies.2

  fewer : length m.callers.items ≡ length waiting + 1
  fewer = ap length callers ∙ length-append waiting (w ∷ [])

  pub room_low : m.room + 1 ≤ 255
  room_low = omega (arith, stands.calls, fewer)

  module _ (m' : Machine) (v : Val) (s2 : Active) (resumed : Resumed s w.left s2) (is : v ≡ top s.stack)
      (pushed : m'.active ≡ record s2 { stack = v ∷ s2.stack; height = s2.height + 1 })
      (left : m'.callers.items ≡ waiting) (inner : m'.inner.items ≡ w.inner.items) (room : m'.room ≡ m.room + 1)
      (inside : m'.inside ≡ m.inside) (tallest : m'.tallest ≡ m.tallest) where
    abbrev s3 : Active
    s3 = m'.active

    place_is : s3.place ≡ w.left.place
    place_is = ap (λ (s : Active). s.place) pushed ∙ ap (λ (s : Active). s.place) resumed.new

    below_is : s3.below ≡ take w.left.base s.below
    below_is = ap (λ (s : Active). s.below) pushed ∙ ap (λ (s : Active). s.below) resumed.new

    height_is : s3.height ≡ suc (length s.below - w.left.floor)
    height_is =
        ap (λ (s : Active). s.height) pushed ∙ ap (λ (s : Active). s.height + 1) resumed.new ∙ add-one (length s.below - w.left.floor)

    budget_is : s3.budget ≡ s.budget
    budget_is = ap (λ (s : Active). s.budget) pushed ∙ ap (λ (s : Active). s.budget) resumed.new

    callers_are : callers_in (take w.left.base s.below) (reverse waiting) ≡ callers_in s3.below (reverse m'.callers.items)
    callers_are = λ j. callers_in (sym below_is j) (reverse (sym left j))

    stack_is : top s.stack ∷ reverse (drop w.left.floor s.below) ≡ s3.stack
    stack_is =
        ap (λ x. x ∷ reverse (drop w.left.floor s.below)) (sym is)
        ∙ sym (ap (λ (s : Active). s.stack) pushed ∙ ap (λ (s : Active). v ∷ s.stack) resumed.new)

    did : (input : List ℤ) (c : Content) (line : ℕ)
        → does in_iteration (where_of m.inside) input code (Some i.Return) line (spot_in m) (state_in m c) ≡ (Ok (Goes (spot_in m')), state_in m' c)
    did input c line =
        return_goes (where_of m.inside) input code line (spot_in m) (state_in m c)
        (caller_in w s.below) (callers_in (take w.left.base s.below) (reverse waiting))
        (ap (callers_in s.below) backwards)
        ∙ (λ j. (
          Ok (Goes (record {
            place = sym place_is j;
            stack = stack_is j;
            inner = sym (ap reverse inner) j;
            callers = callers_are j;
            room = (sym (add-one m.room) ∙ sym room) j;
          })),
          record {
            frame = record {
              locals = sym (ap (λ (s : Active). s.locals) pushed ∙ ap (λ (s : Active). s.locals) resumed.new) j;
              own = sym (ap (λ (s : Active). s.own) pushed ∙ ap (λ (s : Active). s.own) resumed.new) j;
            };
            budget = sym budget_is j;
            world = c;
          },
        ))

    wider : s.room ≤ s3.room
    wider = let e = ap (λ (s : Active). s.room) pushed in omega (arith, e, resumed.room)

    stands' : Stands code m'
    stands' = record {
      fits = record {
        height = ap (slice_get code.heights) place_is ∙ lies.2 ∙ ap Some (sym height_is);
        room = λ q h g. let a = stands.fits.room q h g in omega (arith, a, wider);
      };
      callers = subst (λ l. Lie code s3.below (reverse l)) (sym left) (subst (λ b. Lie code b (reverse waiting)) (sym below_is) lies.3);
      tall = λ q h g. subst (λ k. h ≤ k) (sym tallest) (stands.tall q h g);
      calls = let e = ap length left in omega (arith, stands.calls, room, e, fewer);
    }

    begun : begun_in m' < begun_in m
    begun =
        let a = ap length inner in
        let b : loops_in (reverse m.callers.items) ≡ length w.inner.items + loops_in (reverse waiting) = ap loops_in backwards in
        let d : loops_in (reverse m'.callers.items) ≡ loops_in (reverse waiting) = ap (λ l. loops_in (reverse l)) left in
        let e = ap length left in
        omega (arith, a, b, d, e, fewer)

    pub returned : (input : List ℤ) (c : Content) → Moved input code i.Return m c onward.Goes m' c
    returned input c = record {
      did = did input c;
      inside = inside;
      stays = (
        stands',
        spent code s.place s3.place (2 * s.budget + begun_in m) (2 * s3.budget + begun_in m') (omega (arith, begun, budget_is)),
      );
    }
