-- The trips of a loop that runs as an ordinary one.
use Rattle.std.proofs.Common.{◌≡◌, inl, inr, ℕ, suc, ◌+◌, ◌-◌, List, [], ◌∷◌, ◌++◌, length, reverse, Ok, Err, sym, ap, ◌∙◌, arith, length-append, add-one}
use Rattle.std.specs.Prelude.{pos, ◌+ℤ◌}
use Rattle.std.specs.Int.{int_max}
use Rattle.std.proofs.lemmas.List.{reverse-append}
use Rattle.al_core.specs.declared.values.Val.{Val}
use Rattle.al_core.specs.declared.values.Val.TheVariants.{Int}
use Rattle.al_core.specs.declared.values.Trap.TheVariants as trap
use Rattle.al_core.specs.declared.view.ViewFault.{ViewFault}
use Rattle.al_core.specs.declared.view.ViewFault.TheVariants as fault
use Rattle.al_core.specs.Action.{State, Answer, after, bind, pure, spend, set_local}
use Rattle.al_core.specs.Access.{Content, in_iteration}
use Rattle.al_code.specs.declared.lowered.Body.{Body}
use Rattle.al_code.specs.Machine.{InnerLoop, Spot, Goes, trip, in_body}
use Rattle.al_exec.specs.declared.machine.Machine.{Machine}
use Rattle.al_exec.specs.Active.{Active, state_of}
use Rattle.al_exec.specs.Meets.{Answers}
use Rattle.al_exec.specs.Machines.{spot_in, state_in}
use Rattle.al_exec.specs.Tripping.{Begins, trip_of, Tripped, Trips}

module _ (counter : ℕ) (body : Body) (x : InnerLoop) (m : Machine) (w : Content) (line : ℕ) (inner : List InnerLoop) where
  abbrev outer : List InnerLoop
  outer = reverse m.inner.items

  abbrev here : Spot
  here = record (spot_in m) { inner = inner }

  over_ok : (t : State Content) → x.left ≡ 0 → set_local in_iteration counter (Int (int_max x.lo x.hi)) line (state_in m w) ≡ (Ok tt, t)
      → trip_of counter body x m w line inner ≡ (Ok (Goes (record here { place = body.end; inner = outer })), t)
  unfolding bind pure
  over_ok t none did =
      ap (λ n. trip in_iteration line counter body here outer x.loop x.lo x.hi x.next n (state_in m w)) none
      ∙ ap (λ (r : Answer (Unit {0}) × State Content). after r.0 r.1 (λ u. pure (Goes (record here { place = body.end; inner = outer })))) did

  over_err : (t : State Content) (e : _ × ℕ) → x.left ≡ 0 → set_local in_iteration counter (Int (int_max x.lo x.hi)) line (state_in m w) ≡ (Err e, t)
      → trip_of counter body x m w line inner ≡ (Err e, t)
  unfolding bind pure
  over_err t e none did =
      ap (λ n. trip in_iteration line counter body here outer x.loop x.lo x.hi x.next n (state_in m w)) none
      ∙ ap (λ (r : Answer (Unit {0}) × State Content). after r.0 r.1 (λ u. pure (Goes (record here { place = body.end; inner = outer })))) did

  pub unpaid : (n : ℕ) → x.left ≡ suc n → m.active.budget ≡ 0 → trip_of counter body x m w line inner ≡ (Err (trap.Steps, line), state_in m w)
  unfolding bind spend
  unpaid n some none =
      ap (λ n. trip in_iteration line counter body here outer x.loop x.lo x.hi x.next n (state_in m w)) some
      ∙ ap (λ k. trip in_iteration line counter body here outer x.loop x.lo x.hi x.next (suc n) (record (state_in m w) { budget = k })) none
      ∙ (λ j. (Err (trap.Steps, line), record (state_in m w) { budget = sym none j }))

  in_ok : (n left : ℕ) (t : State Content) → x.left ≡ suc n → m.active.budget ≡ suc left
      → set_local in_iteration counter (Int (x.lo +ℤ pos x.next)) line (record (state_in m w) { budget = left }) ≡ (Ok tt, t)
      → trip_of counter body x m w line inner ≡ (Ok (Goes (in_body body here outer x.loop x.lo x.hi x.next n)), t)
  unfolding bind pure spend
  in_ok n left t some paid did =
      ap (λ n. trip in_iteration line counter body here outer x.loop x.lo x.hi x.next n (state_in m w)) some
      ∙ ap (λ k. trip in_iteration line counter body here outer x.loop x.lo x.hi x.next (suc n) (record (state_in m w) { budget = k })) paid
      ∙ ap (λ (r : Answer (Unit {0}) × State Content). after r.0 r.1 (λ u. pure (Goes (in_body body here outer x.loop x.lo x.hi x.next n)))) did

  in_err : (n left : ℕ) (t : State Content) (e : _ × ℕ) → x.left ≡ suc n → m.active.budget ≡ suc left
      → set_local in_iteration counter (Int (x.lo +ℤ pos x.next)) line (record (state_in m w) { budget = left }) ≡ (Err e, t)
      → trip_of counter body x m w line inner ≡ (Err e, t)
  unfolding bind pure spend
  in_err n left t e some paid did =
      ap (λ n. trip in_iteration line counter body here outer x.loop x.lo x.hi x.next n (state_in m w)) some
      ∙ ap (λ k. trip in_iteration line counter body here outer x.loop x.lo x.hi x.next (suc n) (record (state_in m w) { budget = k })) paid
      ∙ ap (λ (r : Answer (Unit {0}) × State Content). after r.0 r.1 (λ u. pure (Goes (in_body body here outer x.loop x.lo x.hi x.next n)))) did

-- ---- the machine

module _ (counter : ℕ) (body : Body) (x : InnerLoop) (m m' : Machine) (w w' : Content) (s2 : Active) (v : Val) where
  pub over : x.left ≡ 0 → v ≡ Int (int_max x.lo x.hi)
      → ((line : ℕ) → set_local in_iteration counter v line (state_in m w) ≡ (Ok tt, state_of s2 w')) → s2 ≡ record m.active { locals = s2.locals }
      → m' ≡ record m { active = record s2 { place = body.end } } → Tripped counter body x m w m' w'
  over none is did kept new =
      let place : m'.active.place ≡ body.end = ap (λ (m : Machine). m.active.place) new in
      let now : m'.active ≡ record m.active { place = body.end; locals = s2.locals } =
      ap (λ (m : Machine). m.active) new ∙ ap (λ (s : Active). record s { place = body.end }) kept in
      let locals : m'.active.locals ≡ s2.locals = ap (λ (s : Active). s.locals) now in
      let steps : m'.active.budget ≡ m.active.budget = ap (λ (s : Active). s.budget) now in
      record {
        did = λ line inner.
            over_ok counter body x m w line inner (state_of s2 w') none (ap (λ v. set_local in_iteration counter v line (state_in m w)) (sym is) ∙ did line)
            ∙ (λ j. (
              Ok (Goes (spot_in (record m { active = record (sym kept j) { place = body.end } }))),
              state_of s2 w',
            ))
            ∙ (λ j. (Ok (Goes (spot_in (sym new j))), state_in (sym new j) w'));
        led = record {
          same = new
              ∙ (λ j. record m { active = record (kept j) { place = body.end } })
              ∙ (λ j. record m {
                active = record m.active { place = sym place j; locals = sym locals j; budget = sym steps j };
                inner = ap (λ (m : Machine). m.inner) (sym new) j;
              });
          leads = inl (record { place = place; steps = steps; inner = ap (λ (m : Machine). m.inner) new });
        };
      }

  pub over_fault : (e : ViewFault) → x.left ≡ 0 → v ≡ Int (int_max x.lo x.hi)
      → Answers (set_local in_iteration counter v) m.active w (Err e) s2 w' → m'.active ≡ s2 → Trips counter body x m w (Err e) m' w'
  over_fault (fault.Trap t) none is did new = λ line inner.
      over_err counter body x m w line inner (state_of s2 w') (t, line) none
      (ap (λ v. set_local in_iteration counter v line (state_in m w)) (sym is) ∙ did line)
      ∙ (λ j. (Err (t, line), state_of (sym new j) w'))
  over_fault fault.Memory none is did new = tt

  module _ (s1 : Active) (n : ℕ) (some : x.left ≡ suc n) (paid : m.active.budget ≡ suc s1.budget) (spent : s1 ≡ record m.active { budget = s1.budget })
      (is : v ≡ Int (x.lo +ℤ pos x.next)) where
    state_is : record (state_in m w) { budget = s1.budget } ≡ state_of s1 w
    state_is = λ j. state_of (sym spent j) w

    pub body_fault : (e : ViewFault) → Answers (set_local in_iteration counter v) s1 w (Err e) s2 w' → m'.active ≡ s2 → Trips counter body x m w (Err e) m' w'
    body_fault (fault.Trap t) did new = λ line inner.
        in_err counter body x m w line inner n s1.budget (state_of s2 w') (t, line) some paid
        ((λ j. set_local in_iteration counter (sym is j) line (state_is j)) ∙ did line)
        ∙ (λ j. (Err (t, line), state_of (sym new j) w'))
    body_fault fault.Memory did new = tt

    pub in_the_body : ((line : ℕ) → set_local in_iteration counter v line (state_of s1 w) ≡ (Ok tt, state_of s2 w')) → s2 ≡ record s1 { locals = s2.locals }
        → (m2 : Machine) → m2 ≡ record m { active = record s2 { place = body.start } } → (y : InnerLoop) → y ≡ record x { next = x.next + 1; left = x.left - 1 }
        → Begins m2 y m' → Tripped counter body x m w m' w'
    in_the_body did kept m2 new y turned begins =
        let now : m'.active ≡ record m.active { place = body.start; locals = s2.locals; budget = s1.budget } =
        ap (λ (m : Machine). m.active) begins.same ∙ ap (λ (m : Machine). m.active) new
        ∙ ap (λ (s : Active). record s { place = body.start }) (kept ∙ ap (λ (s : Active). record s { locals = s2.locals }) spent) in
        let place : m'.active.place ≡ body.start = ap (λ (s : Active). s.place) now in
        let locals : m'.active.locals ≡ s2.locals = ap (λ (s : Active). s.locals) now in
        let steps : m'.active.budget ≡ s1.budget = ap (λ (s : Active). s.budget) now in
        let last : m'.inner.items ≡ m.inner.items ++ y ∷ [] = begins.last ∙ ap (λ (m : Machine). m.inner.items ++ y ∷ []) new in
        let one : y ≡ record x { next = suc x.next; left = n } =
        turned ∙ (λ j. record x { next = add-one x.next j; left = (let e : x.left - 1 ≡ n = omega (arith, some) in e j) }) in
        let loops : record x { next = suc x.next; left = n } ∷ reverse m.inner.items ≡ reverse m'.inner.items =
        ap (λ y. y ∷ reverse m.inner.items) (sym one) ∙ sym (ap reverse last ∙ reverse-append m.inner.items (y ∷ [])) in
        let whole : m' ≡ record m { active = record m.active { place = body.start; locals = s2.locals; budget = s1.budget }; inner = m'.inner } =
        begins.same ∙ (λ j. record (new j) { inner = m'.inner })
        ∙ (λ j. record m {
          active =
              record ((kept ∙ ap (λ (s : Active). record s { locals = s2.locals }) spent) j) { place = body.start };
          inner = m'.inner;
        }) in
        record {
          did = λ line inner.
              in_ok counter body x m w line inner n s1.budget (state_of s2 w') some paid
              ((λ j. set_local in_iteration counter (sym is j) line (state_is j)) ∙ did line)
              ∙ (λ j. (
                Ok (Goes (record (spot_in m) { place = body.start; inner = loops j })),
                state_of ((kept ∙ ap (λ (s : Active). record s { locals = s2.locals }) spent) j) w',
              ))
              ∙ (λ j. (Ok (Goes (spot_in (sym whole j))), state_in (sym whole j) w'));
          led = record {
            same = whole ∙ (λ j. record m {
              active = record m.active { place = sym place j; locals = sym locals j; budget = sym steps j };
              inner = m'.inner;
            });
            leads = inr (record {
              place = place;
              steps = paid ∙ ap suc (sym steps);
              inner = ap length last ∙ length-append m.inner.items (y ∷ []);
            });
          };
        }
