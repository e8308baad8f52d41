-- The machine at an annotated loop and at the end of an iteration.
use Rattle.std.proofs.Common.{◌≡◌, ◌==◌, ℕ, zero, suc, ◌+◌, ◌-◌, ◌*◌, ◌<◌, ◌≤◌, Bool, true, false, if◌then◌else◌, List, [], ◌∷◌, ◌++◌, length, reverse, Option, Some, None, Result, Ok, Err, refl, sym, ap, ◌∙◌, subst, arith, ⊎_elim, length-append}
use Rattle.std.specs.Prelude.{slice_get, ℤ, pos}
use Rattle.std.specs.List.{AllByRecursion}
use Rattle.std.proofs.lemmas.Bool.{eq-eqb}
use Rattle.std.proofs.lemmas.List.{reverse-append}
use Rattle.std.proofs.lemmas.Option.{slice_get_within, slice_get_cases}
use Rattle.al_core.specs.declared.choices.LoopInfo.{LoopInfo}
use Rattle.al_core.specs.declared.values.Val.TheVariants.{Int}
use Rattle.al_core.specs.declared.values.Trap.{Trap}
use Rattle.al_core.specs.declared.view.ViewFault.{ViewFault}
use Rattle.al_core.specs.declared.view.ViewFault.TheVariants as fault
use Rattle.al_core.specs.Values.{trips}
use Rattle.al_core.specs.Action.{bind, pure, lift}
use Rattle.al_core.specs.Access.{Content, in_iteration}
use Rattle.al_code.specs.declared.instructions.Instr.TheVariants as i
use Rattle.al_code.specs.declared.lowered.Body.{Body}
use Rattle.al_code.specs.declared.lowered.Code.{Code}
use Rattle.al_code.specs.Checks.{is_step}
use Rattle.al_code.specs.Machine.{InnerLoop, Spot, Stops, Ends, does, top, below, trip, begins, loop_at, again_at, iteration_end}
use Rattle.al_code.specs.Valid.{IsValid, IsBody, ended_places}
use Rattle.al_exec.specs.declared.machine.Machine.{Machine}
use Rattle.al_exec.specs.declared.machine.Onward.TheVariants as onward
use Rattle.al_exec.specs.declared.locals.Range.{Range}
use Rattle.al_exec.specs.Active.{Active, state_of}
use Rattle.al_exec.specs.Running.{weight}
use Rattle.al_exec.specs.Machines.{Lie, loops_in, where_of, spot_in, state_in, Stands, begun_in, total, Moved, Moves}
use Rattle.al_exec.specs.Tripping.{trip_of, InBody, Led, Tripped, Trips, range_then, RangeRead, ReadsRange, begins_of, Begun, BeginsLoop}
use Rattle.al_exec.proofs.Weights.{spent, goes_forward}
use Rattle.al_exec.proofs.Going.{is_within}

-- ---- a loop begins

module _ (counter : ℕ) (body : Body) (k : ℕ) (lo hi : ℤ) (m m' : Machine) (w w' : Content) where
  begins_as : (x : InnerLoop) → trips lo hi ≡ Ok x.left → x ≡ record { loop = k; lo = lo; hi = hi; next = 0; left = x.left } → (line : ℕ)
      → begins_of counter body k lo hi m w line ≡ trip_of counter body x m w line (reverse m.inner.items)
  unfolding bind lift
  begins_as x count is line =
      ap (λ (r : Result ℕ Trap). bind (lift line r)
      (λ n. trip in_iteration line counter body (spot_in m) (reverse m.inner.items) k lo hi 0 n) (state_in m w)) count
      ∙ ap (λ (y : InnerLoop). trip in_iteration line counter body (spot_in m) (reverse m.inner.items) y.loop y.lo y.hi y.next y.left (state_in m w)) (sym is)

  pub trip_begun : (x : InnerLoop) → trips lo hi ≡ Ok x.left → x ≡ record { loop = k; lo = lo; hi = hi; next = 0; left = x.left }
      → (r : Result (Unit {0}) ViewFault) → Trips counter body x m w r m' w' → BeginsLoop counter body k lo hi m w r m' w'
  trip_begun x count is (Ok u) h = record { did = λ line. begins_as x count is line ∙ h.did line (reverse m.inner.items); led = h.led }
  trip_begun x count is (Err (fault.Trap t)) h = λ line. begins_as x count is line ∙ h line (reverse m.inner.items)
  trip_begun x count is (Err fault.Memory) h = tt

  pub too_many : (t : Trap) → trips lo hi ≡ Err t → (line : ℕ) → begins_of counter body k lo hi m w line ≡ (Err (t, line), state_in m w)
  unfolding bind lift
  too_many t count line =
      ap (λ (r : Result ℕ Trap). bind (lift line r)
      (λ n. trip in_iteration line counter body (spot_in m) (reverse m.inner.items) k lo hi 0 n) (state_in m w)) count

-- ---- where a trip leads

module _ (code : Code) (m m1 m' : Machine) (stands : Stands code m) (body : Body) (led : Led body m1 m')
    (below_is : m1.active.below ≡ m.active.below) (room_is : m1.active.room ≡ m.active.room) (steps_are : m1.active.budget ≡ m.active.budget)
    (callers_are : m1.callers ≡ m.callers) (calls_are : m1.room ≡ m.room) (tallest_is : m1.tallest ≡ m.tallest)
    (first : slice_get code.heights body.start ≡ Some m1.active.height) (last : slice_get code.heights body.end ≡ Some m1.active.height) where
  waiting : m'.callers ≡ m.callers
  waiting = ap (λ (m : Machine). m.callers) led.same ∙ callers_are

  led_stands : Stands code m'
  led_stands = record {
    fits = record {
      height =
          ⊎_elim (λ o. ap (slice_get code.heights) o.place ∙ last) (λ b. ap (slice_get code.heights) b.place ∙ first) led.leads
          ∙ ap Some (sym (ap (λ (m : Machine). m.active.height) led.same));
      room = λ q h g. subst (λ n. h ≤ n) (sym (ap (λ (m : Machine). m.active.room) led.same ∙ room_is)) (stands.fits.room q h g);
    };
    callers =
        subst (λ l. Lie code m'.active.below (reverse l.items)) (sym waiting)
        (subst (λ b. Lie code b (reverse m.callers.items)) (sym (ap (λ (m : Machine). m.active.below) led.same ∙ below_is)) stands.callers);
    tall = λ q h g. subst (λ n. h ≤ n) (sym (ap (λ (m : Machine). m.tallest) led.same ∙ tallest_is)) (stands.tall q h g);
    calls =
        let a = ap (λ (m : Machine). m.room) led.same ∙ calls_are in
        let b = ap (λ l. length l.items) waiting in
        omega (arith, a, b, stands.calls);
  }

  same_waits : (length m'.callers.items ≡ length m.callers.items) × (loops_in (reverse m'.callers.items) ≡ loops_in (reverse m.callers.items))
  same_waits = (ap (λ l. length l.items) waiting, ap (λ l. loops_in (reverse l.items)) waiting)

  less_to_spend : 2 * m'.active.budget + begun_in m' < 2 * m.active.budget + begun_in m → total code m' < total code m
  less_to_spend h = spent code m.active.place m'.active.place (2 * m.active.budget + begun_in m) (2 * m'.active.budget + begun_in m') h

  in_body_less : length m1.inner.items ≤ length m.inner.items → InBody body m1 m' → total code m' < total code m
  in_body_less le b = less_to_spend (omega (arith, le, b.steps, b.inner, steps_are, same_waits.0, same_waits.1))

  -- after the last trip of the innermost loop
  pub ended_less : length m.inner.items ≡ length m1.inner.items + 1 → total code m' < total code m
  ended_less one =
      ⊎_elim
      (λ o. less_to_spend (let n = ap (λ l. length l.items) o.inner in omega (arith, one, o.steps, n, steps_are, same_waits.0, same_waits.1)))
      (in_body_less (omega (arith, one))) led.leads

  -- after the start of a loop, which stands before its body
  pub begun_less : m1.inner ≡ m.inner → m.active.place < length code.instrs → m.active.place < body.end
      → is_step (slice_get code.instrs m.active.place) ≡ false → total code m' < total code m
  begun_less same within after plain =
      ⊎_elim
      (λ o.
      let n = ap (λ l. length l.items) (o.inner ∙ same) in
      let e : begun_in m' ≡ begun_in m = omega (arith, n, same_waits.0, same_waits.1) in
      subst (λ k. weight code (2 * m'.active.budget + k) m'.active.place < total code m) (sym e)
      (goes_forward code m.active.place m'.active.place m.active.budget m'.active.budget (begun_in m) within
      (subst (λ p. m.active.place < p) (sym o.place) after) plain (o.steps ∙ steps_are)))
      (in_body_less (let n = ap (λ l. length l.items) same in omega (arith, n))) led.leads

-- ---- an annotated loop

module _ (code : Code) (valid : IsValid code) (m : Machine) (stands : Stands code m) (k : ℕ) (at : slice_get code.instrs m.active.place ≡ Some (i.Loop k)) where
  abbrev s : Active
  s = m.active

  pub loop_there : k < length code.loops
  loop_there = (valid.instrs s.place (i.Loop k) s.height at stands.fits.height).number

  pub body_there : k < length code.bodies
  body_there = let h = loop_there in omega (arith, h, valid.bodies)

  pub start_there : 1 ≤ s.height
  start_there = (valid.instrs s.place (i.Loop k) s.height at stands.fits.height).operands

  module _ (info : LoopInfo) (body : Body) (has_info : slice_get code.loops k ≡ Some info) (has_body : slice_get code.bodies k ≡ Some body) where
    abbrev there : Spot
    there = record (spot_in m) { stack = below s.stack }

    loop_does : (input : List ℤ) (w : Content) (line : ℕ)
        → does in_iteration (where_of m.inside) input code (Some (i.Loop k)) line (spot_in m) (state_in m w)
        ≡ range_then info.bound (top s.stack) line (λ lo hi. begins in_iteration (where_of m.inside) line info.counter body there k lo hi) (state_in m w)
    loop_does input w line = λ j. loop_at in_iteration (where_of m.inside) line there k (top s.stack) (has_info j) (has_body j) (state_in m w)

    heights_are : AllByRecursion (λ q. slice_get code.heights q ≡ Some (s.height - 1 + 0)) (body.start ∷ body.end ∷ [])
    heights_are =
        subst (λ (o : Option Body).
        AllByRecursion (λ q. slice_get code.heights q ≡ Some (s.height - 1 + 0)) (Rattle.al_code.specs.Valid.body_places o)) has_body
        (valid.instrs s.place (i.Loop k) s.height at stands.fits.height).heights

    no_more : s.height - 1 + 0 ≡ s.height - 1
    no_more = omega arith

    first_height : slice_get code.heights body.start ≡ Some (s.height - 1)
    first_height = heights_are.0 ∙ ap Some no_more

    last_height : slice_get code.heights body.end ≡ Some (s.height - 1)
    last_height = heights_are.1.0 ∙ ap Some no_more

    body_is : IsBody code k info body
    body_is = valid.loops k info body has_info has_body

    end_after : s.place < body.end
    end_after = let e = body_is.once s.place at in omega (arith, e, body_is.starts, body_is.begins)

    pub range_fault : (e : ViewFault) (m' : Machine) (w w' : Content) → ReadsRange info.bound s w (Err e) m'.active w' → (input : List ℤ)
        → Moves input code (i.Loop k) m w (Err e) m' w'
    range_fault (fault.Trap t) m' w w' h input = λ line. loop_does input w line ∙ h line _
    range_fault fault.Memory m' w w' h input = tt

    module _ (r : Range) (s1 : Active) (w w1 : Content) (read : RangeRead info.bound s w r s1 w1) where
      abbrev m1 : Machine
      m1 = record m { active = s1 }

      there_is : there ≡ spot_in m1
      there_is = ap (λ (s : Active). spot_in (record m { active = s })) (sym read.same)

      started : (input : List ℤ) (line : ℕ)
          → does in_iteration (where_of m.inside) input code (Some (i.Loop k)) line (spot_in m) (state_in m w)
          ≡ begins in_iteration (where_of m.inside) line info.counter body (spot_in m1) k r.lo r.hi (state_in m1 w1)
      started input line =
          loop_does input w line ∙ read.read line _
          ∙ ap (λ c. begins in_iteration (where_of m.inside) line info.counter body c k r.lo r.hi (state_in m1 w1)) there_is

      height_is : s1.height ≡ s.height - 1
      height_is = ap (λ (s : Active). s.height) read.same

      pub stopped : m.inside ≡ false → (m' : Machine) → m'.active ≡ record s1 { place = body.end }
          → m'.inner ≡ m.inner → m'.callers ≡ m.callers → m'.room ≡ m.room
          → m'.inside ≡ m.inside → m'.tallest ≡ m.tallest → m'.counter ≡ info.counter
          → (input : List ℤ) → Moved input code (i.Loop k) m w (onward.Stops k r.lo r.hi) m' w1
      unfolding pure
      stopped outside m' now inner callers room inside tallest counter input =
          let below_is : m'.active.below ≡ s.below = ap (λ (s : Active). s.below) now ∙ ap (λ (s : Active). s.below) read.same in
          record {
            did = λ line.
                started input line
                ∙ ap (λ b. begins in_iteration (where_of b) line info.counter body (spot_in m1) k r.lo r.hi (state_in m1 w1)) outside
                ∙ (λ j. (
                  Ok (Stops k r.lo r.hi (record {
                    place = sym (ap (λ (s : Active). s.place) now) j;
                    stack = sym (ap (λ (s : Active). s.stack) now) j;
                    inner = reverse (sym inner j).items;
                    callers = Rattle.al_exec.specs.Machines.callers_in (sym (ap (λ (s : Active). s.below) now) j) (reverse (sym callers j).items);
                    room = sym room j;
                  })),
                  state_of (sym now j) w1,
                ));
            inside = inside;
            stays = (
              record {
                fits = record {
                  height = ap (slice_get code.heights) (ap (λ (s : Active). s.place) now) ∙ last_height
                      ∙ ap Some (sym (ap (λ (s : Active). s.height) now ∙ height_is));
                  room = λ q h g.
                      subst (λ n. h ≤ n) (sym (ap (λ (s : Active). s.room) now ∙ ap (λ (s : Active). s.room) read.same)) (stands.fits.room q h g);
                };
                callers =
                    subst (λ l. Lie code m'.active.below (reverse l.items)) (sym callers)
                    (subst (λ b. Lie code b (reverse m.callers.items)) (sym below_is) stands.callers);
                tall = λ q h g. subst (λ n. h ≤ n) (sym tallest) (stands.tall q h g);
                calls = let b = ap (λ l. length l.items) callers in omega (arith, room, b, stands.calls);
              },
              λ other g.
                  let same : info ≡ other = (let e : Some info ≡ Some other = sym has_info ∙ g in grind (arith, e)) in
                  counter ∙ ap (λ (x : LoopInfo). x.counter) same,
            );
          }

      pub entered : m.inside ≡ true → (m' : Machine) (w' : Content) (b : Begun info.counter body k r.lo r.hi m1 w1 m' w') → (input : List ℤ)
          → Moved input code (i.Loop k) m w onward.Goes m' w'
      entered in_loop m' w' b input =
          let below_is : s1.below ≡ s.below = ap (λ (s : Active). s.below) read.same in
          let room_is : s1.room ≡ s.room = ap (λ (s : Active). s.room) read.same in
          let steps_are : s1.budget ≡ s.budget = ap (λ (s : Active). s.budget) read.same in
          let first = first_height ∙ ap Some (sym height_is) in
          let last = last_height ∙ ap Some (sym height_is) in
          record {
            did = λ line.
                started input line
                ∙ ap (λ b. begins in_iteration (where_of b) line info.counter body (spot_in m1) k r.lo r.hi (state_in m1 w1)) in_loop
                ∙ b.did line;
            inside = ap (λ (m : Machine). m.inside) b.led.same;
            stays = (
              led_stands code m m1 m' stands body b.led below_is room_is steps_are refl refl refl first last,
              begun_less code m m1 m' stands body b.led below_is room_is steps_are refl refl refl first last refl
                  (is_within code valid s stands.fits) end_after (ap is_step at),
            );
          }

      pub entered_fault : m.inside ≡ true → (m' : Machine) (w' : Content) (e : ViewFault)
          → BeginsLoop info.counter body k r.lo r.hi m1 w1 (Err e) m' w' → (input : List ℤ)
          → Moves input code (i.Loop k) m w (Err e) m' w'
      entered_fault in_loop m' w' (fault.Trap t) h input = λ line.
          started input line
          ∙ ap (λ b. begins in_iteration (where_of b) line info.counter body (spot_in m1) k r.lo r.hi (state_in m1 w1)) in_loop
          ∙ h line
      entered_fault in_loop m' w' fault.Memory h input = tt

-- ---- the end of an iteration

module _ (P : ℕ → Type 0) (p : ℕ) where
  in_ended : (bs : List Body) (n : ℕ) (b : Body) → slice_get bs n ≡ Some b → b.end ≡ p → AllByRecursion P (ended_places p bs) → P b.end
  in_ended [] n b at is all = let clash : None ≡ Some b = at in grind arith
  in_ended (a ∷ bs) zero b at is all =
      let same : a ≡ b = grind (arith, at) in
      let hit : (a.end == p) ≡ true = eq-eqb a.end p (ap (λ (b : Body). b.end) same ∙ is) in
      let both = subst (λ t. AllByRecursion P (if t then a.start ∷ a.end ∷ ended_places p bs else ended_places p bs)) hit all in
      subst (λ (b : Body). P b.end) same both.1.0
  in_ended (a ∷ bs) (suc n) b at is all = in_ended bs n b at is (rest (a.end == p) all) where
    rest : (t : Bool) → AllByRecursion P (if t then a.start ∷ a.end ∷ ended_places p bs else ended_places p bs) → AllByRecursion P (ended_places p bs)
    rest true all = all.1.1
    rest false all = all

some_there : {X : Type 0} (xs : List X) (k : ℕ) → k < length xs → (x : X) × (slice_get xs k ≡ Some x)
some_there xs k h = ⊎_elim (λ q. (q.0, q.2)) (λ q. absurd (omega (arith, q.0, h))) (slice_get_cases xs k).1

module _ (code : Code) (valid : IsValid code) (m : Machine) (stands : Stands code m) (at : slice_get code.instrs m.active.place ≡ Some i.EndIteration) where
  no_height : m.active.height ≡ 0
  no_height =
      let e = valid.ends m.active.place at in
      let within = slice_get_within code.bodies e.loop e.body e.has in
      let info = some_there code.loops e.loop (omega (arith, within, valid.bodies)) in
      let b = valid.loops e.loop info.0 e.body info.1 e.has in
      let all = (valid.instrs m.active.place i.EndIteration m.active.height at stands.fits.height).heights in
      let here = in_ended (λ q. slice_get code.heights q ≡ Some (m.active.height - 0 + 0)) (suc m.active.place) code.bodies e.loop e.body e.has e.is all in
      let same : Some (m.active.height - 0 + 0) ≡ Some 0 = sym here ∙ b.end_height in
      let none : m.active.height - 0 + 0 ≡ 0 = grind (arith, same) in
      omega (arith, none)

  pub iteration_over : (input : List ℤ) (w : Content) (m' : Machine) → m.inner.items ≡ [] → m'.active ≡ m.active → m'.inside ≡ m.inside
      → Moved input code i.EndIteration m w (onward.Ends (Int (pos 0))) m' w
  unfolding pure
  iteration_over input w m' none same inside = record {
    did = λ line.
        ap (λ l. iteration_end in_iteration code line (spot_in m) (reverse l) (state_in m w)) none
        ∙ (λ j. (Ok (Ends (Int (pos 0))), state_of (sym same j) w));
    inside = inside;
    stays = tt;
  }

  module _ (m1 : Machine) (x : InnerLoop) (rest : List InnerLoop) (inner : m.inner.items ≡ rest ++ x ∷ []) (rest_is : m1.inner.items ≡ rest)
      (m1_is : m1 ≡ record m { inner = m1.inner }) where
    backwards : reverse m.inner.items ≡ x ∷ reverse m1.inner.items
    backwards = ap reverse inner ∙ reverse-append rest (x ∷ []) ∙ ap (λ l. x ∷ reverse l) (sym rest_is)

    ended_does : (input : List ℤ) (w : Content) (line : ℕ)
        → does in_iteration (where_of m.inside) input code (Some i.EndIteration) line (spot_in m) (state_in m w)
        ≡ again_at in_iteration line (spot_in m) x (reverse m1.inner.items) (slice_get code.loops x.loop) (slice_get code.bodies x.loop) (state_in m w)
    ended_does input w line = ap (λ l. iteration_end in_iteration code line (spot_in m) l (state_in m w)) backwards

    no_loop_moved : (input : List ℤ) (w : Content)
        → ((line : ℕ) → does in_iteration (where_of m.inside) input code (Some i.EndIteration) line (spot_in m) (state_in m w)
        ≡ (Ok (Ends (Int (pos 0))), state_in m w))
        → Moved input code i.EndIteration m w (onward.Ends (Int (pos 0))) m1 w
    no_loop_moved input w did = record {
      did = λ line. did line ∙ (λ j. (Ok (Ends (Int (pos 0))), state_in (sym m1_is j) w));
      inside = ap (λ (m : Machine). m.inside) m1_is;
      stays = tt;
    }

    pub no_info : (input : List ℤ) (w : Content) → slice_get code.loops x.loop ≡ None → Moved input code i.EndIteration m w (onward.Ends (Int (pos 0))) m1 w
    unfolding pure
    no_info input w none = no_loop_moved input w (λ line.
        ended_does input w line
        ∙ ap (λ o. again_at in_iteration line (spot_in m) x (reverse m1.inner.items) o (slice_get code.bodies x.loop) (state_in m w)) none)

    pub no_body : (input : List ℤ) (w : Content) (info : LoopInfo) → slice_get code.loops x.loop ≡ Some info → slice_get code.bodies x.loop ≡ None
        → Moved input code i.EndIteration m w (onward.Ends (Int (pos 0))) m1 w
    unfolding pure
    no_body input w info has none = no_loop_moved input w (λ line.
        ended_does input w line
        ∙ (λ j. again_at in_iteration line (spot_in m) x (reverse m1.inner.items) (has j) (none j) (state_in m w)))

    module _ (info : LoopInfo) (body : Body) (has_info : slice_get code.loops x.loop ≡ Some info) (has_body : slice_get code.bodies x.loop ≡ Some body) where
      again : (input : List ℤ) (w : Content) (line : ℕ)
          → does in_iteration (where_of m.inside) input code (Some i.EndIteration) line (spot_in m) (state_in m w)
          ≡ trip_of info.counter body x m1 w line (reverse m.inner.items)
      again input w line =
          ended_does input w line
          ∙ (λ j. again_at in_iteration line (spot_in m) x (reverse m1.inner.items) (has_info j) (has_body j) (state_in m w))
          ∙ (λ j. trip in_iteration line info.counter body (record (spot_in (sym m1_is j)) { inner = reverse m.inner.items }) (reverse m1.inner.items)
          x.loop x.lo x.hi x.next x.left (state_in (sym m1_is j) w))

      pub again_moved : (input : List ℤ) (w w' : Content) (m' : Machine)
          → Tripped info.counter body x m1 w m' w' → Moved input code i.EndIteration m w onward.Goes m' w'
      again_moved input w w' m' t =
          let b = valid.loops x.loop info body has_info has_body in
          let high : m1.active.height ≡ 0 = ap (λ (m : Machine). m.active.height) m1_is ∙ no_height in
          let first = b.start_height ∙ ap Some (sym high) in
          let last = b.end_height ∙ ap Some (sym high) in
          let below_is = ap (λ (m : Machine). m.active.below) m1_is in
          let room_is = ap (λ (m : Machine). m.active.room) m1_is in
          let steps_are = ap (λ (m : Machine). m.active.budget) m1_is in
          let callers_are = ap (λ (m : Machine). m.callers) m1_is in
          let calls_are = ap (λ (m : Machine). m.room) m1_is in
          let tallest_is = ap (λ (m : Machine). m.tallest) m1_is in
          let one : length m.inner.items ≡ length m1.inner.items + 1 =
          ap length inner ∙ length-append rest (x ∷ []) ∙ ap (λ l. length l + 1) (sym rest_is) in
          record {
            did = λ line. again input w line ∙ t.did line (reverse m.inner.items);
            inside = ap (λ (m : Machine). m.inside) t.led.same ∙ ap (λ (m : Machine). m.inside) m1_is;
            stays = (
              led_stands code m m1 m' stands body t.led below_is room_is steps_are callers_are calls_are tallest_is first last,
              ended_less code m m1 m' stands body t.led below_is room_is steps_are callers_are calls_are tallest_is first last one,
            );
          }

      pub again_fault : (input : List ℤ) (w w' : Content) (m' : Machine) (e : ViewFault) → Trips info.counter body x m1 w (Err e) m' w'
          → Moves input code i.EndIteration m w (Err e) m' w'
      again_fault input w w' m' (fault.Trap t) h = λ line. again input w line ∙ h line (reverse m.inner.items)
      again_fault input w w' m' fault.Memory h = tt
