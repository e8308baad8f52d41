-- The turns of a loop and the trips of an annotated one, as the code does them.
use Rattle.std.proofs.Common.{◌≡◌, ℕ, suc, ◌+◌, ◌-◌, ◌<◌, Bool, true, false, Result, Ok, Err, add-one, refl, sym, ap, subst, ◌∙◌, arith}
use Rattle.std.specs.Prelude.{if◌then◌else◌, IsErrAnd, ℤ, pos, ◌+ℤ◌, ◌≤ℤ◌, ◌<ℤ◌, ◌-ℤ◌, negsuc}
use Rattle.std.proofs.lemmas.Int.{ints}
use Rattle.al_core.specs.declared.values.Val.{Val}
use Rattle.al_core.specs.declared.values.Trap.TheVariants as trap
use Rattle.al_core.specs.World.{World}
use Rattle.al_core.specs.Values.{not_negative, trip_count}
use Rattle.al_core.specs.Action.{State, Answer, Act, bind, pure, lift, get_budget, ◌>>=◌}
use Rattle.al_core.specs.Meaning.{Flow, Next, then_flow, turn_end, turns, turns_to, trips_to}
use Rattle.al_interpreter.specs.declared.fault.Fault.{Fault}
use Rattle.al_interpreter.specs.declared.fault.Fault.TheVariants as fault
use Rattle.al_interpreter.specs.declared.flow.Flow.{Flow as Kept}
use Rattle.al_interpreter.specs.declared.flow.Flow.TheVariants as kept
use Rattle.al_interpreter.specs.declared.flow.Turn.{Turn}
use Rattle.al_interpreter.specs.declared.flow.Turn.TheVariants as turn
use Rattle.al_source.specs.Answers.{Does}
use Rattle.al_interpreter.specs.Faults.{stopped}
use Rattle.al_interpreter.specs.Flows.{flow_of}
use Rattle.al_interpreter.specs.Turns.{Leads, Turns, turn_of, test_first, trip_first, in_sequence, in_loop}
use Rattle.al_interpreter.proofs.Chains.{ends}
use Rattle.al_interpreter.proofs.Sequences.{by_turn, after_in_order, after_in_turns}

module _ {S : Type 0} where
  told_turns : (told : Act S Flow → Answer Flow × State S) (d : Turn) (t : State S) → ((again : Act S Flow) → told again ≡ by_turn again d t)
      → Turns told (Ok d) t
  unfolding pure
  told_turns told turn.Again t so = so
  told_turns told (turn.Over f) t so = so

  -- a fault, whatever comes again
  told_fault : (told : Act S Flow → Answer Flow × State S) (e : Fault) (r : Result Turn Fault) (t : State S) → IsErrAnd r (λ x. x ≡ e)
      → ((again : Act S Flow) → Does {A = Flow} stopped (told again) (Err e) t) → Turns told r t
  told_fault told e (Err (fault.Trap c line)) t is so = λ again. subst (λ (e : Fault). Does {A = Flow} stopped (told again) (Err e) t) (sym is) (so again)
  told_fault told e (Err fault.Memory) t is so = tt
  told_fault told e (Ok d) t is so = absurd is

  pub led_fault : {A : Type 0} (told : (A → Act S Flow) → Answer Flow × State S) (next : A → Act S Flow) (e : Fault) (t : State S)
      → Leads {A = A} told (Err e) t → Does {A = Flow} stopped (told next) (Err e) t
  led_fault told next (fault.Trap c line) t so = so next
  led_fault told next fault.Memory t so = so

module _ {S : Type 0} (line : ℕ) (test : Act S Val) (body third : Act S Flow) where
  -- ---- a turn

  abbrev turned : State S → Act S Flow → Answer Flow × State S
  turned s again = turn_of line test body third again s

  abbrev tested : State S → (Bool → Act S Flow) → Answer Flow × State S
  tested s next = test_first line test next s

  abbrev rest : Act S Flow → Act S Flow
  rest again = body >>= turn_end (third >>= then_flow again)

  abbrev chosen : Act S Flow → Bool → Act S Flow
  chosen again b = if b then rest again else pure Next

  pub turn_not_tested : (s t : State S) (e : Fault) (r : Result Turn Fault) → IsErrAnd r (λ x. x ≡ e) → Leads {A = Bool} (tested s) (Err e) t
      → Turns (turned s) r t
  turn_not_tested s t e r is h = told_fault (turned s) e r t is (λ again. led_fault (tested s) (chosen again) e t h)

  pub turn_stops : (s t : State S) (b : Bool) → Leads {A = Bool} (tested s) (Ok b) t → b ≡ false → Turns (turned s) (Ok (turn.Over kept.Next)) t
  unfolding pure
  turn_stops s t b h is again = h (chosen again) ∙ ap (λ b. chosen again b t) is

  turn_goes : (s t : State S) (b : Bool) (again : Act S Flow) → Leads {A = Bool} (tested s) (Ok b) t → b ≡ true → turned s again ≡ rest again t
  turn_goes s t b again h is = h (chosen again) ∙ ap (λ b. chosen again b t) is

  pub turn_body_fault : (s t u : State S) (b : Bool) (e : Fault) (r : Result Turn Fault) → Leads {A = Bool} (tested s) (Ok b) t → b ≡ true
      → IsErrAnd r (λ x. x ≡ e) → Does {A = Flow} stopped (body t) (Err e) u → Turns (turned s) r u
  turn_body_fault s t u b e r h is same did =
      told_fault (turned s) e r u same (λ again. subst (λ (r : Answer Flow × State S). Does {A = Flow} stopped r (Err e) u) (sym (turn_goes s t b again h is))
      (ends body (turn_end (third >>= then_flow again)) t u e did))

  turn_body : (s t u : State S) (b : Bool) (f : Kept) (d : Turn) (again : Act S Flow) → Leads {A = Bool} (tested s) (Ok b) t → b ≡ true
      → body t ≡ (Ok (flow_of f), u) → in_loop f ≡ d → turned s again ≡ by_turn (third >>= then_flow again) d u
  turn_body s t u b f d again h is did ends = turn_goes s t b again h is ∙ after_in_turns body (third >>= then_flow again) f d t u did ends

  pub turn_over : (s t u : State S) (b : Bool) (f g : Kept) → Leads {A = Bool} (tested s) (Ok b) t → b ≡ true → body t ≡ (Ok (flow_of f), u)
      → in_loop f ≡ turn.Over g → Turns (turned s) (Ok (turn.Over g)) u
  unfolding pure
  turn_over s t u b f g h is did ends again = turn_body s t u b f (turn.Over g) again h is did ends

  pub turn_third_fault : (s t u v : State S) (b : Bool) (f : Kept) (e : Fault) (r : Result Turn Fault) → Leads {A = Bool} (tested s) (Ok b) t → b ≡ true
      → body t ≡ (Ok (flow_of f), u) → in_loop f ≡ turn.Again → IsErrAnd r (λ x. x ≡ e) → Does {A = Flow} stopped (third u) (Err e) v → Turns (turned s) r v
  turn_third_fault s t u v b f e r h is did so same third_did =
      told_fault (turned s) e r v same (λ again. subst (λ (r : Answer Flow × State S). Does {A = Flow} stopped r (Err e) v)
      (sym (turn_body s t u b f turn.Again again h is did so)) (ends third (then_flow again) u v e third_did))

  pub turn_third : (s t u v : State S) (b : Bool) (f g : Kept) (d : Turn) → Leads {A = Bool} (tested s) (Ok b) t → b ≡ true → body t ≡ (Ok (flow_of f), u)
      → in_loop f ≡ turn.Again → third u ≡ (Ok (flow_of g), v) → in_sequence g ≡ d → Turns (turned s) (Ok d) v
  turn_third s t u v b f g d h is did ends third_did third_ends =
      told_turns (turned s) d v (λ again. turn_body s t u b f turn.Again again h is did ends ∙ after_in_order third again g d u v third_did third_ends)

  -- ---- turns

  abbrev at_most : ℕ → Act S Flow
  at_most n = turns_to n line test body third

  pub turns_begin : (s : State S) (n : ℕ) → n ≡ s.budget + 1 → turns line test body third s ≡ at_most n s
  unfolding bind get_budget
  turns_begin s n is = ap (λ n. at_most n s) (sym (add-one s.budget)) ∙ ap (λ n. at_most n s) (sym is)

  turns_open : (told : Answer Flow × State S) (n : ℕ) (s : State S) → told ≡ at_most n s → 0 < n → told ≡ turned s (at_most (n - 1))
  turns_open told n s so some = let more : n ≡ suc (n - 1) = omega arith in so ∙ ap (λ n. at_most n s) more

  pub turns_fault : (told : Answer Flow × State S) (n : ℕ) (s t : State S) (e : Fault) → told ≡ at_most n s → 0 < n
      → Turns (turned s) (Err e) t → Does {A = Flow} stopped told (Err e) t
  turns_fault told n s t (fault.Trap c at) so some h = turns_open told n s so some ∙ h (at_most (n - 1))
  turns_fault told n s t fault.Memory so some h = h

  pub turns_over : (told : Answer Flow × State S) (n : ℕ) (s t : State S) (d : Turn) (f : Kept) → told ≡ at_most n s → 0 < n
      → Turns (turned s) (Ok d) t → d ≡ turn.Over f → told ≡ (Ok (flow_of f), t)
  unfolding pure
  turns_over told n s t turn.Again f so some h is = cc
  turns_over told n s t (turn.Over g) f so some h is =
      turns_open told n s so some ∙ h (at_most (n - 1)) ∙ ap (λ (d : Turn). by_turn {S = S} (pure Next) d t) is

  pub turns_again : (told : Answer Flow × State S) (n : ℕ) (s t : State S) (d : Turn) → told ≡ at_most n s → 0 < n
      → Turns (turned s) (Ok d) t → d ≡ turn.Again → told ≡ at_most (n - 1) t
  turns_again told n s t turn.Again so some h is = turns_open told n s so some ∙ h (at_most (n - 1))
  turns_again told n s t (turn.Over g) so some h is = cc

  pub turns_out : (told : Answer Flow × State S) (n : ℕ) (s : State S) → told ≡ at_most n s → n ≡ 0 → told ≡ (Err (trap.Steps, line), s)
  unfolding lift
  turns_out told n s so none = so ∙ ap (λ n. at_most n s) none

-- ---- trips

counted : (z : ℤ) → pos 0 ≤ℤ z → pos (not_negative z) ≡ z
counted (pos n) h = refl
counted (negsuc n) h = omega (arith, ints)

not_counted : (z : ℤ) → z ≤ℤ pos 0 → not_negative z ≡ 0
not_counted (pos n) h = omega (arith, ints)
not_counted (negsuc n) h = refl

pub no_trip : (lo hi : ℤ) → hi ≤ℤ lo → trip_count lo hi ≡ 0
no_trip lo hi h = not_counted (hi -ℤ lo) (omega (arith, ints))

trip_more : (n hi : ℤ) → n <ℤ hi → trip_count n hi ≡ suc (trip_count (n +ℤ pos 1) hi)
trip_more n hi h =
    let a : pos (trip_count n hi) ≡ hi -ℤ n = counted (hi -ℤ n) (omega (arith, ints)) in
    let b : pos (trip_count (n +ℤ pos 1) hi) ≡ hi -ℤ (n +ℤ pos 1) = counted (hi -ℤ (n +ℤ pos 1)) (omega (arith, ints)) in
    omega (arith, ints)

trip_next : (lo n : ℤ) → lo ≤ℤ n → suc (trip_count lo n) ≡ trip_count lo (n +ℤ pos 1)
trip_next lo n h =
    let a : pos (trip_count lo n) ≡ n -ℤ lo = counted (n -ℤ lo) (omega (arith, ints)) in
    let b : pos (trip_count lo (n +ℤ pos 1)) ≡ (n +ℤ pos 1) -ℤ lo = counted ((n +ℤ pos 1) -ℤ lo) (omega (arith, ints)) in
    omega (arith, ints)

trip_at : (lo n : ℤ) → lo ≤ℤ n → lo +ℤ pos (trip_count lo n) ≡ n
trip_at lo n h = let a : pos (trip_count lo n) ≡ n -ℤ lo = counted (n -ℤ lo) (omega (arith, ints)) in omega (arith, ints)

module _ {S : Type 0} (world : World S) (line counter : ℕ) (lo hi : ℤ) (body : Act S Flow) where
  -- the trips from a value of the counter on
  abbrev pub trips_from : ℤ → Act S Flow
  trips_from n = trips_to world (trip_count n hi) line counter lo (trip_count lo n) body

  pub trips_begin : (s : State S) → trips_to world (trip_count lo hi) line counter lo 0 body s ≡ trips_from lo s
  trips_begin s = ap (λ j. trips_to world (trip_count lo hi) line counter lo j body s) (sym (no_trip lo lo (omega (arith, ints))))

  abbrev begun : State S → ℤ → (Unit {0} → Act S Flow) → Answer Flow × State S
  begun s n next = trip_first world line counter n next s

  abbrev after_trip : ℤ → Unit {0} → Act S Flow
  after_trip n x = body >>= turn_end (trips_from (n +ℤ pos 1))

  trips_open : (told : Answer Flow × State S) (n : ℤ) (s : State S) → told ≡ trips_from n s → lo ≤ℤ n → n <ℤ hi → told ≡ begun s n (after_trip n)
  trips_open told n s so from more =
      so ∙ ap (λ count. trips_to world count line counter lo (trip_count lo n) body s) (trip_more n hi more)
      ∙ ap (λ at. begun s at (λ x. body >>= turn_end (trips_to world (trip_count (n +ℤ pos 1) hi) line counter lo (suc (trip_count lo n)) body)))
      (trip_at lo n from)
      ∙ ap (λ j. begun s n (λ x. body >>= turn_end (trips_to world (trip_count (n +ℤ pos 1) hi) line counter lo j body))) (trip_next lo n from)

  pub trip_not_begun : (told : Answer Flow × State S) (n : ℤ) (s t : State S) (e : Fault) → told ≡ trips_from n s → lo ≤ℤ n → n <ℤ hi
      → Leads {A = Unit {0}} (begun s n) (Err e) t → Does {A = Flow} stopped told (Err e) t
  trip_not_begun told n s t e so from more h =
      subst (λ (r : Answer Flow × State S). Does {A = Flow} stopped r (Err e) t) (sym (trips_open told n s so from more))
      (led_fault (begun s n) (after_trip n) e t h)

  trip_begun : (told : Answer Flow × State S) (n : ℤ) (s t : State S) (x : Unit {0}) → told ≡ trips_from n s → lo ≤ℤ n → n <ℤ hi
      → Leads {A = Unit {0}} (begun s n) (Ok x) t → told ≡ (body >>= turn_end (trips_from (n +ℤ pos 1))) t
  trip_begun told n s t x so from more h = trips_open told n s so from more ∙ h (after_trip n)

  pub trip_fault : (told : Answer Flow × State S) (n : ℤ) (s t u : State S) (x : Unit {0}) (e : Fault) → told ≡ trips_from n s → lo ≤ℤ n → n <ℤ hi
      → Leads {A = Unit {0}} (begun s n) (Ok x) t → Does {A = Flow} stopped (body t) (Err e) u → Does {A = Flow} stopped told (Err e) u
  trip_fault told n s t u x e so from more h did =
      subst (λ (r : Answer Flow × State S). Does {A = Flow} stopped r (Err e) u) (sym (trip_begun told n s t x so from more h))
      (ends body (turn_end (trips_from (n +ℤ pos 1))) t u e did)

  pub trip_over : (told : Answer Flow × State S) (n : ℤ) (s t u : State S) (x : Unit {0}) (f : Kept) (d : Turn) → told ≡ trips_from n s → lo ≤ℤ n → n <ℤ hi
      → Leads {A = Unit {0}} (begun s n) (Ok x) t → body t ≡ (Ok (flow_of f), u) → in_loop f ≡ d → told ≡ by_turn (trips_from (n +ℤ pos 1)) d u
  trip_over told n s t u x f d so from more h did ends = trip_begun told n s t x so from more h ∙ after_in_turns body (trips_from (n +ℤ pos 1)) f d t u did ends

  pub trip_again : (told : Answer Flow × State S) (n m : ℤ) (s t u : State S) (x : Unit {0}) (f : Kept) → told ≡ trips_from n s → lo ≤ℤ n → n <ℤ hi
      → Leads {A = Unit {0}} (begun s n) (Ok x) t → body t ≡ (Ok (flow_of f), u) → in_loop f ≡ turn.Again → m ≡ n +ℤ pos 1 → told ≡ trips_from m u
  trip_again told n m s t u x f so from more h did ends next =
      trip_over told n s t u x f turn.Again so from more h did ends ∙ ap (λ n. trips_from n u) (sym next)

  pub trips_done : (told : Answer Flow × State S) (n : ℤ) (s : State S) → told ≡ trips_from n s → hi ≤ℤ n → told ≡ (Ok Next, s)
  unfolding pure
  trips_done told n s so end = so ∙ ap (λ count. trips_to world count line counter lo (trip_count lo n) body s) (no_trip n hi end)
