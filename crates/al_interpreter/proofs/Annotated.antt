-- An annotated loop, from its start and bound on, as the code does it.
use Rattle.std.proofs.Common.{◌≡◌, ℕ, Bool, true, false, Option, Some, None, Result, Ok, Err, refl, sym, ap, subst, ◌∙◌}
use Rattle.std.specs.Prelude.{ℤ, if◌then◌else◌, nat_lt}
use Rattle.al_source.specs.declared.limits.TheConstants.{LOOP_TRIPS}
use Rattle.al_core.specs.declared.choices.Bound.{Bound}
use Rattle.al_core.specs.declared.values.Val.{Val}
use Rattle.al_core.specs.declared.values.Trap.{Trap}
use Rattle.al_core.specs.declared.values.Trap.TheVariants as trap
use Rattle.al_core.specs.World.{World}
use Rattle.al_core.specs.Values.{trip_count, trips}
use Rattle.al_core.specs.Action.{State, Answer, Act, at_line, pure, lift, visit, ◌>>=◌, ◌>>◌}
use Rattle.al_core.specs.Meaning.{Flow, Next, Where, Outside, Inside, annotated, annotated_loop, ordinary_trips, then_flow, trips_to}
use Rattle.al_interpreter.specs.declared.fault.Fault.{Fault}
use Rattle.al_interpreter.specs.declared.loops.Range.{Range}
use Rattle.al_source.specs.Answers.{Does}
use Rattle.al_interpreter.specs.Faults.{stopped}
use Rattle.al_interpreter.specs.Stages.{is_outside}
use Rattle.al_interpreter.specs.Turns.{Leads, range_first, loop_end}
use Rattle.al_interpreter.proofs.Chains.{goes}
use Rattle.al_interpreter.proofs.Turning.{led_fault}

module _ {S : Type 0} (world : World S) (here : Where) (number line : ℕ) (bound : Bound) (body : Act S Flow) where
  abbrev in_range : Option Range → Act S Flow
  in_range (Some r) = annotated world here number line r.counter r.lo r.hi body
  in_range None = pure Next

  as_range : (sets : Option (ℕ × Act S Val)) → annotated_loop world here number line sets bound body ≡ range_first world sets bound line in_range
  as_range (Some (counter, start)) = refl
  as_range None = refl

-- outside iterations, and inside one
module _ {S : Type 0} (world : World S) (number line : ℕ) (r : Range) (body : Act S Flow) where
  abbrev pub by_place : Bool → Act S Flow
  by_place true = visit world number r.lo r.hi >> pure Next
  by_place false = ordinary_trips world line r.counter r.lo r.hi body

  placed : (here : Where) (b : Bool) → is_outside here ≡ b → annotated world here number line r.counter r.lo r.hi body ≡ by_place b
  placed Outside true is = refl
  placed Outside false is = cc
  placed Inside true is = cc
  placed Inside false is = refl

module _ {S : Type 0} (world : World S) (here : Where) (number line : ℕ) (sets : Option (ℕ × Act S Val)) (bound : Bound) (body : Act S Flow) (s t : State S)
  where
    abbrev ranged : (Option Range → Act S Flow) → Answer Flow × State S
    ranged next = range_first world sets bound line next s

    abbrev whole : Answer Flow × State S
    whole = annotated_loop world here number line sets bound body s

    pub not_ranged : (e : Fault) → Leads {A = Option Range} ranged (Err e) t → Does {A = Flow} stopped whole (Err e) t
    not_ranged e h =
        subst (λ (p : Act S Flow). Does {A = Flow} stopped (p s) (Err e) t) (sym (as_range world here number line bound body sets))
        (led_fault ranged (in_range world here number line bound body) e t h)

    by_range : (o : Option Range) → Leads {A = Option Range} ranged (Ok o) t → whole ≡ in_range world here number line bound body o t
    by_range o h = ap (λ (p : Act S Flow). p s) (as_range world here number line bound body sets) ∙ h (in_range world here number line bound body)

    pub no_range : (o : Option Range) → Leads {A = Option Range} ranged (Ok o) t → o ≡ None → whole ≡ (Ok Next, t)
    unfolding pure
    no_range o h is = by_range o h ∙ ap (λ o. in_range world here number line bound body o t) is

    pub with_range : (o : Option Range) (r : Range) (b : Bool) (u : State S) (a : Result Flow Fault) → Leads {A = Option Range} ranged (Ok o) t → o ≡ Some r
        → is_outside here ≡ b → Does {A = Flow} stopped (by_place world number line r body b t) a u → Does {A = Flow} stopped whole a u
    with_range o r b u a h is stands did =
        subst (λ (x : Answer Flow × State S). Does {A = Flow} stopped x a u)
        (sym (by_range o h ∙ ap (λ o. in_range world here number line bound body o t) is
        ∙ ap (λ (p : Act S Flow). p t) (placed world number line r body here b stands))) did

-- ---- inside an iteration

of_choice : (line : ℕ) (b : Bool) (k n : ℕ) → at_line line (if b then Err trap.Trips else Ok k) ≡ Ok n → k ≡ n
of_choice line true k n is = cc
of_choice line false k n is = cc

module _ {S : Type 0} where
  counts : (line : ℕ) (lo hi : ℤ) (q : Result ℕ Trap) (n : ℕ) (s t : State S) → q ≡ trips lo hi → lift line q s ≡ (Ok n, t) → trip_count lo hi ≡ n
  unfolding lift trips
  counts line lo hi q n s t is did =
      of_choice line (nat_lt LOOP_TRIPS (trip_count lo hi)) (trip_count lo hi) n (ap (at_line line) (sym is) ∙ ap (λ (p : Answer ℕ × State S). p.0) did)

module _ {S : Type 0} (world : World S) (line : ℕ) (r : Range) (body : Act S Flow) (q : Result ℕ Trap) (n : ℕ) (s t u : State S) (a : Result Flow Fault)
  where
    abbrev then_end : ℕ → Act S Flow
    then_end n = trips_to world n line r.counter r.lo 0 body >>= then_flow (loop_end world line r.counter r.lo r.hi)

    -- from the count of its trips on
    pub from_count : q ≡ trips r.lo r.hi → lift line q s ≡ (Ok n, t) → Does {A = Flow} stopped (then_end (trip_count r.lo r.hi) t) a u
        → Does {A = Flow} stopped (ordinary_trips world line r.counter r.lo r.hi body s) a u
    from_count is did went =
        goes (lift line (trips r.lo r.hi)) then_end s t u n a (ap (λ q. lift line q s) (sym is) ∙ did)
        (subst (λ n. Does {A = Flow} stopped (then_end n t) a u) (counts line r.lo r.hi q n s t is did) went)
