-- The counts of a run fit their types.
use Rattle.std.proofs.Common.{◌≡◌, ℕ, ◌+◌, ◌*◌, ◌≤◌, List, [], Option, Some, None, Result, Ok, Err, Bool, true, false, refl, arith}
use Rattle.std.specs.Prelude.{ℤ, if◌then◌else◌, slice_get, nat_lt}
use Rattle.std.proofs.lemmas.Nat.{mul-le}
use Rattle.std.proofs.lemmas.Bool.{ltb-false}
use Rattle.al_source.specs.declared.limits.TheConstants.{ACTIVE_CALLS, LOOP_TRIPS}
use Rattle.al_core.specs.declared.choices.Choice.{Choice}
use Rattle.al_core.specs.declared.choices.Knobs.{Knobs}
use Rattle.al_core.specs.declared.typed_tree.Typed.{Typed}
use Rattle.al_core.specs.declared.values.Val.{Val}
use Rattle.al_core.specs.declared.values.Trap.{Trap}
use Rattle.al_core.specs.declared.values.Trap.TheVariants as trap
use Rattle.al_core.specs.Values.{trips, trip_count}
use Rattle.al_core.specs.Memory.{Memory}
use Rattle.al_core.specs.Loops.{Loop, loop_at}
use Rattle.al_core.specs.Meaning.{Outside}
use Rattle.al_core.specs.Iteration.{Execution}
use Rattle.al_core.specs.Run.{Mode, Plainly, InRounds, InChunks, Setting, Counts, Whole, counts_with, by_mode, execution, at_loop, if_trips, visit_loop, outside, line_of, start, whole_run, sizes_of}
use Rattle.al_core.specs.Report.{mode_of, by_choices, report}
use Rattle.al_core.specs.Limits.{AreInRange}
use Rattle.al_laws.specs.Bounds.{Fit, CountsFit, ExecutionsFit}
use Rattle.al_laws.proofs.Abstraction.{of_call}
use Rattle.al_laws.proofs.Keeps.{Keeps, KeepsWorld, keeps_closed}
use Rattle.al_laws.proofs.Executions.{executions_bound}
use Rattle.al_laws.proofs.Counts.{lockstep_rounds, lockstep_attempts, lockstep_aborted, lockstep_span, plain_steps}

-- the counts after so many executions
record Bounded (e : ℕ) (n : Counts) : Type 0 where
  pub loops : n.loops ≤ e
  pub rounds : n.rounds ≤ e * 16777216
  pub attempts : n.attempts ≤ e * 1073741824
  pub aborted : n.aborted ≤ e * 1073741824
  pub span : n.span ≤ e * 1099511627776000000000

abbrev Holds : Whole → Type 0
Holds w = Bounded w.executions w.counts

-- no list of chunks is given
abbrev NoChunks : Mode → Type 0
NoChunks Plainly = Unit {0}
NoChunks (InRounds choice) = Unit {0}
NoChunks (InChunks cs) = ⊥

no_chunks : (o : Option (Option Choice)) → NoChunks (mode_of o)
no_chunks (Some (Some choice)) = tt
no_chunks (Some None) = tt
no_chunks None = tt

-- ---- trips

abbrev pub ok_or_none : Result ℕ Trap → ℕ
ok_or_none (Ok n) = n
ok_or_none (Err t) = 0

few_trips : (n : ℕ) (b : Bool) → nat_lt LOOP_TRIPS n ≡ b → ok_or_none (if b then Err trap.Trips else Ok n) ≤ LOOP_TRIPS
few_trips n true e = omega arith
few_trips n false e = ltb-false LOOP_TRIPS n e

pub trips_few : (lo hi : ℤ) → ok_or_none (trips lo hi) ≤ LOOP_TRIPS
unfolding trips
trips_few lo hi = few_trips (trip_count lo hi) (nat_lt LOOP_TRIPS (trip_count lo hi)) refl

-- ---- counts

module _ (k : Knobs) (ok : AreInRange k) where
  -- an execution of at most 16,777,216 trips
  by_way_bounded : (x : Execution) (e : ℕ) (n : Counts) (m : Memory) (way : Mode) → x.factor ≡ k.chunk → x.iter_steps ≡ k.iter_steps → x.trips ≤ LOOP_TRIPS
      → NoChunks way → Bounded e n → Bounded (e + 1) (counts_with n (by_mode x k.lanes m way).counts)
  by_way_bounded x e n m Plainly ec es t w b = record {
    loops = omega (arith, b.loops);
    rounds = omega (arith, b.rounds);
    attempts = omega (arith, b.attempts);
    aborted = omega (arith, b.aborted);
    span = omega (arith, b.span, plain_steps x m, mul-le x.trips x.iter_steps 16777216 1000000000 t (omega (arith, ok.iter_steps.1)));
  }
  by_way_bounded x e n m (InRounds choice) ec es t w b =
      let some : 1 ≤ x.factor = omega (arith, ok.chunk.0) in
      let most = mul-le x.trips k.lanes 16777216 64 t ok.lanes.1 in
      record {
        loops = omega (arith, b.loops);
        rounds = omega (arith, b.rounds, lockstep_rounds x choice k.lanes m some);
        attempts = omega (arith, b.attempts, lockstep_attempts x choice k.lanes m some, most);
        aborted = omega (arith, b.aborted, lockstep_aborted x choice k.lanes m some, most);
        span = omega (
          arith,
          b.span,
          lockstep_span x choice k.lanes m some,
          mul-le x.trips (x.factor * x.iter_steps) 16777216 65536000000000 t
              (mul-le x.factor x.iter_steps 65536 1000000000 (omega (arith, ok.chunk.1)) (omega (arith, ok.iter_steps.1))),
        );
      }
  by_way_bounded x e n m (InChunks cs) ec es t w b = absurd w

  -- ---- a loop outside iterations

  module _ (typed : Typed) (input : List ℤ) (choices : List (Option Choice)) where
    abbrev setting : Setting
    setting = record { typed = typed; input = input; sizes = sizes_of k; modes = by_choices choices }

    trips_bounded : (l : Loop) (lo hi : ℤ) (locals : List Val) (w : Whole) (r : Result ℕ Trap) → ok_or_none r ≤ LOOP_TRIPS → Holds w
        → Holds (if_trips setting l lo hi locals w r).1
    trips_bounded l lo hi locals w (Err t) h b = b
    trips_bounded l lo hi locals w (Ok n) h b =
        by_way_bounded (execution setting l w.executions lo n) w.executions w.counts (at_loop w.content locals)
        (by_choices choices l.info.number w.executions) refl refl h (no_chunks (slice_get choices l.info.number)) b

    visit_bounded : (lo hi : ℤ) (locals : List Val) (w : Whole) (l : Option Loop) → Holds w → Holds (visit_loop setting lo hi locals w l).1
    visit_bounded lo hi locals w (Some l) b = trips_bounded l lo hi locals w (trips lo hi) (trips_few lo hi) b
    visit_bounded lo hi locals w None b = b

    bounded_world : KeepsWorld Holds (outside setting)
    bounded_world = record {
      load = λ a want. record { by = λ w b. b };
      store = λ a v. record { by = λ w b. b };
      make = λ words. record { by = λ w b. b };
      free = λ o at. record { by = λ w b. b };
      print = λ bytes. record { by = λ w b. b };
      visit = λ loop lo hi locals. record { by = λ w b. visit_bounded lo hi locals w (loop_at typed loop) b };
    }

    whole_bounded : Holds (whole_run setting).1.world
    unfolding whole_run
    whole_bounded =
        (of_call (outside setting) (outside setting) (λ A. Keeps Holds {A = A})
        (keeps_closed Holds (outside setting) bounded_world) Outside typed.funcs input ACTIVE_CALLS typed.main []
        (line_of (slice_get typed.funcs typed.main))).by (start setting)
        (record { loops = omega arith; rounds = omega arith; attempts = omega arith; aborted = omega arith; span = omega arith })

    fit : Fit (report typed input (sizes_of k) choices)
    unfolding report
    fit =
        let b = whole_bounded in
        let few : (whole_run setting).1.world.executions ≤ 1000000000 = omega (arith, executions_bound setting, ok.serial_steps.1) in
        record {
          loops = omega (arith, b.loops, few);
          rounds = omega (arith, b.rounds, few);
          attempts = omega (arith, b.attempts, few);
          aborted = omega (arith, b.aborted, few);
          span = omega (arith, b.span, few, ok.serial_steps.1);
        }

pub counts_fit : CountsFit
counts_fit typed input knobs choices ok = fit knobs ok typed input choices

pub executions_fit : ExecutionsFit
executions_fit typed input knobs modes ok =
    omega (arith, executions_bound (record { typed = typed; input = input; sizes = sizes_of knobs; modes = modes }), ok.serial_steps.1)
