-- Turns of a loop, and what is done before one.
use Rattle.std.specs.Prelude.{◌≡◌, ⊤, ℕ, Bool, if◌then◌else◌, Option, Some, None, Result, Ok, Err, ℤ}
use Rattle.std.specs.Int.{int_max}
use Rattle.al_core.specs.declared.choices.Bound.{Bound}
use Rattle.al_core.specs.declared.values.Val.{Val}
use Rattle.al_core.specs.declared.values.Val.TheVariants.{Int}
use Rattle.al_core.specs.World.{World}
use Rattle.al_core.specs.Values.{truth, number, trip_count}
use Rattle.al_core.specs.declared.typed_tree.TExpr.{TExpr}
use Rattle.al_core.specs.declared.typed_tree.TStmt.{TStmt}
use Rattle.al_core.specs.Action.{State, Answer, Act, pure, lift, spend, set_local, ◌>>=◌, ◌>>◌}
use Rattle.al_core.specs.Meaning.{Flow, Next, bound_value, then_flow, turn_end, turns, ordinary_trips, trips_to}
use Rattle.al_interpreter.specs.declared.fault.Fault.{Fault}
use Rattle.al_interpreter.specs.declared.fault.Fault.TheVariants as fault
use Rattle.al_interpreter.specs.declared.flow.Flow.{Flow as Kept}
use Rattle.al_interpreter.specs.declared.flow.Flow.TheVariants as kept
use Rattle.al_interpreter.specs.declared.flow.Turn.{Turn}
use Rattle.al_interpreter.specs.declared.flow.Turn.TheVariants as turn
use Rattle.al_interpreter.specs.declared.loops.Range.{Range}
use Rattle.al_interpreter.specs.Flows.{flow_of}
use Rattle.al_interpreter.specs.Scenes.{Scene, test_value, execute, execute_any}

-- ---- what comes after a statement

-- in a sequence, what follows
abbrev pub in_sequence : Kept → Turn
in_sequence kept.Next = turn.Again
in_sequence f = turn.Over f

-- in a loop, the next turn, or what follows the loop
abbrev pub in_loop : Kept → Turn
in_loop kept.Next = turn.Again
in_loop kept.Broke = turn.Over kept.Next
in_loop kept.Continued = turn.Again
in_loop (kept.Returned v) = turn.Over (kept.Returned v)

-- ---- what comes first, and then whatever comes next

module _ {S : Type 0} where
  abbrev pub test_first : ℕ → Act S Val → (Bool → Act S Flow) → Act S Flow
  test_first line test next = spend line >> (test >>= (λ v. next (truth v)))

  abbrev pub trip_first : World S → ℕ → ℕ → ℤ → (Unit {0} → Act S Flow) → Act S Flow
  trip_first world line counter n next = spend line >> (set_local world counter (Int n) line >>= next)

  abbrev pub range_first : World S → Option (ℕ × Act S Val) → Bound → ℕ → (Option Range → Act S Flow) → Act S Flow
  range_first world (Some (counter, start)) bound line next =
      start
      >>= (λ v. lift line (number v)
      >>= (λ lo. bound_value world bound line
      >>= (λ hi. next (Some (record { counter = counter; lo = lo; hi = hi })))))
  range_first world None bound line next = next None

  -- a turn of a loop: its test, its body and its third part, and then what comes again
  abbrev pub turn_of : ℕ → Act S Val → Act S Flow → Act S Flow → Act S Flow → Act S Flow
  turn_of line test body third again =
      test_first line test (λ b. if b then body >>= turn_end (third >>= then_flow again) else pure Next)

  -- what comes after an annotated loop's trips
  abbrev pub loop_end : World S → ℕ → ℕ → ℤ → ℤ → Act S Flow
  loop_end world line counter lo hi = set_local world counter (Int (int_max lo hi)) line >> pure Next

-- ---- the turns and the trips of a loop

module _ {S : Type 0} (x : Scene S) where
  -- a turn, and then what comes again
  abbrev pub one_turn : ℕ → Option TExpr → TStmt → Option TStmt → Act S Flow → Act S Flow
  one_turn line test body third again =
      turn_of line (test_value x test line) (execute x body) (execute_any x third) again

  abbrev pub all_turns : ℕ → Option TExpr → TStmt → Option TStmt → Act S Flow
  all_turns line test body third = turns line (test_value x test line) (execute x body) (execute_any x third)

  -- an annotated loop inside an iteration, and its trips
  abbrev pub ordinary_loop : ℕ → Range → TStmt → Act S Flow
  ordinary_loop line r body = ordinary_trips x.world line r.counter r.lo r.hi (execute x body)

  abbrev pub loop_trips : ℕ → Range → TStmt → Act S Flow
  loop_trips line r body = trips_to x.world (trip_count r.lo r.hi) line r.counter r.lo 0 (execute x body)

-- It leads to what comes next, from an answer, or traps, whatever comes next.
abbrev pub Leads : {A S : Type 0} → ((A → Act S Flow) → Answer Flow × State S) → Result A Fault → State S → Type 0
Leads {A = A} {S = S} told (Ok a) new = (next : A → Act S Flow) → told next ≡ next a new
Leads {A = A} {S = S} told (Err (fault.Trap t line)) new = (next : A → Act S Flow) → told next ≡ (Err (t, line), new)
Leads {A = A} {S = S} told (Err fault.Memory) new = ⊤

-- It goes on to what comes again, or is over, or traps, whatever comes again.
abbrev pub Turns : {S : Type 0} → (Act S Flow → Answer Flow × State S) → Result Turn Fault → State S → Type 0
Turns {S = S} told (Ok turn.Again) new = (again : Act S Flow) → told again ≡ again new
Turns {S = S} told (Ok (turn.Over f)) new = (again : Act S Flow) → told again ≡ (Ok (flow_of f), new)
Turns {S = S} told (Err (fault.Trap t line)) new = (again : Act S Flow) → told again ≡ (Err (t, line), new)
Turns {S = S} told (Err fault.Memory) new = ⊤
