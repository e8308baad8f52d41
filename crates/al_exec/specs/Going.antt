-- Runs of the machine from its start to its next stop.
use Rattle.std.specs.Prelude.{◌≡◌, ⊤, Bool, ℕ, List, Option, Some, Result, Ok, Err, slice_get, ℤ}
use Rattle.al_core.specs.declared.choices.LoopInfo.{LoopInfo}
use Rattle.al_core.specs.declared.values.Val.TheVariants.{Int}
use Rattle.al_core.specs.Action.{State, Act, spend, set_local, ◌>>◌}
use Rattle.al_core.specs.Access.{Content, in_iteration}
use Rattle.al_code.specs.declared.lowered.Code.{Code}
use Rattle.al_code.specs.Runs.{Stop, Ended, AtLoop, exec_to_stop, ComesTo}
use Rattle.al_exec.specs.declared.fault.Fault.{Fault}
use Rattle.al_exec.specs.declared.fault.Fault.TheVariants as fault
use Rattle.al_exec.specs.declared.machine.Machine.{Machine}
use Rattle.al_exec.specs.declared.machine.Start.{Start}
use Rattle.al_exec.specs.declared.machine.Start.TheVariants as start
use Rattle.al_exec.specs.declared.stop.Stop.{Stop as Stopped}
use Rattle.al_exec.specs.declared.stop.Stop.TheVariants as stopped
use Rattle.al_exec.specs.Machines.{where_of, spot_in, state_in, Stands}

-- what comes first, and then a run
abbrev pub begin_with : Start → (ℕ → Act Content (Option Stop)) → ℕ → Act Content (Option Stop)
begin_with start.Running run n = run n
begin_with (start.Function line) run n = spend line >> run n
begin_with (start.Iteration line counter v) run n = spend line >> (set_local in_iteration counter (Int v) line >> run n)

-- the machine's run, after what comes first
abbrev pub run_in : List ℤ → Code → Machine → ℕ → Act Content (Option Stop)
run_in input code m n = exec_to_stop in_iteration (where_of m.inside) input code n (spot_in m)

abbrev pub run_of : List ℤ → Code → Machine → ℕ → Act Content (Option Stop)
run_of input code m = begin_with m.start (run_in input code m)

-- with so many steps
abbrev pub with_budget : Machine → ℕ → Machine
with_budget m n = record m { active = record m.active { budget = n } }

abbrev pub state_with : Machine → ℕ → Content → State Content
state_with m n w = state_in (with_budget m n) w

-- ---- the start

pub record Began (m : Machine) (w : Content) (m' : Machine) (w' : Content) : Type 0 where
  pub did : (run : ℕ → Act Content (Option Stop)) (n : ℕ)
      → begin_with m.start run n (state_in m w) ≡ run n (state_in m' w')
  pub same :
      m'
      ≡ record m {
        active = record m.active { locals = m'.active.locals; budget = m'.active.budget };
        start = start.Running;
      }

abbrev pub Begins : Machine → Content → Result (Unit {0}) Fault → Machine → Content → Type 0
Begins m w (Ok u) m' w' = Began m w m' w'
Begins m w (Err (fault.Trap t line)) m' w' =
    (run : ℕ → Act Content (Option Stop)) (n : ℕ)
    → begin_with m.start run n (state_in m w) ≡ (Err (t, line), state_in m' w')
Begins m w (Err fault.Memory) m' w' = ⊤

-- ---- stops

-- at an annotated loop the machine stands after it, and knows the loop's counter
pub record StopsAtLoop (code : Code) (inside : Bool) (run : ℕ → Act Content (Option Stop)) (s : State Content)
    (loop : ℕ) (lo hi : ℤ) (m : Machine) (n : ℕ) (w : Content) : Type 0 where
  pub comes : ComesTo run s (Ok (Some (AtLoop loop lo hi (spot_in m))), state_with m n w)
  pub stands : Stands code m
  pub here : m.inside ≡ inside
  pub counter : (info : LoopInfo) → slice_get code.loops loop ≡ Some info → m.counter ≡ info.counter

-- The run stops so, with these steps left and this content.
abbrev pub StopsAs : Code → Bool → (ℕ → Act Content (Option Stop)) → State Content → Stopped → Machine → ℕ → Content
    → Type 0
StopsAs code inside run s (stopped.Ended v) m n w = ComesTo run s (Ok (Some (Ended v)), state_with m n w)
StopsAs code inside run s (stopped.AtLoop loop lo hi) m n w = StopsAtLoop code inside run s loop lo hi m n w
StopsAs code inside run s (stopped.Trapped t line) m n w = ComesTo run s (Err (t, line), state_with m n w)
