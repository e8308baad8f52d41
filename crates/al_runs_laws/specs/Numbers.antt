-- The loops and runs of a program keep it that integers are held where they have to be.
use Rattle.std.specs.Prelude.{◌≡◌, ℕ, ◌<◌, ◌+ℤ◌, true, List, Some, slice_get, ℤ, pos, FitsSigned}
use Rattle.std.specs.Int.{w64}
use Rattle.al_core.specs.declared.choices.Choice.{Choice}
use Rattle.al_core.specs.declared.choices.Red.{Red}
use Rattle.al_core.specs.declared.typed_tree.TFunc.{TFunc}
use Rattle.al_core.specs.declared.values.Val.TheVariants.{Int}
use Rattle.al_core.specs.declared.values.Addr.TheVariants.{Word}
use Rattle.al_core.specs.declared.values.Obj.TheVariants.{Global}
use Rattle.al_core.specs.Accepted.{IsAccepted}
use Rattle.al_core.specs.Memory.{Memory, value_at}
use Rattle.al_core.specs.Iteration.{Execution}
use Rattle.al_core.specs.Loops.{loop_at}
use Rattle.al_core.specs.Lockstep.{lockstep}
use Rattle.al_core.specs.Readiness.{IsFresh, HasValues}
use Rattle.al_core.specs.Run.{Setting, whole_run}
use Rattle.al_core.specs.Serial.{plain_loop, serial}
use Rattle.al_reductions_laws.specs.Reducible.{IsReducible}
use Rattle.al_kinds_laws.specs.Whole.{is_shut}
use Rattle.al_kinds_laws.specs.Programs.{IsProgram}
use Rattle.al_kinds_laws.specs.Numbers.{HoldsNumbers}
use Rattle.al_runs_laws.specs.Modes.{AreAllowed}

-- an execution of a loop of a program, in this function
pub record IsLoopOf (x : Execution) (func : TFunc) : Type 0 where
  pub program : IsProgram x.typed x.input
  pub number : ℕ
  pub loop : loop_at x.typed number ≡ Some x.loop
  pub stands : slice_get x.typed.funcs x.loop.info.func ≡ Some func
  pub counters : (j : ℕ) → j < x.trips → FitsSigned w64 (x.lo +ℤ pos j)

-- ---- loops

abbrev pub SerialKeepsNumbers : Type 0
SerialKeepsNumbers =
    (x : Execution) (func : TFunc) (cs : List ℕ) (m : Memory) → IsLoopOf x func → HoldsNumbers x.typed func.locals m
    → HoldsNumbers x.typed func.locals (serial x cs m).content.memory

abbrev pub PlainKeepsNumbers : Type 0
PlainKeepsNumbers =
    (x : Execution) (func : TFunc) (m : Memory) → IsLoopOf x func → HoldsNumbers x.typed func.locals m
    → HoldsNumbers x.typed func.locals (plain_loop x m).content.memory

-- under every policy, with reductions that are accepted
abbrev pub LockstepKeepsNumbers : Type 0
LockstepKeepsNumbers =
    (x : Execution) (func : TFunc) (choice : Choice) (lanes : ℕ) (m : Memory) → IsLoopOf x func
    → IsAccepted x.typed x.loop choice.reds → HoldsNumbers x.typed func.locals m
    → HoldsNumbers x.typed func.locals (lockstep x choice lanes m).memory

-- On such a memory a chunk may run with reductions that are accepted for its loop.
abbrev pub NumbersAreReducible : Type 0
NumbersAreReducible =
    (x : Execution) (func : TFunc) (reds : List Red) (m : Memory) (c : ℕ) → IsLoopOf x func
    → IsAccepted x.typed x.loop reds → IsFresh x m c → HasValues m → HoldsNumbers x.typed func.locals m
    → IsReducible x reds m c

-- ---- runs

-- At the end of a run, whatever the policies, each integer global whose address is taken nowhere holds a number.
abbrev pub RunsKeepNumbers : Type 0
RunsKeepNumbers =
    (g : Setting) → IsProgram g.typed g.input → AreAllowed g → (k : ℕ) → is_shut g.typed k ≡ true
    → (n : ℤ) × (value_at (whole_run g).1.world.content.memory (Word (Global k) 0) ≡ Some (Int n))
