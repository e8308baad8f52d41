-- Where a machine starts.
use Rattle.std.specs.Prelude.{◌≡◌, ℕ, ◌+◌, ◌≤◌, true, false, List, replicate, Some, slice_get, ℤ, pos}
use Rattle.al_core.specs.declared.choices.LoopInfo.{LoopInfo}
use Rattle.al_core.specs.declared.values.Val.{Val}
use Rattle.al_core.specs.declared.values.Val.TheVariants.{Int}
use Rattle.al_core.specs.Action.{Frame, Own}
use Rattle.al_core.specs.Iteration.{calls_within}
use Rattle.al_code.specs.declared.lowered.Body.{Body}
use Rattle.al_code.specs.declared.lowered.Code.{Code}
use Rattle.al_code.specs.declared.lowered.Entry.{Entry}
use Rattle.al_code.specs.Machine.{at_start, frame_at}
use Rattle.al_code.specs.Runs.{entry_line}
use Rattle.al_exec.specs.declared.machine.Machine.{Machine}
use Rattle.al_exec.specs.declared.machine.Start.TheVariants as start
use Rattle.al_exec.specs.Machines.{spot_in, Stands}

abbrev pub frame_in : Machine → Frame
frame_in m = record { locals = m.active.locals; own = m.active.own }

-- no stack of the code is higher
abbrev pub IsTall : Code → ℕ → Type 0
IsTall code tallest = (q h : ℕ) → slice_get code.heights q ≡ Some h → h ≤ tallest

-- The machine has room for an iteration of a loop, and for all stacks of its body.
pub record HasRoom (code : Code) (info : LoopInfo) (m : Machine) : Type 0 where
  pub tall : IsTall code m.tallest
  pub cells : (e : Entry) → slice_get code.funcs info.func ≡ Some e → e.locals + m.tallest ≤ m.active.size

-- The machine has a function before it, called from nowhere with these arguments.
pub record StartsFunction (code : Code) (e : Entry) (args : List Val) (m : Machine) : Type 0 where
  pub stands : Stands code m
  pub start : m.start ≡ start.Function (entry_line code e)
  pub outside : m.inside ≡ false
  pub spot : spot_in m ≡ at_start e.start calls_within
  pub frame : frame_in m ≡ frame_at e args

-- The machine has an iteration of a loop before it, with its counter at a number and its locals 0.
pub record StartsIteration (code : Code) (info : LoopInfo) (e : Entry) (body : Body) (counter : ℤ)
    (m : Machine) : Type 0 where
  pub stands : Stands code m
  pub start : m.start ≡ start.Iteration info.line info.counter counter
  pub inside : m.inside ≡ true
  pub spot : spot_in m ≡ at_start body.start calls_within
  pub frame :
      frame_in m
      ≡ record { locals = replicate e.locals (Int (pos 0)); own = Own info.counter info.first info.last }
