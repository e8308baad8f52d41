-- The machine, as the meaning of code has it.
use Rattle.std.specs.Prelude.{◌≡◌, ⊤, ℕ, suc, ◌+◌, ◌-◌, ◌*◌, ◌<◌, ◌≤◌, Bool, true, false, List, [], ◌∷◌, ◌++◌, length, take, drop, reverse, Some, Result, Ok, Err, slice_get, ℤ}
use Rattle.al_core.specs.declared.choices.LoopInfo.{LoopInfo}
use Rattle.al_core.specs.declared.values.Val.{Val}
use Rattle.al_core.specs.declared.view.ViewFault.{ViewFault}
use Rattle.al_core.specs.declared.view.ViewFault.TheVariants as fault
use Rattle.al_core.specs.Action.{State}
use Rattle.al_core.specs.Access.{Content, in_iteration}
use Rattle.al_core.specs.Iteration.{calls_within}
use Rattle.al_core.specs.Meaning.{Where, Outside, Inside}
use Rattle.al_code.specs.declared.instructions.Instr.{Instr}
use Rattle.al_code.specs.declared.lowered.Code.{Code}
use Rattle.al_code.specs.Machine.{Caller, Spot, Move, Goes, Stops, Ends, does}
use Rattle.al_exec.specs.declared.machine.Machine.{Machine}
use Rattle.al_exec.specs.declared.machine.Waiting.{Waiting}
use Rattle.al_exec.specs.declared.machine.Onward.{Onward}
use Rattle.al_exec.specs.declared.machine.Onward.TheVariants as onward
use Rattle.al_exec.specs.Active.{private_of, state_of}
use Rattle.al_exec.specs.Meets.{Around, spot_of}
use Rattle.al_exec.specs.Running.{Fits, weight}

-- ---- callers

-- a function that waits, in the cells below the one that it called
abbrev pub caller_in : Waiting → List Val → Caller
caller_in w below = record {
  place = w.left.place;
  stack = reverse (drop w.left.floor below);
  inner = reverse w.inner.items;
  frame = record { locals = drop w.left.base (take w.left.floor below); own = private_of w.left.own };
}

abbrev pub callers_in : List Val → List Waiting → List Caller
callers_in below [] = []
callers_in below (w ∷ ws) = caller_in w below ∷ callers_in (take w.left.base below) ws

-- one more waits
pub record Waits (m : Machine) (w : Waiting) (m' : Machine) : Type 0 where
  pub same : m' ≡ record m { callers = m'.callers }
  pub last : m'.callers.items ≡ m.callers.items ++ w ∷ []

-- each lies in its cells, and has the height that its code says of a place after a call, without the call's value
abbrev pub Lie : Code → List Val → List Waiting → Type 0
Lie code below [] = Unit {0}
Lie code below (w ∷ ws) =
    (w.left.base ≤ w.left.floor) × (w.left.floor ≤ length below)
    × (slice_get code.heights w.left.place ≡ Some (suc (length below - w.left.floor)))
    × Lie code (take w.left.base below) ws

-- the loops that run as ordinary ones in them
abbrev pub loops_in : List Waiting → ℕ
loops_in [] = 0
loops_in (w ∷ ws) = length w.inner.items + loops_in ws

-- ---- the machine

abbrev pub where_of : Bool → Where
where_of true = Inside
where_of false = Outside

abbrev pub around_of : Machine → Around
around_of m = record {
  here = where_of m.inside;
  inner = reverse m.inner.items;
  callers = callers_in m.active.below (reverse m.callers.items);
  room = m.room;
}

abbrev pub spot_in : Machine → Spot
spot_in m = spot_of (around_of m) m.active

abbrev pub state_in : Machine → Content → State Content
state_in m w = state_of m.active w

-- the machine stands in code, with room for all that comes before the next call
pub record Stands (code : Code) (m : Machine) : Type 0 where
  pub fits : Fits code m.active
  pub callers : Lie code m.active.below (reverse m.callers.items)
  pub tall : (q h : ℕ) → slice_get code.heights q ≡ Some h → h ≤ m.tallest
  pub calls : m.room + length m.callers.items ≤ calls_within

-- it has no fewer cells than before, and the same greatest height
pub record Keeps (m m' : Machine) : Type 0 where
  pub cells : m.active.size ≤ m'.active.size
  pub tallest : m'.tallest ≡ m.tallest

-- ---- how much it may still do

-- loops and callers that were begun are ended
abbrev pub begun_in : Machine → ℕ
begun_in m = length m.callers.items + (length m.inner.items + loops_in (reverse m.callers.items))

abbrev pub total : Code → Machine → ℕ
total code m = weight code (2 * m.active.budget + begun_in m) m.active.place

-- ---- calls, returns and loops

abbrev pub move_of : Onward → Machine → Move
move_of onward.Goes m = Goes (spot_in m)
move_of (onward.Stops loop lo hi) m = Stops loop lo hi (spot_in m)
move_of (onward.Ends v) m = Ends v

-- it stands in the code again, nearer to its end
abbrev pub Stays : Code → Machine → Onward → Machine → Type 0
Stays code m onward.Goes m' = Stands code m' × (total code m' < total code m)
Stays code m (onward.Stops loop lo hi) m' =
    Stands code m' × ((info : LoopInfo) → slice_get code.loops loop ≡ Some info → m'.counter ≡ info.counter)
Stays code m (onward.Ends v) m' = ⊤

pub record Moved (input : List ℤ) (code : Code) (x : Instr) (m : Machine) (w : Content) (r : Onward)
    (m' : Machine) (w' : Content) : Type 0 where
  pub did : (line : ℕ)
      → does in_iteration (where_of m.inside) input code (Some x) line (spot_in m) (state_in m w)
      ≡ (Ok (move_of r m'), state_in m' w')
  pub inside : m'.inside ≡ m.inside
  pub stays : Stays code m r m'

-- the instruction was done, or it traps
abbrev pub Moves : List ℤ → Code → Instr → Machine → Content → Result Onward ViewFault → Machine → Content → Type 0
Moves input code x m w (Ok r) m' w' = Moved input code x m w r m' w'
Moves input code x m w (Err (fault.Trap t)) m' w' =
    (line : ℕ)
    → does in_iteration (where_of m.inside) input code (Some x) line (spot_in m) (state_in m w)
    ≡ (Err (t, line), state_in m' w')
Moves input code x m w (Err fault.Memory) m' w' = ⊤
