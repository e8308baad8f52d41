-- How what was done at an instruction meets its meaning.
use Rattle.std.specs.Prelude.{◌≡◌, ◌⊎◌, ⊤, ℕ, suc, ◌+◌, ◌-◌, List, Some, Result, Ok, Err, ℤ}
use Rattle.al_core.specs.declared.view.ViewFault.{ViewFault}
use Rattle.al_core.specs.declared.view.ViewFault.TheVariants as fault
use Rattle.al_core.specs.Action.{State, Answer, At}
use Rattle.al_core.specs.Access.{Content, in_iteration}
use Rattle.al_core.specs.Meaning.{Where}
use Rattle.al_code.specs.declared.instructions.Instr.{Instr}
use Rattle.al_code.specs.declared.instructions.Instr.TheVariants as i
use Rattle.al_code.specs.declared.lowered.Code.{Code}
use Rattle.al_code.specs.Machine.{InnerLoop, Caller, Spot, Move, Goes, does}
use Rattle.al_code.specs.Valid.{takes, puts}
use Rattle.al_exec.specs.Active.{Active, state_of}

-- what a function that runs does not see: where it stands, its loops, its callers, and how many more calls may be
-- active
pub record Around : Type 0 where
  pub here : Where
  pub inner : List InnerLoop
  pub callers : List Caller
  pub room : ℕ

abbrev pub spot_of : Around → Active → Spot
spot_of a s = record { place = s.place; stack = s.stack; inner = a.inner; callers = a.callers; room = a.room }

-- it goes on in the same function, or traps at the line; for want of memory it may do anything
abbrev pub Meets : Around → ℕ → Answer Move × State Content → Result (Unit {0}) ViewFault → Active → Content → Type 0
Meets a line told (Ok u) s w = told ≡ (Ok (Goes (spot_of a s)), state_of s w)
Meets a line told (Err (fault.Trap t)) s w = told ≡ (Err (t, line), state_of s w)
Meets a line told (Err fault.Memory) s w = ⊤

-- the place that comes next; calls, loops and their ends are not done in one function
abbrev pub GoesTo : ℕ → Instr → ℕ → Type 0
GoesTo place (i.Jump to) p = p ≡ to
GoesTo place (i.JumpIf b to) p = (p ≡ to) ⊎ (p ≡ place + 1)
GoesTo place (i.Call f) p = ⊥
GoesTo place i.Return p = ⊥
GoesTo place (i.Loop k) p = ⊥
GoesTo place i.EndIteration p = ⊥
GoesTo place _ p = p ≡ place + 1

-- the steps that are left before and after
abbrev pub Spends : Instr → ℕ → ℕ → Type 0
Spends i.Step n m = n ≡ suc m
Spends _ n m = m ≡ n

-- what an instruction leaves as it is, and where it goes
pub record Went (code : Code) (x : Instr) (s s' : Active) : Type 0 where
  pub below : s'.below ≡ s.below
  pub room : s'.room ≡ s.room
  pub height : s'.height ≡ s.height - takes code x + puts x
  pub place : GoesTo s.place x s'.place
  pub steps : Spends x s.budget s'.budget

abbrev pub WentOn : Code → Instr → Active → Result (Unit {0}) ViewFault → Active → Type 0
WentOn code x s (Ok u) s' = Went code x s s'
WentOn code x s (Err e) s' = ⊤

-- the instruction was done, whatever stands around the function
abbrev pub Did : List ℤ → Code → Instr → Active → Content → Result (Unit {0}) ViewFault → Active → Content → Type 0
Did input code x s w r s' w' =
    ((a : Around) (line : ℕ)
    → Meets a line (does in_iteration a.here input code (Some x) line (spot_of a s) (state_of s w)) r s' w')
    × WentOn code x s r s' × (s'.size ≡ s.size)

-- an instruction that asks nothing of what the code sees
abbrev pub DidAlone : Instr → Active → Result (Unit {0}) ViewFault → Active → Type 0
DidAlone x s r s' = (input : List ℤ) (code : Code) (w : Content) → Did input code x s w r s' w

-- an action of what the code sees was done, at whatever line
abbrev pub Answers : {A : Type 0} → At Content A → Active → Content → Result A ViewFault → Active → Content → Type 0
Answers p s w (Ok a) s' w' = (line : ℕ) → p line (state_of s w) ≡ (Ok a, state_of s' w')
Answers p s w (Err (fault.Trap t)) s' w' = (line : ℕ) → p line (state_of s w) ≡ (Err (t, line), state_of s' w')
Answers p s w (Err fault.Memory) s' w' = ⊤
