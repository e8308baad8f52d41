-- How far a function has run.
use Rattle.std.specs.Prelude.{◌≡◌, ⊤, ℕ, suc, ◌+◌, ◌-◌, ◌*◌, ◌≤◌, Bool, true, false, List, length, Some, Result, Ok, Err, slice_get, ℤ}
use Rattle.al_core.specs.declared.values.Trap.{Trap}
use Rattle.al_core.specs.Access.{Content, in_iteration}
use Rattle.al_code.specs.declared.lowered.Code.{Code}
use Rattle.al_code.specs.Checks.{is_step}
use Rattle.al_code.specs.Runs.{exec_to_stop}
use Rattle.al_exec.specs.declared.fault.Fault.{Fault}
use Rattle.al_exec.specs.declared.fault.Fault.TheVariants as fault
use Rattle.al_exec.specs.declared.pause.Pause.{Pause}
use Rattle.al_exec.specs.Active.{Active, state_of}
use Rattle.al_exec.specs.Meets.{Around, spot_of}
use Rattle.al_exec.specs.Pauses.{instr_of}

-- the stack has the height that the code says of the place, and room for every height of the code
pub record Fits (code : Code) (s : Active) : Type 0 where
  pub height : slice_get code.heights s.place ≡ Some s.height
  pub room : (q h : ℕ) → slice_get code.heights q ≡ Some h → h ≤ s.room

-- ---- how much may still be done before the next step

abbrev pub rest : Bool → ℕ → ℕ → ℕ
rest true size place = 0
rest false size place = suc (size - place)

-- with so much to spend; each instruction makes it less
abbrev pub weight : Code → ℕ → ℕ → ℕ
weight code energy place =
    energy * (length code.instrs + 2) + rest (is_step (slice_get code.instrs place)) (length code.instrs) place

-- ---- runs

-- whatever the code does from the second, it does from the first
abbrev pub Comes : List ℤ → Code → Active → Content → Active → Content → Type 0
Comes input code s w s' w' =
    (a : Around) (k : ℕ)
    → (j : ℕ)
    × (exec_to_stop in_iteration a.here input code j (spot_of a s) (state_of s w)
    ≡ exec_to_stop in_iteration a.here input code k (spot_of a s') (state_of s' w'))

-- the function stands at a pause
pub record Paused (input : List ℤ) (code : Code) (s : Active) (w : Content) (p : Pause) (s' : Active)
    (w' : Content) : Type 0 where
  pub comes : Comes input code s w s' w'
  pub stands : slice_get code.instrs s'.place ≡ Some (instr_of p)
  pub fits : Fits code s'
  pub below : s'.below ≡ s.below
  pub room : s'.room ≡ s.room
  pub weighs : (n : ℕ) → weight code (2 * s'.budget + n) s'.place ≤ weight code (2 * s.budget + n) s.place

-- the function has run further
pub record Further (input : List ℤ) (code : Code) (s : Active) (w : Content) (s' : Active) (w' : Content) : Type 0 where
  pub comes : Comes input code s w s' w'
  pub fits : Fits code s'
  pub below : s'.below ≡ s.below
  pub room : s'.room ≡ s.room
  pub size : s'.size ≡ s.size
  pub weighs : (n : ℕ) → weight code (2 * s'.budget + n) s'.place ≤ weight code (2 * s.budget + n) s.place

-- it has run to a trap
abbrev pub Trapped : List ℤ → Code → Active → Content → Trap → ℕ → Active → Content → Type 0
Trapped input code s w t line s' w' =
    (a : Around)
    → (j : ℕ)
    × (exec_to_stop in_iteration a.here input code j (spot_of a s) (state_of s w) ≡ (Err (t, line), state_of s' w'))

-- it runs further, or to a trap
abbrev pub RanOn : List ℤ → Code → Active → Content → Result (Unit {0}) Fault → Active → Content → Type 0
RanOn input code s w (Ok u) s' w' = Further input code s w s' w'
RanOn input code s w (Err (fault.Trap t line)) s' w' = Trapped input code s w t line s' w'
RanOn input code s w (Err fault.Memory) s' w' = ⊤

-- it runs to a pause, or to a trap
abbrev pub Ran : List ℤ → Code → Active → Content → Result Pause Fault → Active → Content → Type 0
Ran input code s w (Ok p) s' w' = Paused input code s w p s' w'
Ran input code s w (Err (fault.Trap t line)) s' w' = Trapped input code s w t line s' w'
Ran input code s w (Err fault.Memory) s' w' = ⊤
