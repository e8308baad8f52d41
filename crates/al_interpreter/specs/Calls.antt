-- What a call does where so many more may be active, and a function of the code that does it.
use Rattle.std.specs.Prelude.{◌≡◌, ℕ, Result, List}
use Rattle.std.specs.declared.alloc.Global.{Global}
use denote.Ref.{Bor, MutBor}
use Rattle.al_source.specs.Answers.{Does}
use Rattle.al_core.specs.declared.values.Val.{Val}
use Rattle.al_core.specs.World.{World}
use Rattle.al_core.specs.Action.{At, State}
use Rattle.al_core.specs.Meaning.{Where, call_to}
use Rattle.al_interpreter.specs.declared.fault.Fault.{Fault}
use Rattle.al_interpreter.specs.declared.setting.Setting.{Setting}
use Rattle.al_interpreter.specs.Faults.{stopped}

abbrev pub call_within : {S : Type 0} → (Setting → World S) → Where → ℕ → Setting → ℕ → List Val → At S Val
call_within world here room on = call_to (world on) here on.program.now.funcs on.input.now room

-- The function may be called, and does so.
pub record ByFunction {S : Type 0} (does : Setting → ℕ → List Val → At S Val) (room : ℕ) (on : Setting)
    (pre : Global → Bor Setting → ℕ → MutBor (State S) → ℕ → List Val → ℕ → Type 0)
    (post : Global → Bor Setting → ℕ → MutBor (State S) → ℕ → List Val → ℕ
    → Result Val Fault → MutBor (State S) → Type 0) : Type 0 where
  pub may : (alloc : Global) (o : Bor Setting) (old : MutBor (State S)) (f : ℕ) (args : List Val) (line : ℕ)
      → pre alloc o room old f args line
  pub calls : (alloc : Global) (o : Bor Setting) (old new : MutBor (State S)) (f : ℕ) (args : List Val) (line : ℕ)
      (r : Result Val Fault)
      → o.now ≡ on → post alloc o room old f args line r new → Does stopped (does on f args line old.now) r new.now
