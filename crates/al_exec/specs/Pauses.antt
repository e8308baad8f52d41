-- Where the function that runs is left for another, or for a loop.
use Rattle.std.specs.Prelude.{◌≡◌, List, Option, Some, None, Result, Ok, Err, ℤ}
use Rattle.al_core.specs.declared.view.ViewFault.{ViewFault}
use Rattle.al_core.specs.Access.{Content}
use Rattle.al_code.specs.declared.instructions.Instr.{Instr}
use Rattle.al_code.specs.declared.instructions.Instr.TheVariants as i
use Rattle.al_code.specs.declared.lowered.Code.{Code}
use Rattle.al_exec.specs.declared.pause.Pause.{Pause}
use Rattle.al_exec.specs.declared.pause.Pause.TheVariants as pause
use Rattle.al_exec.specs.Active.{Active}
use Rattle.al_exec.specs.Meets.{Did}

abbrev pub instr_of : Pause → Instr
instr_of (pause.Call f) = i.Call f
instr_of pause.Return = i.Return
instr_of (pause.Loop k) = i.Loop k
instr_of pause.EndIteration = i.EndIteration

-- an instruction that was done is no pause
abbrev pub gone : Result (Unit {0}) ViewFault → Result (Option Pause) ViewFault
gone (Ok u) = Ok None
gone (Err e) = Err e

-- the instruction was done, or it is the pause's and nothing was done
abbrev pub Acted : List ℤ → Code → Instr → Active → Content → Result (Option Pause) ViewFault → Active → Content
    → Type 0
Acted input code x s w (Ok None) s' w' = Did input code x s w (Ok tt) s' w'
Acted input code x s w (Ok (Some p)) s' w' = (x ≡ instr_of p) × (s' ≡ s) × (w' ≡ w)
Acted input code x s w (Err e) s' w' = Did input code x s w (Err e) s' w'

-- the instruction was done, or nothing was
abbrev pub ActedOften : List ℤ → Code → Instr → Active → Content → Option (Result (Unit {0}) ViewFault) → Active
    → Content → Type 0
ActedOften input code x s w (Some r) s' w' = Did input code x s w r s' w'
ActedOften input code x s w None s' w' = (s' ≡ s) × (w' ≡ w)
