-- From what was done at an instruction to what the machine goes on with.
use Rattle.std.proofs.Common.{◌≡◌, ℕ, ◌≤◌, List, length, Option, Some, None, Result, Ok, Err, sym, subst, ◌∙◌, ⊎_elim, arith}
use Rattle.std.specs.Prelude.{ℤ, slice_get}
use Rattle.std.proofs.lemmas.Option.{slice_get_cases}
use Rattle.al_core.specs.declared.view.ViewFault.{ViewFault}
use Rattle.al_core.specs.Access.{Content}
use Rattle.al_code.specs.declared.instructions.Instr.{Instr}
use Rattle.al_code.specs.declared.lowered.Code.{Code}
use Rattle.al_exec.specs.declared.pause.Pause.{Pause}
use Rattle.al_exec.specs.Active.{Active}
use Rattle.al_exec.specs.Meets.{Did}
use Rattle.al_exec.specs.Pauses.{Acted, ActedOften, gone}

gone_on : (input : List ℤ) (code : Code) (x : Instr) (s s' : Active) (w w' : Content) (r : Result (Unit {0}) ViewFault)
    → Did input code x s w r s' w' → Acted input code x s w (gone r) s' w'
gone_on input code x s s' w w' (Ok u) h = h
gone_on input code x s s' w w' (Err e) h = h

pub done : (input : List ℤ) (code : Code) (x y : Instr) (s s' : Active) (w w' : Content) (r : Result (Unit {0}) ViewFault)
    (q : Result (Option Pause) ViewFault) → x ≡ y → q ≡ gone r → Did input code y s w r s' w' → Acted input code x s w q s' w'
done input code x y s s' w w' r q same is h =
    subst (λ x. Acted input code x s w q s' w') (sym same)
    (subst (λ q. Acted input code y s w q s' w') (sym is) (gone_on input code y s s' w w' r h))

pub done_often : (input : List ℤ) (code : Code) (x y : Instr) (s s' : Active) (w w' : Content) (r : Result (Unit {0}) ViewFault)
    → x ≡ y → Did input code y s w r s' w' → ActedOften input code x s w (Some r) s' w'
done_often input code x y s s' w w' r same h = subst (λ x. Did input code x s w r s' w') (sym same) h

-- a place that is within a list has an element
pub is_missing : {X : Type 0} (xs : List X) (k : ℕ) → slice_get xs k ≡ None → length xs ≤ k
is_missing xs k h =
    ⊎_elim
    (λ p. let clash : Some p.0 ≡ None = sym p.2 ∙ h in grind arith)
    (λ p. p.0)
    (slice_get_cases xs k).1
