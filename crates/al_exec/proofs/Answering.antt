-- Being answered at an annotated loop.
use Rattle.std.proofs.Common.{◌≡◌, ℕ, List, Option, Some, Ok, sym, ap, ◌∙◌, subst}
use Rattle.std.specs.Prelude.{ℤ}
use Rattle.al_core.specs.Action.{State, Answer, Act, ◌>>◌, visit}
use Rattle.al_core.specs.Access.{Content}
use Rattle.al_core.specs.Meaning.{Outside}
use Rattle.al_core.specs.Run.{Whole}
use Rattle.al_core.specs.declared.values.Val.{Val}
use Rattle.al_code.specs.declared.lowered.Code.{Code}
use Rattle.al_code.specs.Answerers.{Answerer, answered}
use Rattle.al_code.specs.Machine.{Spot}
use Rattle.al_code.specs.Runs.{Stop, AtLoop, exec, ComesTo}
use Rattle.al_code_laws.specs.Stops.{IsOver, Run, raise, Lifts, GoesOn, resumed}
use Rattle.al_code_laws.proofs.Resumed.{stops_go_on}
use Rattle.al_code_laws.proofs.Carried.{stops_lift}
use Rattle.al_exec.specs.Answered.{AnsweredAtLoops}

module _ (answer : Answerer) (input : List ℤ) (code : Code) (s t : State Content) (w : Whole) (loop : ℕ) (lo hi : ℤ) (d : Spot) (m : ℕ) where
  abbrev stop : Option Stop
  stop = Some (AtLoop loop lo hi d)

  on_with : (p : ℕ → Act Content (Option Stop)) (q : Run Whole Stop) (whole : Run Whole Val) → ((n : ℕ) → Lifts (p n) (q n))
      → GoesOn (answered answer) Outside input code q whole → ComesTo p s (Ok stop, t)
      → (j : ℕ) × (whole j (raise s w) ≡ (visit (answered answer) loop lo hi >> exec (answered answer) Outside input code m d) (raise t w))
  on_with p q whole lifts goes h =
      let n = h.0 in
      let there : q n (raise s w) ≡ (Ok stop, raise t w) =
      (lifts n).by s w ∙ ap (λ (r : Answer (Option Stop) × State Content). (r.0, raise r.1 w)) h.1 in
      let over : IsOver (q n (raise s w)).0 = subst (λ (r : Answer (Option Stop) × State Whole). IsOver r.0) (sym there) tt in
      let on = goes n (raise s w) over m in
      (on.0, on.1 ∙ ap (resumed (answered answer) Outside input code m) there)

pub answered_at_loops : AnsweredAtLoops
answered_at_loops answer input code s t w loop lo hi d m =
    let lifts = stops_lift answer Outside input code in
    let goes = stops_go_on (answered answer) Outside input code in (
      λ c. on_with answer input code s t w loop lo hi d m _ _ _ (λ n. lifts.0 n c) (goes.0 c),
      λ e room. on_with answer input code s t w loop lo hi d m _ _ _ (λ n. lifts.1 n e room) (goes.1 e room),
    )
