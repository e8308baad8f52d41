-- A machine that stops at an annotated loop, is answered there and goes on does what the whole code does.
use Rattle.std.specs.Prelude.{◌≡◌, ℕ, List, Some, Ok, ℤ}
use Rattle.al_core.specs.Action.{State, ◌>>◌, visit}
use Rattle.al_core.specs.Access.{Content, in_iteration}
use Rattle.al_core.specs.Meaning.{Outside}
use Rattle.al_core.specs.Run.{Whole}
use Rattle.al_code.specs.declared.lowered.Code.{Code}
use Rattle.al_code.specs.declared.lowered.Entry.{Entry}
use Rattle.al_code.specs.Answerers.{Answerer, answered}
use Rattle.al_code.specs.Machine.{Spot}
use Rattle.al_code.specs.Runs.{AtLoop, exec, exec_to_stop, from_function, ComesTo}
use Rattle.al_code_laws.specs.Stops.{raise}

-- Where the code comes to a stop at a loop, the whole code, with whoever answers at loops, is the answer there, and
-- then the code from the spot after it: from a spot, and from the start of a function.
abbrev pub AnsweredAtLoops : Type 0
AnsweredAtLoops =
    (answer : Answerer) (input : List ℤ) (code : Code) (s t : State Content) (w : Whole)
    (loop : ℕ) (lo hi : ℤ) (d : Spot) (m : ℕ)
    → (((c : Spot)
    → ComesTo (λ n. exec_to_stop in_iteration Outside input code n c) s (Ok (Some (AtLoop loop lo hi d)), t)
    → (j : ℕ)
    × (exec (answered answer) Outside input code j c (raise s w)
    ≡ (visit (answered answer) loop lo hi >> exec (answered answer) Outside input code m d) (raise t w)))
    × ((e : Entry) (room : ℕ)
    → ComesTo
    (λ n. from_function in_iteration code e room (exec_to_stop in_iteration Outside input code n)) s
    (Ok (Some (AtLoop loop lo hi d)), t)
    → (j : ℕ)
    × (from_function (answered answer) code e room (exec (answered answer) Outside input code j) (raise s w)
    ≡ (visit (answered answer) loop lo hi >> exec (answered answer) Outside input code m d) (raise t w))))
