-- Laws of runs: they have one end, a run may be taken from stop to stop, and up to a stop it is the same in a content
-- and in what surrounds it.
use Rattle.std.specs.Prelude.{◌≡◌, ℕ, List, Option, Some, None, Ok, Err, ℤ}
use Rattle.al_core.specs.declared.choices.LoopInfo.{LoopInfo}
use Rattle.al_core.specs.declared.values.Val.{Val}
use Rattle.al_core.specs.World.{World}
use Rattle.al_core.specs.Action.{State, Answer, Act, ◌>>◌, visit}
use Rattle.al_core.specs.Access.{Content, in_iteration}
use Rattle.al_core.specs.Meaning.{Where}
use Rattle.al_core.specs.Run.{Whole}
use Rattle.al_code.specs.declared.lowered.Entry.{Entry}
use Rattle.al_code.specs.declared.lowered.Body.{Body}
use Rattle.al_code.specs.declared.lowered.Code.{Code}
use Rattle.al_code.specs.Machine.{Spot}
use Rattle.al_code.specs.Runs.{exec, Stop, Ended, AtLoop, exec_to_stop, from_function, from_iteration}
use Rattle.al_code.specs.Answerers.{Answerer, answered}

-- so many instructions were enough
abbrev pub IsOver : {A : Type 0} → Answer (Option A) → Type 0
IsOver (Ok (Some a)) = Unit {0}
IsOver (Ok None) = ⊥
IsOver (Err e) = Unit {0}

-- ---- one end

-- a run of at most so many instructions, as every beginning of a run makes one
abbrev pub Run : Type 0 → Type 0 → Type 0
Run S A = ℕ → Act S (Option A)

-- however many instructions are enough, the end is the same
abbrev pub EndsOnce : {S A : Type 0} → Run S A → Type 0
EndsOnce run = (n m : ℕ) (s : State _) → IsOver (run n s).0 → IsOver (run m s).0 → run n s ≡ run m s

abbrev pub RunsEndOnce : Type 0 → Type 0
RunsEndOnce S =
    (world : World S) (here : Where) (input : List ℤ) (code : Code) (c : Spot)
    → EndsOnce (λ n. exec world here input code n c)

abbrev pub StopsAreOnce : Type 0 → Type 0
StopsAreOnce S =
    (world : World S) (here : Where) (input : List ℤ) (code : Code) (c : Spot)
    → EndsOnce (λ n. exec_to_stop world here input code n c)

-- ---- from stop to stop

module _ {S : Type 0} (world : World S) (here : Where) (input : List ℤ) (code : Code) where
  -- what follows a stop: the world's answer, and so many instructions more
  abbrev pub resumed : ℕ → Answer (Option Stop) × State S → Answer (Option Val) × State S
  resumed m (Ok (Some (AtLoop k lo hi d)), t) = (visit world k lo hi >> exec world here input code m d) t
  resumed m (Ok (Some (Ended v)), t) = (Ok (Some v), t)
  resumed m (Ok None, t) = (Ok None, t)
  resumed m (Err e, t) = (Err e, t)

  -- a run to the next stop, being answered there, and going on is the whole run
  abbrev pub GoesOn : Run S Stop → Run S Val → Type 0
  GoesOn to_stop whole =
      (n : ℕ) (s : State S) → IsOver (to_stop n s).0 → (m : ℕ) → (j : ℕ) × (whole j s ≡ resumed m (to_stop n s))

-- from a spot, from the start of a function and from that of an iteration
abbrev pub StopsGoOn : Type 0 → Type 0
StopsGoOn S =
    (world : World S) (here : Where) (input : List ℤ) (code : Code)
    → (((c : Spot)
    → GoesOn world here input code (λ n. exec_to_stop world here input code n c) (λ n. exec world here input code n c))
    × ((e : Entry) (room : ℕ)
    → GoesOn world here input code
    (λ n. from_function world code e room (exec_to_stop world here input code n))
    (λ n. from_function world code e room (exec world here input code n)))
    × ((info : LoopInfo) (b : Body) (counter : ℤ)
    → GoesOn world here input code
    (λ n. from_iteration world code info b counter (exec_to_stop world here input code n))
    (λ n. from_iteration world code info b counter (exec world here input code n))))

-- ---- a content within what surrounds it

abbrev pub raise : State Content → Whole → State Whole
raise s w = record { frame = s.frame; budget = s.budget; world = record w { content = s.world } }

-- what the first does to the content, the second does to the whole
pub record Lifts {A : Type 0} (p : Act Content A) (q : Act Whole A) : Type 0 where
  pub by : (s : State Content) (w : Whole) → q (raise s w) ≡ ((p s).0, raise (p s).1 w)

-- Up to a stop nobody is asked for an answer.
abbrev pub StopsLift : Type 0
StopsLift =
    (answer : Answerer) (here : Where) (input : List ℤ) (code : Code)
    → (((n : ℕ) (c : Spot)
    → Lifts (exec_to_stop in_iteration here input code n c) (exec_to_stop (answered answer) here input code n c))
    × ((n : ℕ) (e : Entry) (room : ℕ)
    → Lifts (from_function in_iteration code e room (exec_to_stop in_iteration here input code n))
    (from_function (answered answer) code e room (exec_to_stop (answered answer) here input code n))))
