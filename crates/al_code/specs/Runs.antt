-- Runs of code: instruction after instruction, to the end or to the next stop.
use Rattle.std.specs.Prelude.{◌≡◌, ℕ, zero, suc, ◌-◌, List, Option, Some, None, slice_get, ℤ}
use Rattle.al_core.specs.declared.choices.LoopInfo.{LoopInfo}
use Rattle.al_core.specs.declared.values.Val.TheVariants.{Int}
use Rattle.al_core.specs.declared.values.Val.{Val}
use Rattle.al_core.specs.World.{World}
use Rattle.al_core.specs.Action.{State, Answer, Act, pure, spend, ◌>>=◌, ◌>>◌, set_local, visit}
use Rattle.al_core.specs.Meaning.{Where}
use Rattle.al_core.specs.Iteration.{calls_within}
use Rattle.al_code.specs.declared.lowered.Entry.{Entry}
use Rattle.al_code.specs.declared.lowered.Body.{Body}
use Rattle.al_code.specs.declared.lowered.Code.{Code}
use Rattle.al_code.specs.Machine.{Spot, Move, Goes, Stops, Ends, at_start, does}

abbrev pub or_no_line : Option ℕ → ℕ
or_no_line (Some line) = line
or_no_line None = 0

-- how a run stops: at its end, or at an annotated loop, after which it goes on from a spot
pub data Stop : Type 0 where
  Ended : Val → Stop
  AtLoop : ℕ → ℤ → ℤ → Spot → Stop

module _ {S : Type 0} (world : World S) (here : Where) (input : List ℤ) (code : Code) where
  -- the instruction at a spot
  abbrev pub does_at : Spot → Act S Move
  does_at c =
      does world here input code (slice_get code.instrs c.place) (or_no_line (slice_get code.lines c.place)) c

  -- ---- to the end

  -- an annotated loop is handed on, and the run goes on after it
  abbrev pub moved : (Spot → Act S (Option Val)) → Move → Act S (Option Val)
  moved go (Goes c) = go c
  moved go (Stops k lo hi c) = visit world k lo hi >> go c
  moved go (Ends v) = pure (Some v)

  -- At most so many instructions: the value with which the run ends, if it is over by then.
  abbrev pub exec : ℕ → Spot → Act S (Option Val)
  exec zero c = pure None
  exec (suc n) c = does_at c >>= moved (exec n)

  -- ---- to the next stop

  abbrev pub moved_to_stop : (Spot → Act S (Option Stop)) → Move → Act S (Option Stop)
  moved_to_stop go (Goes c) = go c
  moved_to_stop go (Stops k lo hi c) = pure (Some (AtLoop k lo hi c))
  moved_to_stop go (Ends v) = pure (Some (Ended v))

  -- At most so many instructions: the stop, if there is one by then.
  abbrev pub exec_to_stop : ℕ → Spot → Act S (Option Stop)
  exec_to_stop zero c = pure None
  exec_to_stop (suc n) c = does_at c >>= moved_to_stop (exec_to_stop n)

-- ---- where runs begin

-- A function's last instruction has the line of its definition. A call from nowhere has that line.
abbrev pub entry_line : Code → Entry → ℕ
entry_line code e = or_no_line (slice_get code.lines (e.end - 1))

module _ {S : Type 0} (world : World S) (code : Code) where
  -- a function that is called from nowhere spends the step of that call first, in the frame that it is given
  abbrev pub from_function : {A : Type 0} → Entry → ℕ → (Spot → Act S A) → Act S A
  from_function e room go = spend (entry_line code e) >> go (at_start e.start room)

  -- An iteration of an annotated loop spends a step, sets the counter and does the body. One call is active.
  abbrev pub from_iteration : {A : Type 0} → LoopInfo → Body → ℤ → (Spot → Act S A) → Act S A
  from_iteration info body n go =
      spend info.line >> (set_local world info.counter (Int n) info.line >> go (at_start body.start calls_within))

-- what a run comes to, to the next stop: after some number of instructions
abbrev pub ComesTo : {S : Type 0} → (ℕ → Act S (Option Stop)) → State S → Answer (Option Stop) × State S → Type 0
ComesTo run s r = (n : ℕ) × (run n s ≡ r)
