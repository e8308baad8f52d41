-- What an instruction does, in any world: made of the words that the meaning of programs is made of.
use Rattle.std.specs.Prelude.{ℕ, zero, suc, ◌+◌, ◌-◌, true, false, List, [], ◌∷◌, ◌++◌, length, Option, Some, None, if◌then◌else◌, slice_get, take, drop, reverse, replicate, Err, ℤ, pos, ◌+ℤ◌}
use Rattle.std.specs.Int.{int_max}
use Rattle.al_source.specs.declared.texts.Piece.{Piece}
use Rattle.al_source.specs.declared.texts.Piece.TheVariants as piece
use Rattle.al_source.specs.Steps.{and_then}
use Rattle.al_core.specs.declared.choices.LoopInfo.{LoopInfo}
use Rattle.al_core.specs.declared.values.Obj.TheVariants.{Global}
use Rattle.al_core.specs.declared.values.Val.TheVariants.{Int, Ptr}
use Rattle.al_core.specs.declared.values.Trap.TheVariants as trap
use Rattle.al_core.specs.declared.values.Val.{Val}
use Rattle.al_core.specs.World.{Pointer, World}
use Rattle.al_core.specs.Values.{truth, of_test, number, numbers, operate, operate_one, choose, compare, point, shift, element, input_at, words_of, text, trips}
use Rattle.al_core.specs.Action.{AllPrivate, Frame, Act, pure, lift, spend, set_frame, ◌>>=◌, ◌>>◌, get_local, set_local, load, store, make, free, print, enter}
use Rattle.al_core.specs.Meaning.{Where, Outside, Inside, bound_value}
use Rattle.al_code.specs.declared.instructions.Instr.{Instr}
use Rattle.al_code.specs.declared.instructions.Instr.TheVariants as i
use Rattle.al_code.specs.declared.lowered.Entry.{Entry}
use Rattle.al_code.specs.declared.lowered.Body.{Body}
use Rattle.al_code.specs.declared.lowered.Code.{Code}

-- ---- where the machine is

-- an annotated loop that runs as an ordinary one: its number, its start and bound, the next trip, and how many are left
pub record InnerLoop : Type 0 where
  pub loop : ℕ
  pub lo : ℤ
  pub hi : ℤ
  pub next : ℕ
  pub left : ℕ

-- a caller that waits: the place after the call, its stack, its loops and its frame
pub record Caller : Type 0 where
  pub place : ℕ
  pub stack : List Val
  pub inner : List InnerLoop
  pub frame : Frame

-- the next instruction's place, the stack (its top first), the loops (the innermost first), the callers that wait (the
-- last first), and how many more calls may be active
pub record Spot : Type 0 where
  pub place : ℕ
  pub stack : List Val
  pub inner : List InnerLoop
  pub callers : List Caller
  pub room : ℕ

-- An instruction leads somewhere, stops at an annotated loop with its number, its start, its bound and the spot after
-- it, or ends the run with a value.
pub data Move : Type 0 where
  Goes : Spot → Move
  Stops : ℕ → ℤ → ℤ → Spot → Move
  Ends : Val → Move

-- ---- the stack

abbrev pub top : List Val → Val
top [] = Int (pos 0)
top (v ∷ vs) = v

abbrev pub below : List Val → List Val
below [] = []
below (v ∷ vs) = vs

-- where a pointer on the stack leads; code that stands for a tree has one there
abbrev pub pointer_in : Val → Pointer
pointer_in (Ptr o w) = (o, w)
pointer_in (Int n) = (Global 0, 0)

abbrev pub on_stack : Pointer → Val
on_stack q = Ptr q.0 q.1

-- how many numbers a text prints
abbrev pub holes : List Piece → ℕ
holes [] = 0
holes (piece.Plain bytes ∷ pieces) = holes pieces
holes (piece.Number ∷ pieces) = suc (holes pieces)

-- the spot after this one's instruction, with this stack
abbrev pub with_stack : Spot → List Val → Spot
with_stack c stack = record c { place = c.place + 1; stack = stack }

abbrev pub next : Spot → List Val → Move
next c stack = Goes (with_stack c stack)

-- ---- calls

-- the frame of a function that is called: its arguments, and 0 in all other locals
abbrev pub frame_at : Entry → List Val → Frame
frame_at e args =
    record { locals = args ++ replicate (e.locals - length args) (Int (pos 0)); own = AllPrivate }

-- the start of a function or of a loop's body, called by nobody
abbrev pub at_start : ℕ → ℕ → Spot
at_start place room = record { place = place; stack = []; inner = []; callers = []; room = room }

-- the caller at this spot, with its stack below the arguments
abbrev pub caller_at : Spot → List Val → Frame → Caller
caller_at c rest frame = record { place = c.place + 1; stack = rest; inner = c.inner; frame = frame }

-- in a function that was called from here
abbrev pub called_from : Spot → ℕ → List Val → ℕ → Frame → Spot
called_from c start rest room frame =
    record (at_start start room) { callers = caller_at c rest frame ∷ c.callers }

-- back at a caller, with the value on its stack
abbrev pub back_at : Caller → List Caller → ℕ → Val → Spot
back_at k callers room v =
    record { place = k.place; stack = v ∷ k.stack; inner = k.inner; callers = callers; room = room }

module _ {S : Type 0} where
  abbrev pub then_push : Spot → List Val → Act S Val → Act S Move
  then_push c stack p = p >>= (λ v. pure (next c (v ∷ stack)))

  abbrev pub push_place : Spot → List Val → Act S Pointer → Act S Move
  push_place c stack p = p >>= (λ q. pure (next c (on_stack q ∷ stack)))

  -- a call spends a step, and goes on in a frame of its own
  abbrev pub call_in : Spot → ℕ → Entry → List Val → List Val → ℕ → Act S Move
  call_in c line e args rest room =
      spend line >> (enter (frame_at e args) >>= (λ old. pure (Goes (called_from c e.start rest room old))))

  -- where no more calls may be active it traps
  abbrev pub if_room : ℕ → ℕ → (ℕ → Act S Move) → Act S Move
  if_room zero line p = lift line (Err trap.Depth)
  if_room (suc n) line p = p n

  abbrev pub call_at : Spot → ℕ → Option Entry → Act S Move
  call_at c line None = pure (Ends (Int (pos 0)))
  call_at c line (Some e) =
      if_room c.room line (call_in c line e (reverse (take e.params c.stack)) (drop e.params c.stack))

  -- to the caller, if there is one, or out of the run
  abbrev pub return_to : ℕ → Val → List Caller → Act S Move
  return_to room v [] = pure (Ends v)
  return_to room v (k ∷ ks) = set_frame k.frame >> pure (Goes (back_at k ks (suc room) v))

-- ---- annotated loops, and texts

-- in the body of a loop that runs as an ordinary one, in trip j, with so many left
abbrev pub in_body : Body → Spot → List InnerLoop → ℕ → ℤ → ℤ → ℕ → ℕ → Spot
in_body body c outer k lo hi j n =
    record c { place = body.start; inner = record { loop = k; lo = lo; hi = hi; next = suc j; left = n } ∷ outer }

module _ {S : Type 0} (world : World S) where
  -- The next trip of a loop that runs as an ordinary one spends a step and sets the counter. After the last one the
  -- counter holds the greater of the loop's start and its bound.
  abbrev pub trip : ℕ → ℕ → Body → Spot → List InnerLoop → ℕ → ℤ → ℤ → ℕ → ℕ → Act S Move
  trip line counter body c outer k lo hi j zero =
      set_local world counter (Int (int_max lo hi)) line >> pure (Goes (record c { place = body.end; inner = outer }))
  trip line counter body c outer k lo hi j (suc n) =
      spend line
      >> (set_local world counter (Int (lo +ℤ pos j)) line >> pure (Goes (in_body body c outer k lo hi j n)))

  abbrev pub begins : Where → ℕ → ℕ → Body → Spot → ℕ → ℤ → ℤ → Act S Move
  begins Outside line counter body c k lo hi = pure (Stops k lo hi (record c { place = body.end }))
  begins Inside line counter body c k lo hi =
      lift line (trips lo hi) >>= (λ n. trip line counter body c c.inner k lo hi 0 n)

  -- the start is on the stack, and the bound is read once, after it
  abbrev pub loop_at : Where → ℕ → Spot → ℕ → Val → Option LoopInfo → Option Body → Act S Move
  loop_at here line c k v (Some info) (Some body) =
      lift line (number v)
      >>= (λ lo. bound_value world info.bound line >>= (λ hi. begins here line info.counter body c k lo hi))
  loop_at here line c k v _ _ = pure (Ends v)

  abbrev pub again_at : ℕ → Spot → InnerLoop → List InnerLoop → Option LoopInfo → Option Body → Act S Move
  again_at line c x outer (Some info) (Some body) =
      trip line info.counter body c outer x.loop x.lo x.hi x.next x.left
  again_at line c x outer _ _ = pure (Ends (Int (pos 0)))

  -- the next trip of the innermost loop, or the end of the iteration that was started
  abbrev pub iteration_end : Code → ℕ → Spot → List InnerLoop → Act S Move
  iteration_end code line c [] = pure (Ends (Int (pos 0)))
  iteration_end code line c (x ∷ outer) =
      again_at line c x outer (slice_get code.loops x.loop) (slice_get code.bodies x.loop)

  abbrev pub print_at : ℕ → Spot → Option (List Piece) → Act S Move
  print_at line c None = pure (Ends (Int (pos 0)))
  print_at line c (Some format) =
      lift line (numbers (reverse (take (holes format) c.stack)))
      >>= (λ ns. print world (text format ns) line >> pure (next c (drop (holes format) c.stack)))

-- ---- one instruction

module _ {S : Type 0} (world : World S) (here : Where) (input : List ℤ) (code : Code) where
  -- at its line; where there is none, the run ends
  abbrev pub does : Option Instr → ℕ → Spot → Act S Move
  does None line c = pure (Ends (Int (pos 0)))
  does (Some (i.Push n)) line c = pure (next c (Int n ∷ c.stack))
  does (Some (i.GetLocal k)) line c = then_push c c.stack (get_local world k line)
  does (Some (i.SetLocal k)) line c = set_local world k (top c.stack) line >> pure (next c (below c.stack))
  does (Some (i.Global k)) line c = pure (next c (Ptr (Global k) 0 ∷ c.stack))
  does (Some i.NotNull) line c = push_place c (below c.stack) (lift line (point (top c.stack)))
  does (Some (i.Plus n)) line c = push_place c (below c.stack) (lift line (shift (pointer_in (top c.stack)) n))
  does (Some (i.Elem size)) line c =
      push_place c (below (below c.stack))
      (lift line (element (pointer_in (top (below c.stack))) (top c.stack) size))
  does (Some (i.Load want)) line c =
      then_push c (below c.stack) (load world (pointer_in (top c.stack)) want line)
  does (Some i.Store) line c =
      store world (pointer_in (top (below c.stack))) (top c.stack) line >> pure (next c (below (below c.stack)))
  does (Some i.Dup) line c = pure (next c (top c.stack ∷ c.stack))
  does (Some i.Drop) line c = pure (next c (below c.stack))
  does (Some (i.Unary op)) line c = then_push c (below c.stack) (lift line (operate_one op (top c.stack)))
  does (Some i.Truth) line c = pure (next c (of_test (truth (top c.stack)) ∷ below c.stack))
  does (Some (i.Binary op)) line c =
      then_push c (below (below c.stack)) (lift line (operate op (top (below c.stack)) (top c.stack)))
  does (Some (i.Same equal)) line c =
      pure (next c (compare equal (top (below c.stack)) (top c.stack) ∷ below (below c.stack)))
  does (Some (i.Choose op)) line c =
      then_push c (below (below c.stack)) (lift line (choose op (top (below c.stack)) (top c.stack)))
  does (Some (i.Jump to)) line c = pure (Goes (record c { place = to }))
  does (Some (i.JumpIf true to)) line c =
      pure (Goes (record c { place = (if truth (top c.stack) then to else c.place + 1); stack = below c.stack }))
  does (Some (i.JumpIf false to)) line c =
      pure (Goes (record c { place = (if truth (top c.stack) then c.place + 1 else to); stack = below c.stack }))
  does (Some (i.Call f)) line c = call_at c line (slice_get code.funcs f)
  does (Some i.Return) line c = return_to c.room (top c.stack) c.callers
  does (Some i.Input) line c =
      then_push c (below c.stack) (lift line (and_then (number (top c.stack)) (input_at input)))
  does (Some i.Inputs) line c = pure (next c (Int (pos (length input)) ∷ c.stack))
  does (Some (i.Calloc size)) line c =
      then_push c (below c.stack)
      (lift line (and_then (number (top c.stack)) (λ n. words_of n size)) >>= (λ words. make world words line))
  does (Some i.Free) line c = then_push c (below c.stack) (free world (top c.stack) line)
  does (Some (i.Print k)) line c = print_at world line c (slice_get code.texts k)
  does (Some i.Step) line c = spend line >> pure (next c c.stack)
  does (Some (i.Loop k)) line c =
      loop_at world here line (record c { stack = below c.stack }) k (top c.stack)
      (slice_get code.loops k) (slice_get code.bodies k)
  does (Some i.EndIteration) line c = iteration_end world code line c c.inner
