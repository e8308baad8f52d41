-- What it is that code stands for a typed tree.
use Rattle.std.specs.Prelude.{◌≡◌, ℕ, List, length, Option, Some, None, option_map, slice_get, ℤ}
use Rattle.al_core.specs.declared.typed_tree.TFunc.{TFunc}
use Rattle.al_core.specs.declared.typed_tree.Typed.{Typed}
use Rattle.al_core.specs.declared.values.Val.TheVariants.{Int}
use Rattle.al_core.specs.declared.values.Val.{Val}
use Rattle.al_core.specs.World.{World}
use Rattle.al_core.specs.Action.{State, Act, pure, spend, ◌>>=◌, ◌>>◌, set_local}
use Rattle.al_core.specs.Access.{in_iteration}
use Rattle.al_core.specs.Iteration.{calls_within}
use Rattle.al_core.specs.Loops.{Loop, loop_at}
use Rattle.al_core.specs.Meaning.{Where, Outside, Inside, returned, execute, execute_all, call_to}
use Rattle.al_code.specs.declared.lowered.Entry.{Entry}
use Rattle.al_code.specs.declared.lowered.Body.{Body}
use Rattle.al_code.specs.declared.lowered.Code.{Code}
use Rattle.al_code.specs.Runs.{exec, from_function, from_iteration}
use Rattle.al_code.specs.Answerers.{Answerer, answered, listed}

-- ---- what the tree says

module _ {S : Type 0} (world : World S) (here : Where) (input : List ℤ) (funcs : List TFunc) where
  -- a function that is called from nowhere, where so many calls may be active below it: the step of the call, and its
  -- body, in the frame that it is given
  abbrev pub function_does : ℕ → TFunc → Act S (Option Val)
  function_does room f =
      spend f.line
      >> (execute_all world here input (call_to world here funcs input room) f.body
      >>= (λ flow. pure (Some (returned flow))))

  -- an iteration of an annotated loop, with its counter at a number
  abbrev pub iteration_does : Loop → ℤ → Act S (Option Val)
  iteration_does l n =
      spend l.info.line
      >> (set_local world l.info.counter (Int n) l.info.line
      >> (execute world here input (call_to world here funcs input calls_within) l.body
      >>= (λ flow. pure (Some (returned flow)))))

-- ---- what the code does

-- An entry has its function's numbers.
pub record IsEntryOf (f : TFunc) (e : Entry) : Type 0 where
  pub params : e.params ≡ f.params
  pub locals : e.locals ≡ length f.locals

abbrev pub AreEntryOf : Option TFunc → Option Entry → Type 0
AreEntryOf (Some f) (Some e) = IsEntryOf f e
AreEntryOf None None = Unit {0}
AreEntryOf _ _ = ⊥

module _ {S : Type 0} (world : World S) (here : Where) (input : List ℤ) (code : Code) (funcs : List TFunc) where
  -- From every state each function's code, run from its entry, is over after some number of instructions, with the
  -- value or the trap and the state that the function's meaning says.
  abbrev pub FunctionsStand : Type 0
  FunctionsStand =
      (f : ℕ) (fn : TFunc) (e : Entry) → slice_get funcs f ≡ Some fn → slice_get code.funcs f ≡ Some e
      → (room : ℕ) (s : State S)
      → (n : ℕ)
      × (from_function world code e room (exec world here input code n) s
      ≡ function_does world here input funcs room fn s)

  -- The same of each iteration of a loop, from where its body is.
  abbrev pub IterationsStand : Loop → Body → Type 0
  IterationsStand l b =
      (counter : ℤ) (s : State S)
      → (n : ℕ)
      × (from_iteration world code l.info b counter (exec world here input code n) s
      ≡ iteration_does world here input funcs l counter s)

-- The code has the tree's globals, its `main`, its functions' entries and its annotated loops. Outside iterations each
-- function stands for its own, whoever answers at annotated loops, and with every list of answers: the same stops and
-- the same end. Inside, each iteration of each loop does, with every record and every reductions.
pub record StandsFor (code : Code) (typed : Typed) : Type 0 where
  pub globals : code.globals ≡ typed.globals
  pub main : code.main ≡ typed.main
  pub entries : (f : ℕ) → AreEntryOf (slice_get typed.funcs f) (slice_get code.funcs f)
  pub loops : (k : ℕ) → slice_get code.loops k ≡ option_map (λ l. l.info) (loop_at typed k)
  pub by_answerer : (answer : Answerer) (input : List ℤ)
      → FunctionsStand (answered answer) Outside input code typed.funcs
  pub by_list : (input : List ℤ) → FunctionsStand listed Outside input code typed.funcs
  pub iterations : (k : ℕ) (l : Loop) → loop_at typed k ≡ Some l
      → (b : Body) × (slice_get code.bodies k ≡ Some b)
      × ((input : List ℤ) → IterationsStand in_iteration Inside input code typed.funcs l b)
