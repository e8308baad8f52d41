-- Executions of annotated loops, as code runs them.
use Rattle.std.specs.Prelude.{◌≡◌, ◌≤◌, ℕ, List, length, Some, slice_get, ℤ, pos, ◌+ℤ◌, FitsSigned}
use Rattle.std.specs.Int.{w64}
use Rattle.al_source.specs.declared.limits.TheConstants.{LOOP_TRIPS, MOST_STEPS}
use Rattle.al_core.specs.declared.choices.LoopInfo.{LoopInfo}
use Rattle.al_core.specs.declared.typed_tree.TFunc.{TFunc}
use Rattle.al_core.specs.declared.typed_tree.Typed.{Typed}
use Rattle.al_core.specs.Access.{Content}
use Rattle.al_core.specs.Loops.{Loop, loop_at}
use Rattle.al_core.specs.Iteration.{Execution, Finished}
use Rattle.al_code.specs.declared.lowered.Code.{Code}
use Rattle.al_code.specs.Stands.{StandsFor}
use Rattle.al_chunk.specs.declared.env.LoopEnv.{LoopEnv}
use Rattle.al_chunk.specs.declared.env.Run.{Run}

-- it has not more trips than a loop may make, and its counter has 64 bits
pub record IsBounded (env : LoopEnv) : Type 0 where
  pub trips : env.trips ≤ LOOP_TRIPS
  pub counter : FitsSigned w64 (env.lo +ℤ pos env.trips)
  pub chunk : 1 ≤ env.chunk
  pub steps : env.iter_steps ≤ MOST_STEPS

-- the execution of a tree's loop
abbrev pub execution_of : Typed → Loop → List ℤ → LoopEnv → Execution
execution_of typed l input env = record {
  typed = typed;
  input = input;
  loop = l;
  number = env.execution;
  lo = env.lo;
  trips = env.trips;
  factor = env.chunk;
  iter_steps = env.iter_steps;
}

-- The code stands for the tree, which has a loop of that number. The loop has as many locals as the function that it
-- names, as every loop of a well-formed tree has.
pub record StandsForLoop (code : Code) (number : ℕ) (typed : Typed) (l : Loop) : Type 0 where
  pub stands : StandsFor code typed
  pub loop : loop_at typed number ≡ Some l
  pub locals : (f : TFunc) → slice_get typed.funcs l.info.func ≡ Some f → l.locals ≡ length f.locals

-- what is true of the execution in every typed tree for which the code stands
abbrev pub InEachTree : Code → LoopInfo → List ℤ → LoopEnv → (Execution → Type 0) → Type 0
InEachTree code info input env P =
    (typed : Typed) (l : Loop) → StandsForLoop code info.number typed l → P (execution_of typed l input env)

-- a run that left this content, as the definitions have it
abbrev pub finished : Run → Content → Finished
finished r c = record { ending = r.ending; steps = r.steps; content = c }
