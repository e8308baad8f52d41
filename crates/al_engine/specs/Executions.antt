-- Executions of annotated loops, and what they come to.
use Rattle.std.specs.Prelude.{◌≡◌, ℕ, List, Some, None, Ok, slice_get, FitsSigned}
use Rattle.std.specs.Int.{w64}
use Rattle.al_core.specs.declared.choices.LoopInfo.{LoopInfo}
use Rattle.al_core.specs.declared.typed_tree.Typed.{Typed}
use Rattle.al_core.specs.declared.reports.Ending.{Ending}
use Rattle.al_core.specs.declared.reports.Event.{Event}
use Rattle.al_core.specs.declared.reports.Event.TheVariants as event
use Rattle.al_core.specs.Values.{trips}
use Rattle.al_core.specs.Memory.{Memory}
use Rattle.al_core.specs.Loops.{loop_at}
use Rattle.al_core.specs.Iteration.{Execution}
use Rattle.al_code.specs.declared.lowered.Code.{Code}
use Rattle.al_core.specs.Lockstep as spec
use Rattle.al_core.specs.Run.{Counts, LoopResult}
use Rattle.al_chunk.specs.Loops.{IsBounded, InEachTree}
use Rattle.al_engine.specs.declared.counts.Counts.{Counts as KeptCounts}
use Rattle.al_engine.specs.declared.entered.Entered.{Entered}
use Rattle.al_engine.specs.declared.rounds.Rounds.{Rounds}
use Rattle.al_engine.specs.Jobs.{IsCodeOf, MayRun}

-- the code's loop of a number
pub record IsLoop (code : Code) (number : ℕ) (info : LoopInfo) : Type 0 where
  pub has : slice_get code.loops number ≡ Some info
  pub same : info.number ≡ number

-- no tree for which the code stands has such a loop
abbrev pub HasNoLoop : Code → ℕ → Type 0
HasNoLoop code number = (typed : Typed) → IsCodeOf typed code → loop_at typed number ≡ None

-- the loop is the code's loop of its number, and has so many trips
pub record MayEnter (x : Entered) : Type 0 where
  pub job : MayRun x.job
  pub one : slice_get x.job.code.now.loops x.info.now.number ≡ Some x.info.now
  pub bounded : IsBounded x.env
  pub trips : trips x.env.lo x.hi ≡ Ok x.env.trips
  pub lo : FitsSigned w64 x.env.lo
  pub hi : FitsSigned w64 x.hi
  pub factor : x.env.chunk ≡ x.job.knobs.chunk
  pub iter_steps : x.env.iter_steps ≡ x.job.knobs.iter_steps

-- what is true of the execution in every typed tree for which the code stands
abbrev pub InTrees : Entered → (Execution → Type 0) → Type 0
InTrees x = InEachTree x.job.code.now x.info.now x.job.input.now x.env

-- its event, where it runs in so many chunks
abbrev pub event_of : Entered → ℕ → Event
event_of x chunks = event.Enter x.info.now.number x.env.execution x.info.now.line x.env.trips chunks

-- counts, as the code keeps them
abbrev pub counts_of : KeptCounts → Counts
counts_of n = record {
  loops = n.loops;
  rounds = n.rounds;
  attempts = n.attempts;
  aborted = n.aborted;
  span = n.span;
  events = n.events;
}

-- rounds that left this memory
abbrev pub rounds_of : Memory → Rounds → spec.Rounds
rounds_of m r = record {
  memory = m;
  printed = r.printed;
  ending = r.ending;
  rounds = r.rounds;
  span = r.span;
}

-- what an execution came to
abbrev pub loop_result : Memory → List ℕ → Ending → KeptCounts → LoopResult
loop_result m printed ending counts =
    record { memory = m; printed = printed; ending = ending; counts = counts_of counts }
