-- Outcomes of chunks, as the code keeps them.
use Rattle.std.specs.Prelude.{ℕ, List, [], Option, Some, None, map}
use Rattle.al_core.specs.declared.reports.Ending.{Ending}
use Rattle.al_core.specs.Memory.{Memory}
use Rattle.al_core.specs.Access.{AccessRecord}
use Rattle.al_core.specs.Chunk.{Outcome, writes_of, made_objects, sum_of, fresh_accesses}

-- from what a chunk recorded, its private memory, what it printed, how it ended and its steps
abbrev pub outcome_from : AccessRecord → Memory → List ℕ → Ending → ℕ → Outcome
outcome_from a m printed ending steps = record {
  reads = a.reads;
  touched = a.touched;
  writes = writes_of m a.touched;
  made = made_objects m a.made;
  freed = a.freed;
  accumulators = map sum_of a.accumulators;
  printed = printed;
  ending = ending;
  steps = steps;
}

-- where there is no record, as if nothing were recorded
abbrev pub or_fresh : Option AccessRecord → AccessRecord
or_fresh (Some a) = a
or_fresh None = fresh_accesses []
