-- Outcomes of which only the sets and the ending matter.
use Rattle.std.specs.Prelude.{List, []}
use Rattle.std.specs.FinMap as map
use Rattle.std.specs.FinSet.{FinSet}
use Rattle.al_core.specs.declared.reports.Ending.{Ending}
use Rattle.al_core.specs.Orders.{addr_cmp}
use Rattle.al_core.specs.Chunk.{Outcome}

abbrev pub accessed : FinSet addr_cmp → FinSet addr_cmp → Ending → Outcome
accessed reads touched ending = record {
  reads = reads;
  touched = touched;
  writes = map.empty;
  made = map.empty;
  freed = [];
  accumulators = [];
  printed = [];
  ending = ending;
  steps = 0;
}
