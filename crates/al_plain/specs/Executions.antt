-- Executions of annotated loops, as the code has them.
use Rattle.std.specs.Prelude.{◌≤◌, pos, ◌+ℤ◌, FitsSigned}
use Rattle.std.specs.Int.{w64}
use Rattle.al_source.specs.declared.limits.TheConstants.{LOOP_TRIPS}
use Rattle.al_core.specs.Iteration.{Execution}
use Rattle.al_plain.specs.declared.iterations.Execution.{Execution as Kept}
use Rattle.al_plain.specs.Found.{loop_of}

abbrev pub execution_of : Kept → Execution
execution_of x = record {
  typed = x.on.program.now;
  input = x.on.input.now;
  loop = loop_of x.looped;
  number = x.number;
  lo = x.lo;
  trips = x.trips;
  factor = x.on.knobs.chunk;
  iter_steps = x.on.knobs.iter_steps;
}

-- it has not more trips than a loop may make, and its counter has 64 bits
pub record IsBounded (x : Kept) : Type 0 where
  pub trips : x.trips ≤ LOOP_TRIPS
  pub counter : FitsSigned w64 (x.lo +ℤ pos x.trips)
