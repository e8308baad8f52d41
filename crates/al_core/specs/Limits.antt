-- The ranges of a run's numbers.
use Rattle.std.specs.Prelude.{◌≤◌}
use Rattle.al_source.specs.declared.limits.TheConstants.{MOST_LANES, MOST_CHUNK, MOST_THREADS, MOST_STEPS}
use Rattle.al_core.specs.declared.choices.Knobs.{Knobs}
use Rattle.al_core.specs.Lines.{IsLineSize}

pub record AreInRange (k : Knobs) : Type 0 where
  pub lanes : (1 ≤ k.lanes) × (k.lanes ≤ MOST_LANES)
  pub chunk : (1 ≤ k.chunk) × (k.chunk ≤ MOST_CHUNK)
  pub threads : (1 ≤ k.threads) × (k.threads ≤ MOST_THREADS)
  pub line : IsLineSize k.line
  pub iter_steps : (1 ≤ k.iter_steps) × (k.iter_steps ≤ MOST_STEPS)
  pub serial_steps : (1 ≤ k.serial_steps) × (k.serial_steps ≤ MOST_STEPS)
