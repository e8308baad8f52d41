-- What the chunks of an execution have in common that makes rounds of them serial.
use Rattle.std.specs.Prelude.{◌≡◌, ◌≢◌, ℕ, true, List, None}
use Rattle.std.specs.FinSet as set
use Rattle.al_core.specs.declared.choices.Red.{Red}
use Rattle.al_core.specs.declared.values.Addr.{Addr}
use Rattle.al_core.specs.Memory.{Memory}
use Rattle.al_core.specs.Access.{red_index}
use Rattle.al_core.specs.Iteration.{Execution}
use Rattle.al_core.specs.Chunk.{outcome, chunk_runs}
use Rattle.al_core.specs.Applied.{applied}
use Rattle.al_core.specs.Serial.{direct}
use Rattle.al_laws.specs.DirectRuns.{RunsAs}

-- `Ready c m` says on which memories m a chunk c may run.
pub record Serially (x : Execution) (reds : List Red) (Ready : ℕ → Memory → Type 0) : Type 0 where
  -- a chunk comes to what its iterations come to on the memory itself
  pub direct_run : (c : ℕ) (m : Memory) → Ready c m
      → RunsAs reds m (outcome x reds m c) (chunk_runs x c (direct x m))
  -- no reduction variable is among its reads
  pub unread : (c : ℕ) (m : Memory) (a : Addr) → set.contains (outcome x reds m c).reads a ≡ true
      → red_index reds a ≡ None
  -- once it is committed the memory is still ready for each other chunk
  pub ready : (c d : ℕ) (m : Memory) → c ≢ d → Ready c m → Ready d m → Ready d (applied reds m (outcome x reds m c))
