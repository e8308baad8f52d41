-- An annotated loop on one memory: its iterations in order, or its chunks in a given order.
use Rattle.std.specs.Prelude.{ℕ, List, [], ◌∷◌, None}
use Rattle.al_core.specs.Memory.{Memory}
use Rattle.al_core.specs.Access.{Content, nothing_made}
use Rattle.al_core.specs.Iteration.{Execution, Finished, nothing_run, then_runs, iterations}
use Rattle.al_core.specs.Chunk.{chunk_runs}

-- no record and no accumulator: reduction variables are read and written in the memory
abbrev pub direct : Execution → Memory → Content
direct x m = record { memory = m; allocations = nothing_made x.number 0; printed = []; accesses = None }

-- iterations 0, 1, 2 and so on, up to the first trap
unfoldable pub plain_loop : Execution → Memory → Finished
plain_loop x m = iterations x x.trips 0 (direct x m)

-- the chunks of a list, each as its iterations in ascending order, up to the first trap
abbrev pub chunks_run : Execution → List ℕ → Content → Finished
chunks_run x [] content = nothing_run content
chunks_run x (c ∷ cs) content = then_runs (chunk_runs x c content) (chunks_run x cs)

unfoldable pub serial : Execution → List ℕ → Memory → Finished
serial x cs m = chunks_run x cs (direct x m)
