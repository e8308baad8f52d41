-- What a chunk's run depends on.
use Rattle.std.specs.Prelude.{◌≡◌, ℕ, true, List, length}
use Rattle.std.specs.FinSet as set
use Rattle.al_core.specs.declared.choices.Red.{Red}
use Rattle.al_core.specs.declared.values.Addr.{Addr}
use Rattle.al_core.specs.Chunk.{outcome}
use Rattle.al_core.specs.Iteration.{Execution}
use Rattle.al_core.specs.Memory.{Memory, AgreeAt}
use Rattle.al_snap.specs.declared.change.Change.{Change}
use Rattle.al_snap.specs.Changes.{told, IsOutcome}

-- they have as many locals, and agree at each address that the change records as read
pub record AgreesAtReads (c : Change) (m n : Memory) : Type 0 where
  pub locals : length m.locals ≡ length n.locals
  pub reads : (a : Addr) → set.contains (told c).reads a ≡ true → AgreeAt m n a

-- On every such memory the chunk has the same outcome.
abbrev pub DependsOnReads : Change → Execution → List Red → Memory → ℕ → Type 0
DependsOnReads c x reds m chunk = (n : Memory) → AgreesAtReads c m n → IsOutcome c (outcome x reds n chunk)
