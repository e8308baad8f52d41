-- A change depends on what it records as read.
use Rattle.std.proofs.Common.{◌≡◌, ℕ, List, true, sym, subst, ◌∙◌}
use Rattle.std.specs.FinSet as set
use Rattle.al_core.specs.declared.choices.Red.{Red}
use Rattle.al_core.specs.Chunk.{Outcome, outcome}
use Rattle.al_core.specs.Iteration.{Execution}
use Rattle.al_core.specs.Memory.{Memory}
use Rattle.al_laws.proofs.Depends.{depends_on_reads}
use Rattle.al_snap.specs.declared.change.Change.{Change}
use Rattle.al_snap.specs.Changes.{IsOutcome}
use Rattle.al_chunk.specs.Footprint.{DependsOnReads}

pub change_depends_on_reads : (c : Change) (x : Execution) (reds : List Red) (m : Memory) (chunk : ℕ) → IsOutcome c (outcome x reds m chunk)
    → DependsOnReads c x reds m chunk
change_depends_on_reads c x reds m chunk is n h =
    is
    ∙ depends_on_reads x reds m n chunk h.locals
    (λ a r. h.reads a (subst (λ (o : Outcome). set.contains o.reads a ≡ true) (sym is) r))
