use Rattle.std.proofs.Common.{◌≡◌, ◌++◌, drop}
use Rattle.al_core.specs.Round.{outcomes}
use Rattle.al_plain.specs.Executions.{execution_of}
use Rattle.al_plain.proofs.round.outcomes.Given as goal

abbrev pub invariant-loop-c : goal.invariant-loop-c
invariant-loop-c l =
    l.all ++ outcomes (execution_of l.x) l.reds l.memory (drop l.c-index l.chunks) ≡ outcomes (execution_of l.x) l.reds l.memory l.chunks
