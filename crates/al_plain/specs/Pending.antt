-- The next round, and what is pending after it.
use Rattle.std.specs.Prelude.{ℕ, List, Option, Some, None, take}
use Rattle.al_core.specs.declared.choices.Choice.{Choice}
use Rattle.al_core.specs.declared.reports.Ending.{Ending}
use Rattle.al_core.specs.declared.reports.Ending.TheVariants as ending
use Rattle.al_core.specs.Memory.{Memory}
use Rattle.al_core.specs.Round.{Round, round}
use Rattle.al_core.specs.Lockstep.{still_pending}
use Rattle.al_plain.specs.declared.iterations.Execution.{Execution as Kept}
use Rattle.al_plain.specs.Executions.{execution_of}

-- it is of the first pending chunks
abbrev pub next_round : Kept → Choice → List ℕ → Memory → Round
next_round x choice pending m = round (execution_of x) choice (take x.on.knobs.lanes pending) m

abbrev pub unless_trap : Ending → List ℕ → Option (List ℕ)
unless_trap ending.Done left = Some left
unless_trap (ending.Trap t line) left = None

-- nothing, where a trap was committed
abbrev pub left_after : ℕ → List ℕ → Round → Option (List ℕ)
left_after lanes pending r = unless_trap r.ending (still_pending lanes pending r)
