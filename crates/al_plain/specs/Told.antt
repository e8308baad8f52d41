-- The report of a run, from how it ended and the state at its end.
use Rattle.std.specs.Prelude.{ℕ, ◌+◌, ◌-◌}
use Rattle.al_core.specs.declared.reports.Ending.{Ending}
use Rattle.al_core.specs.declared.reports.Report.{Report}
use Rattle.al_core.specs.Action.{State}
use Rattle.al_core.specs.Run.{Whole}

abbrev pub report_by : Ending → ℕ → State Whole → Report
report_by ending budget s = record {
  output = s.world.content.printed;
  ending = ending;
  loops = s.world.counts.loops;
  rounds = s.world.counts.rounds;
  attempts = s.world.counts.attempts;
  aborted = s.world.counts.aborted;
  span = (budget - s.budget) + s.world.counts.span;
  events = s.world.counts.events;
}
