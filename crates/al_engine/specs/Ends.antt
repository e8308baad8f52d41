-- The end of a run, and what is reported of it.
use Rattle.std.specs.Prelude.{◌≡◌, ℕ, ◌+◌, ◌-◌}
use Rattle.al_core.specs.declared.reports.Ending.{Ending}
use Rattle.al_core.specs.declared.reports.Report.{Report}
use Rattle.al_core.specs.declared.values.Val.{Val}
use Rattle.al_core.specs.Action.{State, Answer}
use Rattle.al_core.specs.Iteration.{ending_of}
use Rattle.al_core.specs.Run.{Whole}

-- a run ended so, with this world and so many steps left
pub record EndsAs (r : Answer Val × State Whole) (how : Ending) (w : Whole) (left : ℕ) : Type 0 where
  pub ending : ending_of r.0 ≡ how
  pub world : r.1.world ≡ w
  pub budget : r.1.budget ≡ left

abbrev pub report_by : Ending → ℕ → Whole → ℕ → Report
report_by ending steps w left = record {
  output = w.content.printed;
  ending = ending;
  loops = w.counts.loops;
  rounds = w.counts.rounds;
  attempts = w.counts.attempts;
  aborted = w.counts.aborted;
  span = (steps - left) + w.counts.span;
  events = w.counts.events;
}
