use Rattle.std.proofs.Common.{◌≡◌, ◌++◌, ◌≤◌, drop}
use Rattle.al_report.specs.Traces as spec
use Rattle.al_report.proofs.builder.Text.push_events.Given as goal

abbrev pub invariant-loop-event : goal.invariant-loop-event
invariant-loop-event l = record {
  whole : l.self ++ spec.event_lines l.round (drop l.event-index l.events) ≡ l.fn.self ++ spec.event_lines 0 l.events;
  few : l.round ≤ l.event-index;
}
