-- The report of a run that ended.
use Rattle.std.proofs.Common.{◌≡◌, ◌+◌, ◌-◌, ℕ, List, Option, sym}
use Rattle.std.specs.Prelude.{ℤ}
use Rattle.al_core.specs.declared.choices.Choice.{Choice}
use Rattle.al_core.specs.declared.reports.Ending.{Ending}
use Rattle.al_core.specs.declared.typed_tree.Typed.{Typed}
use Rattle.al_core.specs.Report.{by_choices, report}
use Rattle.al_core.specs.Run.{Sizes, Whole, whole_run}
use Rattle.al_engine.specs.Ends.{EndsAs, report_by}

pub report_is : (typed : Typed) (input : List ℤ) (sizes : Sizes) (choices : List (Option Choice)) (how : Ending) (w : Whole) (left : ℕ)
    → EndsAs (whole_run (record { typed = typed; input = input; sizes = sizes; modes = by_choices choices })) how w left
    → report_by how sizes.serial_steps w left ≡ report typed input sizes choices
unfolding report
report_is typed input sizes choices how w left h = λ t.
    let v : Whole = sym h.world t in
    record {
      output = v.content.printed;
      ending = sym h.ending t;
      loops = v.counts.loops;
      rounds = v.counts.rounds;
      attempts = v.counts.attempts;
      aborted = v.counts.aborted;
      span = (sizes.serial_steps - sym h.budget t) + v.counts.span;
      events = v.counts.events;
    }
