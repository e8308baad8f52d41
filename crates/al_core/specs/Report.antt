-- What a run reports, and the order in which the chunks of an execution were committed.
use Rattle.std.specs.Prelude.{ℕ, ◌+◌, ◌-◌, Bool, true, false, ◌==◌, if◌then◌else◌, List, [], ◌∷◌, Option, Some, None, slice_get, ℤ}
use Rattle.al_core.specs.declared.choices.Choice.{Choice}
use Rattle.al_core.specs.declared.reports.Ending.{Ending}
use Rattle.al_core.specs.declared.reports.Event.{Event}
use Rattle.al_core.specs.declared.reports.Event.TheVariants as event
use Rattle.al_core.specs.declared.reports.Report.{Report}
use Rattle.al_core.specs.declared.typed_tree.Typed.{Typed}
use Rattle.al_core.specs.World.{Val}
use Rattle.al_core.specs.Action.{State, Answer}
use Rattle.al_core.specs.Iteration.{ending_of}
use Rattle.al_core.specs.declared.reports.Judged.{Judged}
use Rattle.al_core.specs.Lockstep.{commits_of}
use Rattle.al_core.specs.Run.{Sizes, Mode, Plainly, InRounds, InChunks, Whole, whole_run}

-- the span has all steps outside iterations, too
abbrev pub report_of : ℕ → Answer Val × State Whole → Report
report_of budget r = record {
  output = r.1.world.content.printed;
  ending = ending_of r.0;
  loops = r.1.world.counts.loops;
  rounds = r.1.world.counts.rounds;
  attempts = r.1.world.counts.attempts;
  aborted = r.1.world.counts.aborted;
  span = (budget - r.1.budget) + r.1.world.counts.span;
  events = r.1.world.counts.events;
}

-- a loop runs in rounds by its entry, or plain where it has none
abbrev pub mode_of : Option (Option Choice) → Mode
mode_of (Some (Some choice)) = InRounds choice
mode_of (Some None) = Plainly
mode_of None = Plainly

abbrev pub by_choices : List (Option Choice) → ℕ → ℕ → Mode
by_choices choices number execution = mode_of (slice_get choices number)

-- the report of a run with a choice for each annotated loop, or none where it runs plain
unfoldable pub report : Typed → List ℤ → Sizes → List (Option Choice) → Report
report typed input sizes choices =
    report_of sizes.serial_steps
    (whole_run (record { typed = typed; input = input; sizes = sizes; modes = by_choices choices }))

-- without its events, where nobody watches
abbrev pub watched : Bool → Report → Report
watched true r = r
watched false r = record r { events = [] }

-- ---- the order of commits

-- the rounds that come before the next loop
abbrev pub rounds_until : List Event → List (List Judged)
rounds_until [] = []
rounds_until (event.Enter number execution line trips chunks ∷ es) = []
rounds_until (event.Round round ∷ es) = round ∷ rounds_until es

-- the commit order of an execution, and none where it did not run in rounds
abbrev pub commit_order : List Event → ℕ → Option (List ℕ)
commit_order [] e = None
commit_order (event.Enter number execution line trips chunks ∷ es) e =
    if execution == e then Some (commits_of (rounds_until es)) else commit_order es e
commit_order (event.Round round ∷ es) e = commit_order es e

-- ---- the serial run

pub record OutputAndEnding : Type 0 where
  pub output : List ℕ
  pub ending : Ending

abbrev pub shown_of : Answer Val × State Whole → OutputAndEnding
shown_of r = record { output = r.1.world.content.printed; ending = ending_of r.0 }

abbrev pub in_commit_order : List Event → ℕ → ℕ → Mode
in_commit_order events number execution = InChunks (commit_order events execution)

-- What a program prints, and how it ends, where each execution runs its chunks one after another on one memory, in the
-- commit order that these events tell.
unfoldable pub serial_run : Typed → List ℤ → Sizes → List Event → OutputAndEnding
serial_run typed input sizes events =
    shown_of (whole_run (record { typed = typed; input = input; sizes = sizes; modes = in_commit_order events }))
