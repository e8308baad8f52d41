-- What a run shows where its rounds are serial.
use Rattle.std.specs.Prelude.{◌≡◌, List, [], Option, ℤ}
use Rattle.al_core.specs.declared.choices.Choice.{Choice}
use Rattle.al_core.specs.declared.choices.Knobs.{Knobs}
use Rattle.al_core.specs.declared.reports.Report.{Report}
use Rattle.al_core.specs.declared.typed_tree.Typed.{Typed}
use Rattle.al_core.specs.Report.{report, serial_run}
use Rattle.al_core.specs.Run.{sizes_of}
use Rattle.al_kinds_laws.specs.Programs.{IsProgram}
use Rattle.al_runs_laws.specs.Reports.{ChoicesAreSerializable, ChoicesAreOrdered, output_and_ending}

-- Of a program each of whose choices looks at reads, as RAW and FULL do, with reductions that are accepted for its
-- loop, output and ending are those of the run in which each execution runs its chunks one after another on one memory,
-- in the commit order that the definition's events tell.
abbrev pub ShowsSerialRun : Typed → List ℤ → Knobs → List (Option Choice) → Report → Type 0
ShowsSerialRun typed input knobs choices told =
    IsProgram typed input → ChoicesAreSerializable typed choices
    → output_and_ending told
    ≡ serial_run typed input (sizes_of knobs) (report typed input (sizes_of knobs) choices).events

-- Where all of them commit in order as well, they are those of the run with every loop plain.
abbrev pub ShowsPlainRun : Typed → List ℤ → Knobs → List (Option Choice) → Report → Type 0
ShowsPlainRun typed input knobs choices told =
    IsProgram typed input → ChoicesAreSerializable typed choices → ChoicesAreOrdered choices
    → output_and_ending told ≡ output_and_ending (report typed input (sizes_of knobs) [])
