-- Whole runs are serial.
use Rattle.std.specs.Prelude.{◌≡◌, ◌<◌}
use Rattle.al_core.specs.Run.{Setting, whole_run}
use Rattle.al_core.specs.Report.{shown_of, serial_run}
use Rattle.al_kinds_laws.specs.Programs.{IsProgram}
use Rattle.al_runs_laws.specs.Modes.{AreSerializable, AreOrdered, plainly}

-- Where each annotated loop runs plain, or in rounds under RAW or FULL, output and ending are those of the run in which
-- each execution runs its chunks one after another on one memory, in the commit order that the run's own events tell.
abbrev pub RunsAreSerial : Type 0
RunsAreSerial =
    (g : Setting) → IsProgram g.typed g.input → 0 < g.sizes.factor → AreSerializable g
    → shown_of (whole_run g) ≡ serial_run g.typed g.input g.sizes (whole_run g).1.world.counts.events

-- Where all of them commit in order as well, they are those of the plain run.
abbrev pub RunsInOrderArePlain : Type 0
RunsInOrderArePlain =
    (g : Setting) → IsProgram g.typed g.input → 0 < g.sizes.factor → 0 < g.sizes.lanes → AreSerializable g
    → AreOrdered g → shown_of (whole_run g) ≡ shown_of (whole_run (plainly g))
