-- What is written of a run in which each execution of an annotated loop runs its chunks one after another.
use Rattle.std.specs.Prelude.{ℕ, List, ℤ}
use Rattle.al_core.specs.declared.choices.Knobs.{Knobs}
use Rattle.al_core.specs.Report.{OutputAndEnding, serial_run}
use Rattle.al_core.specs.Run.{sizes_of}
use Rattle.al_rules.specs.Refusals.{Noted}
use Rattle.al_answers.specs.declared.answers.Answer.{Answer}
use Rattle.al_cli.specs.Shown.{lockstep_report, ended}

-- on one memory, in the order in which the run in lockstep commits them
abbrev pub serially : Noted → List ℤ → Knobs → OutputAndEnding
serially program input knobs =
    serial_run program.0 input (sizes_of knobs) (lockstep_report program input knobs).events

abbrev pub serial_bytes : List ℕ → Noted → List ℤ → Knobs → Answer
serial_bytes name program input knobs =
    ended name (serially program input knobs).ending (serially program input knobs).output
