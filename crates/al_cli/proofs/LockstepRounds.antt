-- A run in lockstep has in no execution more rounds than chunks.
use Rattle.std.proofs.Common.{List, ℤ}
use Rattle.al_core.specs.declared.choices.Knobs.{Knobs}
use Rattle.al_rules.specs.Refusals.{Noted}
use Rattle.al_core.specs.Run.{sizes_of}
use Rattle.al_laws.specs.Rounds.{RoundsFit}
use Rattle.al_laws.proofs.RoundsFitted.{rounds_fit}
use Rattle.al_runs_laws.specs.Accepted.{annotated}
use Rattle.al_cli.specs.Shown.{lockstep_report}

pub lockstep_fits : (program : Noted) (input : List ℤ) (knobs : Knobs) → RoundsFit (lockstep_report program input knobs).events
lockstep_fits program input knobs = rounds_fit program.0 input (sizes_of knobs) (annotated knobs.line program.1)
