-- What is told of a run, with its events or without, shows what the run of the definition shows.
use Rattle.std.proofs.Common.{◌≡◌, Bool, true, false, List, Option, refl, ◌∙◌, ap, arith}
use Rattle.std.specs.Prelude.{ℤ}
use Rattle.al_core.specs.declared.choices.Choice.{Choice}
use Rattle.al_core.specs.declared.choices.Knobs.{Knobs}
use Rattle.al_core.specs.declared.reports.Report.{Report}
use Rattle.al_core.specs.declared.typed_tree.Typed.{Typed}
use Rattle.al_core.specs.Limits.{AreInRange}
use Rattle.al_core.specs.Report.{report, watched}
use Rattle.al_core.specs.Run.{sizes_of}
use Rattle.al_runs_laws.specs.Reports.{output_and_ending}
use Rattle.al_runs_laws.proofs.Reporting.{reports_are_serial, reports_in_order_are_plain}
use Rattle.al_engine.specs.Serial.{ShowsSerialRun, ShowsPlainRun}

watched_shows : (watch : Bool) (r : Report) → output_and_ending (watched watch r) ≡ output_and_ending r
watched_shows true r = refl
watched_shows false r = refl

module _ (typed : Typed) (input : List ℤ) (knobs : Knobs) (choices : List (Option Choice)) (range : AreInRange knobs) (watch : Bool) (told : Report)
    (exact : told ≡ watched watch (report typed input (sizes_of knobs) choices)) where
  pub shows_serial_run : ShowsSerialRun typed input knobs choices told
  shows_serial_run program fits =
      ap output_and_ending exact ∙ watched_shows watch (report typed input (sizes_of knobs) choices)
      ∙ reports_are_serial typed input (sizes_of knobs) choices program (omega (arith, range.chunk.0)) fits

  pub shows_plain_run : ShowsPlainRun typed input knobs choices told
  shows_plain_run program fits ordered =
      ap output_and_ending exact ∙ watched_shows watch (report typed input (sizes_of knobs) choices)
      ∙ reports_in_order_are_plain typed input (sizes_of knobs) choices program (omega (arith, range.chunk.0)) (omega (arith, range.lanes.0)) fits ordered
