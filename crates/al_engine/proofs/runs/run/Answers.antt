use Rattle.std.proofs.Common.{ap, ◌∙◌}
use Rattle.std.proofs.lemmas.Result.{IfOk-weaker}
use Rattle.al_core.specs.Report.{watched}
use Rattle.al_core.specs.Run.{sizes_of}
use Rattle.al_engine.proofs.Reports.{report_is}
use Rattle.al_engine.proofs.SerialRuns.{shows_serial_run, shows_plain_run}
use Rattle.al_engine.proofs.runs.run.Goals as goal

pub returns-clause-exact : goal.returns-clause-exact
returns-clause-exact g c =
    IfOk-weaker c.told.result _ _
    (λ r e typed is.
    e
    ∙ ap (watched c.args.watch)
    (report_is typed c.args.input.now (sizes_of c.args.knobs.now) c.args.choices.now _ _ _ (c.in_ok-end.ensures typed is)))
    c.told.ensures

pub returns-clause-serial : goal.returns-clause-serial
returns-clause-serial g c =
    IfOk-weaker c.told.result _ _
    (λ r exact typed is.
    shows_serial_run typed c.args.input.now c.args.knobs.now c.args.choices.now c.requires.range c.args.watch r (exact typed is))
    (returns-clause-exact g c)

pub returns-clause-in_order : goal.returns-clause-in_order
returns-clause-in_order g c =
    IfOk-weaker c.told.result _ _
    (λ r exact typed is.
    shows_plain_run typed c.args.input.now c.args.knobs.now c.args.choices.now c.requires.range c.args.watch r (exact typed is))
    (returns-clause-exact g c)
