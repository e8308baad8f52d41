use Rattle.std.proofs.Common.{◌∙◌, ap}
use Rattle.al_runs_laws.specs.Accepted.{unannotated}
use Rattle.al_cli.proofs.Lined.{none_lined}
use Rattle.al_cli.proofs.runs.plain.Goals as goal

pub run-requires-clause-lines : goal.run-requires-clause-lines
run-requires-clause-lines g c κs within =
    none_lined c.args.program.now.1 _ (c.as_slice-2.ensures.value ∙ c.in_ok-choices.ensures ∙ ap unannotated c.as_slice.ensures)
