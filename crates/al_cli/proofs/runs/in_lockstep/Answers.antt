use Rattle.std.proofs.Common.{◌∙◌}
use Rattle.al_cli.proofs.Lined.{own_lined}
use Rattle.al_cli.proofs.runs.in_lockstep.Goals as goal

pub run-requires-clause-lines : goal.run-requires-clause-lines
run-requires-clause-lines g c κs within =
    own_lined c.args.knobs.now.line c.args.program.now _ c.requires.ranges.line (c.as_slice.ensures ∙ c.in_ok-choices.ensures)
