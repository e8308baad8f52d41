use Rattle.std.proofs.Common.{◌∙◌}
use Rattle.al_loop_notes.proofs.Programs.{taken_by}
use Rattle.al_loop_notes.proofs.variables.is_taken.Goals as goal

pub returns : goal.returns
returns c = c.any_takes.ensures ∙ taken_by c.args.a _ _ c.requires
