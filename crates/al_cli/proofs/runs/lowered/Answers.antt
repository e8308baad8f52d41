use Rattle.al_loop_laws.proofs.Naming.{loops_have_their_locals}
use Rattle.al_cli.proofs.runs.lowered.Goals as goal

pub returns-in-Ok-clause-code : goal.returns-in-Ok-clause-code
returns-in-Ok-clause-code c =
    record { stands = c.in-Ok.ensures.stands; locals = loops_have_their_locals c.args.program.now.0 c.requires.formed }
