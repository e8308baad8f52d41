use Rattle.al_loop_laws.proofs.Naming.{loops_have_their_locals}
use Rattle.al_loop_laws.proofs.laws.loops_have_their_locals.Goals as goal

pub returns : goal.returns
returns c = loops_have_their_locals
