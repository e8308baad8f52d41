use Rattle.al_exec.proofs.Answering.{answered_at_loops}
use Rattle.al_exec.proofs.laws.answered_at_a_loop.Goals as goal

pub returns : goal.returns
returns c = answered_at_loops
