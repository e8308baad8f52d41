use Rattle.al_laws.proofs.Unread.{reductions_are_unrecorded}
use Rattle.al_laws.proofs.committing.reductions_are_unrecorded.Goals as goal

pub returns : goal.returns
returns c = reductions_are_unrecorded
