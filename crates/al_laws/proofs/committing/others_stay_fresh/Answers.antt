use Rattle.al_laws.proofs.Naming.{others_stay_fresh}
use Rattle.al_laws.proofs.committing.others_stay_fresh.Goals as goal

pub returns : goal.returns
returns c = others_stay_fresh
