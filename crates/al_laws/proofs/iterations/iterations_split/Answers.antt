use Rattle.al_laws.proofs.Splits.{iterations_split}
use Rattle.al_laws.proofs.iterations.iterations_split.Goals as goal

pub returns : goal.returns
returns c = iterations_split
