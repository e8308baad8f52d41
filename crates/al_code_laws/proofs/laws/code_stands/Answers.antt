use Rattle.al_code_laws.proofs.Standing.{code_stands}
use Rattle.al_code_laws.proofs.laws.code_stands.Goals as goal

pub returns : goal.returns
returns c = code_stands
