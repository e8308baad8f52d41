use Rattle.al_code_laws.proofs.Carried.{stops_lift}
use Rattle.al_code_laws.proofs.laws.stops_lift.Goals as goal

pub returns : goal.returns
returns c = stops_lift
