use Rattle.al_code_laws.proofs.Resumed.{stops_go_on}
use Rattle.al_code_laws.proofs.laws.stops_go_on.Goals as goal

pub returns-clause-content : goal.returns-clause-content
returns-clause-content c = stops_go_on

pub returns-clause-whole : goal.returns-clause-whole
returns-clause-whole c = stops_go_on
