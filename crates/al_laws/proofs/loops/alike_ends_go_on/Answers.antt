use Rattle.al_laws.proofs.Ends.{alike_ends_go_on}
use Rattle.al_laws.proofs.loops.alike_ends_go_on.Goals as goal

pub returns-clause-inside : goal.returns-clause-inside
returns-clause-inside c = alike_ends_go_on

pub returns-clause-outside : goal.returns-clause-outside
returns-clause-outside c = alike_ends_go_on
