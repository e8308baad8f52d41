use Rattle.al_laws.proofs.Applying.{applied_agrees}
use Rattle.al_laws.proofs.Untouched.{untouched_stays}
use Rattle.al_laws.proofs.committing.commits_leave_the_rest.Goals as goal

pub returns-clause-off : goal.returns-clause-off
returns-clause-off c = applied_agrees

pub returns-clause-untouched : goal.returns-clause-untouched
returns-clause-untouched c = untouched_stays
