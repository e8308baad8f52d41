use Rattle.al_infer.proofs.Says.{accepted_is_faithful, refused_at_first, best_is_least, none_is_accepted}
use Rattle.al_infer.proofs.law.tables_say.Goals as goal

pub returns-clause-accepted : goal.returns-clause-accepted
returns-clause-accepted c = accepted_is_faithful

pub returns-clause-refused : goal.returns-clause-refused
returns-clause-refused c = refused_at_first

pub returns-clause-best : goal.returns-clause-best
returns-clause-best c = best_is_least

pub returns-clause-none : goal.returns-clause-none
returns-clause-none c = none_is_accepted
