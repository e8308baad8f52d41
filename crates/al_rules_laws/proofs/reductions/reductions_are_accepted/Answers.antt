use Rattle.al_rules_laws.proofs.AcceptedReductions.{own_reductions_are_accepted, choices_are_accepted}
use Rattle.al_rules_laws.proofs.reductions.reductions_are_accepted.Goals as goal

pub returns-clause-own : goal.returns-clause-own
returns-clause-own c = own_reductions_are_accepted

pub returns-clause-choices : goal.returns-clause-choices
returns-clause-choices c = choices_are_accepted
