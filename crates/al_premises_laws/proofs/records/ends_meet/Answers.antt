use Rattle.al_premises_laws.proofs.records.ends_meet.Goals as goal
use Rattle.al_premises_laws.proofs.Ended.{end_is_met, actions_are_met, ends_are_met}

pub returns-clause-complete : goal.returns-clause-complete
returns-clause-complete c = end_is_met

pub returns-clause-actions : goal.returns-clause-actions
returns-clause-actions c = actions_are_met

pub returns-clause-alike : goal.returns-clause-alike
returns-clause-alike c = ends_are_met
