use Rattle.al_runs_laws.proofs.small.premises_are_met.Goals as goal
use Rattle.al_runs_laws.proofs.SmallFacts.{small_choices_fit}

pub returns-clause-choices : goal.returns-clause-choices
returns-clause-choices c = small_choices_fit
