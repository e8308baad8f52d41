use Rattle.al_laws.proofs.Naming.{made_are_named, statements_keep_names, names_fit}
use Rattle.al_laws.proofs.names.names_are_within_limits.Goals as goal

pub returns-clause-chunks : goal.returns-clause-chunks
returns-clause-chunks c = made_are_named

pub returns-clause-statements : goal.returns-clause-statements
returns-clause-statements c = statements_keep_names

pub returns-clause-runs : goal.returns-clause-runs
returns-clause-runs c = names_fit
