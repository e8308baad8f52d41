use Rattle.al_graded_laws.proofs.Committed.{outcomes_give_values, commits_keep_values}
use Rattle.al_graded_laws.proofs.InAllModes.{rounds_keep_values, modes_keep_values}
use Rattle.al_graded_laws.proofs.runs.commits_keep_values.Goals as goal

pub returns-clause-outcomes : goal.returns-clause-outcomes
returns-clause-outcomes c = outcomes_give_values

pub returns-clause-commits : goal.returns-clause-commits
returns-clause-commits c = commits_keep_values

pub returns-clause-rounds : goal.returns-clause-rounds
returns-clause-rounds c = rounds_keep_values

pub returns-clause-modes : goal.returns-clause-modes
returns-clause-modes c = modes_keep_values
