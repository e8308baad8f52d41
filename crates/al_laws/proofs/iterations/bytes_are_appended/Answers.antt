use Rattle.al_laws.proofs.Printed.{iterations_only_append, chunks_only_append, runs_only_append}
use Rattle.al_laws.proofs.iterations.bytes_are_appended.Goals as goal

pub returns-clause-iterations : goal.returns-clause-iterations
returns-clause-iterations c = iterations_only_append

pub returns-clause-chunks : goal.returns-clause-chunks
returns-clause-chunks c = chunks_only_append

pub returns-clause-runs : goal.returns-clause-runs
returns-clause-runs c = runs_only_append
