use Rattle.al_graded_laws.proofs.Values.{iterations_keep_values, chunks_keep_values, serial_keeps_values, plain_keeps_values}
use Rattle.al_graded_laws.proofs.runs.iterations_keep_values.Goals as goal

pub returns-clause-iterations : goal.returns-clause-iterations
returns-clause-iterations c = iterations_keep_values

pub returns-clause-chunks : goal.returns-clause-chunks
returns-clause-chunks c = chunks_keep_values

pub returns-clause-serial : goal.returns-clause-serial
returns-clause-serial c = serial_keeps_values

pub returns-clause-plain : goal.returns-clause-plain
returns-clause-plain c = plain_keeps_values
