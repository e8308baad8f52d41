use Rattle.al_reductions_laws.proofs.Rounds.{chunk_is_direct_run, others_stay_reducible}
use Rattle.al_reductions_laws.proofs.serial.chunks_reduce.Goals as goal

pub returns-clause-chunk : goal.returns-clause-chunk
returns-clause-chunk c = chunk_is_direct_run

pub returns-clause-others : goal.returns-clause-others
returns-clause-others c = others_stay_reducible
