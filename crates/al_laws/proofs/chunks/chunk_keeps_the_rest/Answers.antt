use Rattle.al_laws.proofs.DirectRuns.{chunk_keeps, applied_is_private}
use Rattle.al_laws.proofs.chunks.chunk_keeps_the_rest.Goals as goal

pub returns-clause-private : goal.returns-clause-private
returns-clause-private c = chunk_keeps

pub returns-clause-applied : goal.returns-clause-applied
returns-clause-applied c = applied_is_private
