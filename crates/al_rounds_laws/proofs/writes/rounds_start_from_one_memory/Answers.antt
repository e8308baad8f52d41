use Rattle.al_rounds_laws.proofs.Writing.{round_is_laid_over}
use Rattle.al_rounds_laws.proofs.writes.rounds_start_from_one_memory.Goals as goal

pub returns : goal.returns
returns c = round_is_laid_over
