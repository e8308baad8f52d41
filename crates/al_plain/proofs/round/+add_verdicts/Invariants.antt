use Rattle.std.proofs.Common.{length}
use Rattle.al_plain.proofs.round.+add_verdicts.Given as goal

abbrev pub decreases-add_verdicts : goal.decreases-add_verdicts
decreases-add_verdicts l = length l.chunks.now
