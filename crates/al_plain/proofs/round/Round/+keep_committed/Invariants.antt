use Rattle.std.proofs.Common.{length}
use Rattle.al_plain.proofs.round.Round.+keep_committed.Given as goal

abbrev pub decreases-keep_committed : goal.decreases-keep_committed
decreases-keep_committed l = length l.outcomes.now
