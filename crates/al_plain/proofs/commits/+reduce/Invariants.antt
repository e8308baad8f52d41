use Rattle.std.proofs.Common.{length}
use Rattle.al_plain.proofs.commits.+reduce.Given as goal

abbrev pub decreases-reduce : goal.decreases-reduce
decreases-reduce l = length l.reds.now
