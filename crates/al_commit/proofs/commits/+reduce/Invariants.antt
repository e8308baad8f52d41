use Rattle.std.proofs.Common.{length}
use Rattle.al_commit.proofs.commits.+reduce.Given as goal

abbrev pub decreases-reduce : goal.decreases-reduce
decreases-reduce g l = length l.reds.now
