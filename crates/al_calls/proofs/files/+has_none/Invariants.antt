use Rattle.std.specs.Prelude.{length}
use Rattle.al_calls.proofs.files.+has_none.Given as goal

abbrev pub decreases-has_none : goal.decreases-has_none
decreases-has_none l = length l.files.now
