use Rattle.std.specs.Prelude.{length}
use Rattle.al_calls.proofs.files.+differ.Given as goal

abbrev pub decreases-differ : goal.decreases-differ
decreases-differ l = length l.files.now
