use Rattle.std.proofs.Common.{length}
use Rattle.al_sets.specs.Rows.{IsTrimmed}
use Rattle.al_sets.proofs.maps.trim.Given as goal

abbrev pub invariant-loop-blocks : goal.invariant-loop-blocks
invariant-loop-blocks l = IsTrimmed l.fn.blocks.items l.fn.rows.items l.blocks.items l.rows.items

abbrev pub decreases-loop-blocks : goal.decreases-loop-blocks
decreases-loop-blocks l = length l.blocks.items
