use Rattle.std.proofs.Common.{◌≡◌, length}
use Rattle.al_rules.specs.Notes.{stand_twice}
use Rattle.al_loop_notes.proofs.entries.stand_twice.Given as goal

abbrev pub invariant-loop-left : goal.invariant-loop-left
invariant-loop-left l = stand_twice l.left ≡ stand_twice l.initial.left

abbrev pub decreases-loop-left : goal.decreases-loop-left
decreases-loop-left l = length l.left
