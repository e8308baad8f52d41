use Rattle.std.proofs.Common.{◌≡◌, ◌≤◌, drop, length}
use Rattle.al_core.specs.Run.{globals_from}
use Rattle.al_plain.proofs.runs.globals.Given as goal

abbrev pub invariant-loop-left : goal.invariant-loop-left
invariant-loop-left l = record {
  made : l.objects ≡ globals_from l.left (drop l.left l.all);
  within : l.left ≤ length l.all;
}

abbrev pub decreases-loop-left : goal.decreases-loop-left
decreases-loop-left l = l.left
