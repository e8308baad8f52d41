use Rattle.std.proofs.Common.{◌≡◌, ◌≤◌, [], drop, length}
use Rattle.al_core.specs.Run.{globals_from}
use Rattle.al_engine.proofs.start.globals.Given as goal

abbrev pub invariant-loop-left : goal.invariant-loop-left
invariant-loop-left g l = record {
  made : g.S.Store.memory l.store ≡ record { objects = globals_from l.left (drop l.left l.all); locals = [] };
  within : l.left ≤ length l.all;
}

abbrev pub decreases-loop-left : goal.decreases-loop-left
decreases-loop-left g l = l.left
