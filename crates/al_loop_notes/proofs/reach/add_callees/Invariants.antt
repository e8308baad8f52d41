use Rattle.std.proofs.Common.{◌≡◌, ◌++◌, take}
use Rattle.al_loop_notes.specs.Uses.{callees}
use Rattle.al_loop_notes.proofs.reach.add_callees.Given as goal

abbrev pub invariant-loop-u : goal.invariant-loop-u
invariant-loop-u l = l.todo ≡ l.fn.todo ++ callees (take l.u-index l.uses)
