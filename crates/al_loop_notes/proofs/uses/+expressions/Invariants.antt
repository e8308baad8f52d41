use Rattle.std.proofs.Common.{◌≡◌, ◌++◌, take}
use Rattle.std.specs.List.{flat_map}
use Rattle.al_loop_notes.specs.Uses.{uses}
use Rattle.al_loop_notes.proofs.uses.+expressions.Given as goal

abbrev pub invariant-in_exprs-loop-e : goal.invariant-in_exprs-loop-e
invariant-in_exprs-loop-e l = l.out ≡ l.fn.out ++ flat_map uses (take l.e-index l.es)
