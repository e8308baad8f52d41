use Rattle.std.proofs.Common.{◌≡◌, take, false}
use Rattle.std.specs.List.{list_any}
use Rattle.al_core.specs.Accepted.{mentions}
use Rattle.al_loop_notes.proofs.mentions.+expressions.Given as goal

-- none so far does
abbrev pub invariant-in_exprs-loop-e : goal.invariant-in_exprs-loop-e
invariant-in_exprs-loop-e l = list_any (mentions l.a) (take l.e-index l.es) ≡ false
