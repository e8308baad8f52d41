use Rattle.std.proofs.Common.{◌≡◌, take, false}
use Rattle.std.specs.List.{list_any}
use Rattle.al_rules.specs.Bodies.{has_update}
use Rattle.al_loop_notes.proofs.updates.+updates.Given as goal

-- none so far does
abbrev pub invariant-any_updates-loop-s : goal.invariant-any_updates-loop-s
invariant-any_updates-loop-s l = list_any (has_update l.op l.a) (take l.s-index l.ss) ≡ false
