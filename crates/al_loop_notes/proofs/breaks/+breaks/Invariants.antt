use Rattle.std.proofs.Common.{◌≡◌, take, false}
use Rattle.std.specs.List.{list_any}
use Rattle.al_rules.specs.Bodies.{has_break}
use Rattle.al_loop_notes.proofs.breaks.+breaks.Given as goal

-- none so far does
abbrev pub invariant-any_breaks-loop-s : goal.invariant-any_breaks-loop-s
invariant-any_breaks-loop-s l = list_any has_break (take l.s-index l.ss) ≡ false
