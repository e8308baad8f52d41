use Rattle.std.proofs.Common.{◌≡◌, take, false}
use Rattle.std.specs.List.{list_any}
use Rattle.al_rules.specs.Bodies.{is_misused}
use Rattle.al_loop_notes.proofs.entries.has_misused.Given as goal

-- none so far is
abbrev pub invariant-loop-r : goal.invariant-loop-r
invariant-loop-r l = list_any (λ r. is_misused l.program.typed.now l.body r.op r.at) (take l.r-index l.reds) ≡ false
