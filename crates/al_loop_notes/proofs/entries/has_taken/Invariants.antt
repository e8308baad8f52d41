use Rattle.std.proofs.Common.{◌≡◌, take, false}
use Rattle.std.specs.List.{list_any}
use Rattle.al_rules.specs.Bodies.{is_taken}
use Rattle.al_loop_notes.proofs.entries.has_taken.Given as goal

-- none so far is
abbrev pub invariant-loop-r : goal.invariant-loop-r
invariant-loop-r l = list_any (λ r. is_taken l.program.typed.now r.at) (take l.r-index l.reds) ≡ false
