use Rattle.std.proofs.Common.{◌≡◌, take, false}
use Rattle.std.specs.List.{list_any}
use Rattle.al_loop_notes.proofs.Programs.{any_address}
use Rattle.al_loop_notes.proofs.variables.any_takes.Given as goal

-- none so far does
abbrev pub invariant-loop-uses : goal.invariant-loop-uses
invariant-loop-uses l = list_any (any_address l.a) (take l.uses-index l.all) ≡ false
