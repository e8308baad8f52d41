use Rattle.std.proofs.Common.{◌≡◌, false, take}
use Rattle.std.specs.List.{list_any}
use Rattle.al_loop_notes.specs.Uses.{is_return}
use Rattle.al_loop_notes.proofs.entries.any_return.Given as goal

-- none so far does
abbrev pub invariant-loop-u : goal.invariant-loop-u
invariant-loop-u l = list_any is_return (take l.u-index l.uses) ≡ false
