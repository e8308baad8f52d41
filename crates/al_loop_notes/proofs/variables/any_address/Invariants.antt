use Rattle.std.proofs.Common.{◌≡◌, false, take}
use Rattle.std.specs.List.{list_any}
use Rattle.al_loop_notes.specs.Uses.{is_address}
use Rattle.al_loop_notes.proofs.variables.any_address.Given as goal

-- none so far does
abbrev pub invariant-loop-u : goal.invariant-loop-u
invariant-loop-u l = list_any (is_address l.a) (take l.u-index l.uses) ≡ false
