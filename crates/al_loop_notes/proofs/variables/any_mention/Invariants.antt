use Rattle.std.proofs.Common.{◌≡◌, false, take}
use Rattle.std.specs.List.{list_any}
use Rattle.al_loop_notes.specs.Uses.{is_mention}
use Rattle.al_loop_notes.proofs.variables.any_mention.Given as goal

-- none so far does
abbrev pub invariant-loop-u : goal.invariant-loop-u
invariant-loop-u l = list_any (is_mention l.a) (take l.u-index l.uses) ≡ false
