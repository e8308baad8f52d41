use Rattle.std.proofs.Common.{◌≡◌, take, true}
use Rattle.std.specs.List.{list_all}
use Rattle.al_core.specs.Accepted.{only_updates}
use Rattle.al_loop_notes.proofs.updates.+only.Given as goal

-- each so far does
abbrev pub invariant-all_only_update-loop-s : goal.invariant-all_only_update-loop-s
invariant-all_only_update-loop-s l = list_all (only_updates l.op l.a) (take l.s-index l.ss) ≡ true
