use Rattle.std.proofs.Common.{◌≡◌, take}
use Rattle.al_lower.proofs.copies.copy_infos.Given as goal

abbrev pub invariant-loop-info : goal.invariant-loop-info
invariant-loop-info l = l.copy ≡ take l.info-index l.infos
