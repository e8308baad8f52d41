use Rattle.std.proofs.Common.{◌≡◌, ◌++◌, ◌-◌}
use Rattle.al_core.specs.Lockstep.{up_from}
use Rattle.al_plain.proofs.rounds.all_chunks.Given as goal

abbrev pub invariant-loop-c : goal.invariant-loop-c
invariant-loop-c l = l.all ++ up_from (l.count - l.c) l.c ≡ up_from l.count 0
