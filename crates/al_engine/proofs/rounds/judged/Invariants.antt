use Rattle.std.proofs.Common.{◌≡◌, ◌++◌, drop}
use Rattle.al_core.specs.Round.{with_chunks}
use Rattle.al_engine.proofs.rounds.judged.Given as goal

abbrev pub invariant-loop-i : goal.invariant-loop-i
invariant-loop-i l = l.all ++ with_chunks (drop l.i l.chunks) (drop l.i l.verdicts) ≡ with_chunks l.chunks l.verdicts
