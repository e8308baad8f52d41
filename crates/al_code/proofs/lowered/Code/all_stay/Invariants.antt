use Rattle.std.proofs.Common.{◌≡◌}
use Rattle.al_code.specs.Checks.{all_from, stays_at}
use Rattle.al_code.proofs.lowered.Code.all_stay.Given as goal

abbrev pub invariant-loop-n : goal.invariant-loop-n
invariant-loop-n l = l.stay ≡ all_from l.e.start l.n (stays_at l.self l.e)
