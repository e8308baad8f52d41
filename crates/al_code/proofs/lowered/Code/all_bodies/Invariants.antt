use Rattle.std.proofs.Common.{◌≡◌}
use Rattle.al_code.specs.Checks.{all_below, is_body_at}
use Rattle.al_code.proofs.lowered.Code.all_bodies.Given as goal

abbrev pub invariant-loop-k : goal.invariant-loop-k
invariant-loop-k l = l.all ≡ all_below l.k (is_body_at l.self)
