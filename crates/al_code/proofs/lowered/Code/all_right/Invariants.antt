use Rattle.std.proofs.Common.{◌≡◌}
use Rattle.al_code.specs.Checks.{all_below, is_right_at}
use Rattle.al_code.proofs.lowered.Code.all_right.Given as goal

abbrev pub invariant-loop-place : goal.invariant-loop-place
invariant-loop-place l = l.all ≡ all_below l.place (is_right_at l.self)
