use Rattle.std.proofs.Common.{◌≡◌}
use Rattle.al_code.specs.Checks.{all_below, is_function_at}
use Rattle.al_code.proofs.lowered.Code.all_functions.Given as goal

abbrev pub invariant-loop-f : goal.invariant-loop-f
invariant-loop-f l = l.all ≡ all_below l.f (is_function_at l.self)
