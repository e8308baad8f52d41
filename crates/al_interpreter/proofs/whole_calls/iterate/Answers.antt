use Rattle.std.proofs.Common.{w64, refl}
use Rattle.std.proofs.lemmas.Int.{to_z-of_z}
use Rattle.al_core.specs.Action.{pure}
use Rattle.al_interpreter.proofs.Chains.{goes, goes_to, stops}
use Rattle.al_interpreter.proofs.whole_calls.iterate.Goals as goal

pub returns-in_err-stmt : goal.returns-in_err-stmt
returns-in_err-stmt g c =
    rw (← c.calls_within.ensures, ← to_z-of_z w64 c.args.n c.ranges.n)
    (goes _ _ _ _ _ _ _ c.in_ok-spend.ensures (goes _ _ _ _ _ _ _ c.in_ok-set_local.ensures
    (stops _ _ _ _ _ _ c.from_residual-in_err-stmt.ensures.1 c.in_err-stmt.ensures)))

pub returns : goal.returns
unfolding pure
returns g c =
    rw (← c.calls_within.ensures, ← to_z-of_z w64 c.args.n c.ranges.n)
    (goes_to _ _ _ _ _ _ c.in_ok-spend.ensures (goes_to _ _ _ _ _ _ c.in_ok-set_local.ensures (goes_to _ _ _ _ _ _ c.in_ok-stmt.ensures refl)))
