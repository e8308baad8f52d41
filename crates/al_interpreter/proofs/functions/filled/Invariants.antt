use Rattle.std.proofs.Common.{◌≡◌, ◌++◌}
use Rattle.std.specs.Prelude.{replicate, pos}
use Rattle.al_core.specs.declared.values.Val.TheVariants.{Int}
use Rattle.al_interpreter.proofs.functions.filled.Given as goal

abbrev pub invariant-loop-i : goal.invariant-loop-i
invariant-loop-i l = l.locals ≡ l.initial.locals ++ replicate l._i (Int (pos 0))
