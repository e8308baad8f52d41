use Rattle.std.proofs.Common.{◌≡◌, ◌+◌, ◌++◌}
use Rattle.std.specs.Prelude.{replicate, pos}
use Rattle.al_core.specs.declared.values.Val.TheVariants.{Int}
use Rattle.al_exec.proofs.active.Active.push_zeros.Given as goal

abbrev pub invariant-loop-i : goal.invariant-loop-i
invariant-loop-i l =
    l.self ≡ record l.fn.self { stack = replicate l._i (Int (pos 0)) ++ l.fn.self.stack; height = l.fn.self.height + l._i }
