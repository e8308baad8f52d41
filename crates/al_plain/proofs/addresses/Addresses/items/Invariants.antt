use Rattle.std.proofs.Common.{◌≡◌, ◌++◌}
use Rattle.al_plain.proofs.addresses.Addresses.items.Given as goal

abbrev pub invariant-loop-a : goal.invariant-loop-a
invariant-loop-a l = l.all ++ l.a-iterator ≡ l.initial.a-iterator
