use Rattle.std.proofs.Common.{◌≡◌, ◌++◌}
use Rattle.al_plain.proofs.names.Names.items.Given as goal

abbrev pub invariant-loop-o : goal.invariant-loop-o
invariant-loop-o l = l.all ++ l.o-iterator ≡ l.initial.o-iterator
