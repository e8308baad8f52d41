use Rattle.std.proofs.Common.{◌≡◌, drop, take}
use Rattle.al_core.specs.Values.{numbers}
use Rattle.al_exec.specs.Printing.{ints}
use Rattle.al_exec.proofs.Printed.{behind}
use Rattle.al_exec.proofs.printing.all_numbers.Given as goal

abbrev pub invariant-loop-v : goal.invariant-loop-v
invariant-loop-v l = numbers l.vs ≡ behind (ints (take l.v-index l.vs)) (numbers (drop l.v-index l.vs))
