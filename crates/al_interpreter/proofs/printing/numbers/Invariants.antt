use Rattle.std.proofs.Common.{◌≡◌, drop}
use Rattle.al_core.specs.Values.{numbers}
use Rattle.al_interpreter.proofs.Printed.{behind}
use Rattle.al_interpreter.proofs.printing.numbers.Given as goal

abbrev pub invariant-loop-v : goal.invariant-loop-v
invariant-loop-v l = numbers l.vs ≡ behind l.ns (numbers (drop l.v-index l.vs))
