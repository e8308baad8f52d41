use Rattle.std.proofs.Common.{◌≡◌, ◌≤◌}
use Rattle.al_gen.specs.Generated as spec
use Rattle.al_gen.proofs.input.Given as goal

abbrev pub invariant-loop : goal.invariant-loop
invariant-loop l = record {
  read : l.numbers ≡ spec.input l.start l.counter;
  state : l.x ≡ spec.state l.start l.counter;
  within : l.counter ≤ l.size;
}
