use Rattle.std.proofs.Common.{◌≡◌, ◌≤◌, length, reverse}
use Rattle.std.specs.List.{find}
use Rattle.std.specs.Str.{bytes_eq}
use Rattle.al_type_names.proofs.scope.last_named.Given as goal

abbrev pub invariant-loop-bindings : goal.invariant-loop-bindings
invariant-loop-bindings l =
    (find (λ b. bytes_eq b.name.now l.name) (reverse l.fn.bindings) ≡ find (λ b. bytes_eq b.name.now l.name) (reverse l.bindings))
    × (length l.bindings ≤ length l.fn.bindings)

abbrev pub decreases-loop-bindings : goal.decreases-loop-bindings
decreases-loop-bindings l = length l.bindings
