use Rattle.std.proofs.Common.{◌≡◌, []}
use Rattle.std.specs.FinMap as map
use Rattle.al_core.specs.Applied.{with_made}
use Rattle.al_plain.proofs.objects.Objects.copy.Given as goal

abbrev pub invariant-loop-o : goal.invariant-loop-o
invariant-loop-o l =
    (with_made l.o-iterator (record { objects = l.all; locals = [] })).objects
    ≡ (with_made l.initial.o-iterator (record { objects = map.empty; locals = [] })).objects
