use Rattle.std.proofs.Common.{◌≡◌, ◌++◌, map, length}
use Rattle.al_rules.specs.Programs.{globals_typed}
use Rattle.al_types.proofs.program.globals.Given as goal

abbrev pub invariant-loop-left : goal.invariant-loop-left
invariant-loop-left l = globals_typed l.known l.known.globals ≡ l.done ++ globals_typed l.known (map (λ g. g.now) l.left)

abbrev pub decreases-loop-left : goal.decreases-loop-left
decreases-loop-left l = length l.left
