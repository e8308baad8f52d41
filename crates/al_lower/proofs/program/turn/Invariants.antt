use Rattle.std.proofs.Common.{◌≡◌, ◌++◌, map, length}
use Rattle.std.specs.Prelude.{reverse}
use Rattle.al_lower.specs.Assembly.{turned}
use Rattle.al_lower.proofs.program.turn.Given as goal

abbrev pub invariant-loop-e : goal.invariant-loop-e
invariant-loop-e l = l.entries ++ map (turned l.total) (reverse l.from_end.items) ≡ map (turned l.total) (reverse l.fn.from_end.items)

abbrev pub decreases-loop-e : goal.decreases-loop-e
decreases-loop-e l = length l.from_end.items
