use Rattle.std.proofs.Common.{◌≡◌, ◌+◌, drop}
use Rattle.std.specs.Prelude.{option_map}
use Rattle.al_core.specs.Access.{red_index}
use Rattle.al_snap.proofs.snap.index_of.Given as goal

abbrev pub invariant-loop-i : goal.invariant-loop-i
invariant-loop-i l = option_map (λ n. l.i + n) (red_index (drop l.i l.reds) l.at) ≡ red_index l.reds l.at
