use Rattle.std.proofs.Common.{◌≡◌, ◌++◌, drop}
use Rattle.std.specs.Prelude.{map}
use Rattle.al_core.specs.declared.values.Val.TheVariants.{Int}
use Rattle.al_core.specs.Reductions.{red_identity}
use Rattle.al_snap.proofs.snap.identities.Given as goal

abbrev pub invariant-loop-r : goal.invariant-loop-r
invariant-loop-r l = l.all ++ map (λ r. Int (red_identity r.op)) (drop l.r-index l.reds) ≡ map (λ r. Int (red_identity r.op)) l.reds
