use Rattle.std.proofs.Common.{◌≡◌, drop, map}
use Rattle.al_core.specs.Round.{most_steps}
use Rattle.al_snap.specs.Changes.{told}
use Rattle.al_round.proofs.commits.longest_of.Given as goal

abbrev pub invariant-loop-each : goal.invariant-loop-each
invariant-loop-each g l =
    most_steps (map (λ d. told d.change) (drop l.each-index l.all)) l.longest ≡ most_steps (map (λ d. told d.change) l.all) 0
