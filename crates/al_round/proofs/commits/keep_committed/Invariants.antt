use Rattle.std.proofs.Common.{◌≡◌, ◌++◌, length, drop, map}
use Rattle.al_core.specs.Verdicts.{committed}
use Rattle.al_snap.specs.Changes.{told}
use Rattle.al_round.specs.Rounds.{IsKept}
use Rattle.al_round.proofs.commits.keep_committed.Given as goal

abbrev pub invariant-loop-done : goal.invariant-loop-done
invariant-loop-done g l = record {
  lane : l.lane ≡ length l.yielded;
  parts : l.yielded ++ l.done-iterator.rest.items ≡ l.fn.all.items;
  kept : IsKept l.reds (g.S.Store.memory l.initial.store) (committed (map (λ d. told d.change) l.fn.all.items) l.verdicts)
      (committed (map (λ d. told d.change) l.done-iterator.rest.items) (drop l.lane l.verdicts)) (g.S.Store.memory l.store) l.kept.printed l.kept.ending;
}
