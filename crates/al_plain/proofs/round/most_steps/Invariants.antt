use Rattle.std.proofs.Common.{◌≡◌, ◌^◌, ◌<◌, drop}
use Rattle.al_core.specs.Round.{most_steps}
use Rattle.al_plain.proofs.round.most_steps.Given as goal

abbrev pub invariant-loop-o : goal.invariant-loop-o
invariant-loop-o l = record {
  exact : most_steps (drop l.o-index l.outcomes) l.most ≡ most_steps l.outcomes 0;
  few : l.most < 2 ^ 89;
}
