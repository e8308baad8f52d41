use Rattle.std.proofs.Common.{◌≡◌, ◌++◌, drop}
use Rattle.al_core.specs.Verdicts.{nothing_judged, verdicts_from}
use Rattle.al_plain.proofs.judging.verdicts.Given as goal

abbrev pub invariant-loop-o : goal.invariant-loop-o
invariant-loop-o l =
    l.all ++ verdicts_from l.choice l.earlier (drop l.o-index l.outcomes) ≡ verdicts_from l.choice nothing_judged l.outcomes
