use Rattle.al_engine.specs.Jobs.{HaveLineSizes}
use Rattle.al_case_rounds.proofs.choices.choices_of.Given as goal

abbrev pub invariant-loop-info : goal.invariant-loop-info
invariant-loop-info l = HaveLineSizes l.all
