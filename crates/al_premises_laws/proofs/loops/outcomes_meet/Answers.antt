use Rattle.std.proofs.Common.{refl, arith}
use Rattle.al_premises_laws.proofs.Ranges.{second_has_values, reduced_has_values}
use Rattle.al_premises_laws.proofs.FirstLoop.{fresh}
use Rattle.al_premises_laws.proofs.SecondLoop.{second_reduces, second_fresh}
use Rattle.al_premises_laws.proofs.Outcomes.{first_apart, second_apart, untouched_is_met}
use Rattle.al_premises_laws.proofs.loops.outcomes_meet.Goals as goal

pub returns-clause-plain : goal.returns-clause-plain
returns-clause-plain c = ((λ e. absurd (omega (arith, e))), fresh 0, fresh 2, first_apart)

pub returns-clause-reducing : goal.returns-clause-reducing
returns-clause-reducing c = (
  second_reduces,
  second_has_values,
  (λ e. absurd (omega (arith, e))),
  second_fresh 3,
  second_fresh 4,
  second_apart,
  reduced_has_values,
)

pub returns-clause-untouched : goal.returns-clause-untouched
returns-clause-untouched c = untouched_is_met

pub returns-clause-recorded : goal.returns-clause-recorded
returns-clause-recorded c = refl
