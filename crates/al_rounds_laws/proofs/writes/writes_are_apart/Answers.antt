use Rattle.al_rounds_laws.proofs.Writing.{committed_touch_apart}
use Rattle.al_rounds_laws.proofs.Commuting.{outcomes_commute}
use Rattle.al_rounds_laws.proofs.AnyOrder.{any_order_is_same}
use Rattle.al_rounds_laws.proofs.writes.writes_are_apart.Goals as goal

pub returns-clause-apart : goal.returns-clause-apart
returns-clause-apart c = committed_touch_apart

pub returns-clause-either_order : goal.returns-clause-either_order
returns-clause-either_order c = outcomes_commute

pub returns-clause-any_order : goal.returns-clause-any_order
returns-clause-any_order c = any_order_is_same
