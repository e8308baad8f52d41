use Rattle.al_rounds_laws.proofs.Ascending.{round_ascends, rounds_ascend}
use Rattle.al_rounds_laws.proofs.order.rounds_ascend.Goals as goal

pub returns-clause-round : goal.returns-clause-round
returns-clause-round c = round_ascends

pub returns-clause-all : goal.returns-clause-all
returns-clause-all c = rounds_ascend
