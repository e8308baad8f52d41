use Rattle.al_rounds_laws.proofs.InOrder.{round_in_order, lockstep_in_order}
use Rattle.al_rounds_laws.proofs.order.commits_are_first.Goals as goal

pub returns-clause-round : goal.returns-clause-round
returns-clause-round c x choice m cs ordered = round_in_order x choice ordered m cs

pub returns-clause-all : goal.returns-clause-all
returns-clause-all c x choice lanes m ordered some = lockstep_in_order x choice ordered lanes some m
