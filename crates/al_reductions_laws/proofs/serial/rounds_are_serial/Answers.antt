use Rattle.al_reductions_laws.proofs.Rounds.{rounds_with_reds, rounds_keep_reducible, lockstep_with_reds}
use Rattle.al_reductions_laws.proofs.serial.rounds_are_serial.Goals as goal

pub returns-clause-round : goal.returns-clause-round
returns-clause-round c = rounds_with_reds

pub returns-clause-after : goal.returns-clause-after
returns-clause-after c = rounds_keep_reducible

pub returns-clause-all : goal.returns-clause-all
returns-clause-all c = lockstep_with_reds
