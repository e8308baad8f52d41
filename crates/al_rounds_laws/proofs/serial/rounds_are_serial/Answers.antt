use Rattle.al_rounds_laws.proofs.NoReds.{rounds_without_reds, lockstep_without_reds, unnamed_is_fresh}
use Rattle.al_rounds_laws.proofs.serial.rounds_are_serial.Goals as goal

pub returns-clause-round : goal.returns-clause-round
returns-clause-round c = rounds_without_reds

pub returns-clause-all : goal.returns-clause-all
returns-clause-all c = lockstep_without_reds

pub returns-clause-names : goal.returns-clause-names
returns-clause-names c = unnamed_is_fresh
