use Rattle.al_runs_laws.proofs.numbers.loops_keep_numbers.Goals as goal
use Rattle.al_runs_laws.proofs.NumbersKept.{serial_keeps_numbers, plain_keeps_numbers, lockstep_keeps_numbers, numbers_are_reducible}

pub returns-clause-serial : goal.returns-clause-serial
returns-clause-serial c = serial_keeps_numbers

pub returns-clause-plain : goal.returns-clause-plain
returns-clause-plain c = plain_keeps_numbers

pub returns-clause-rounds : goal.returns-clause-rounds
returns-clause-rounds c = lockstep_keeps_numbers

pub returns-clause-reducible : goal.returns-clause-reducible
returns-clause-reducible c = numbers_are_reducible
