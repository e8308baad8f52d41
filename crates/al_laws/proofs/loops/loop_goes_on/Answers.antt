use Rattle.al_laws.proofs.Turns.{loops_go_on, turns_are_enough}
use Rattle.al_laws.proofs.loops.loop_goes_on.Goals as goal

pub returns-clause-inside : goal.returns-clause-inside
returns-clause-inside c = loops_go_on

pub returns-clause-outside : goal.returns-clause-outside
returns-clause-outside c = loops_go_on

pub returns-clause-enough_inside : goal.returns-clause-enough_inside
returns-clause-enough_inside c = turns_are_enough

pub returns-clause-enough_outside : goal.returns-clause-enough_outside
returns-clause-enough_outside c = turns_are_enough
