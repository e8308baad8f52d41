use Rattle.al_interpreter.proofs.whole_calls.+call_to.Given as goal

abbrev pub decreases-call_to : goal.decreases-call_to
decreases-call_to g l = l.room
