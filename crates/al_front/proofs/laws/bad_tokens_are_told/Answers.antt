use Rattle.al_front.proofs.Places.{bad_one, bad_refused, bad_told}
use Rattle.al_front.proofs.laws.bad_tokens_are_told.Goals as goal

pub returns-clause-one : goal.returns-clause-one
returns-clause-one c = bad_one

pub returns-clause-refused : goal.returns-clause-refused
returns-clause-refused c = bad_refused

pub returns-clause-told : goal.returns-clause-told
returns-clause-told c = bad_told
