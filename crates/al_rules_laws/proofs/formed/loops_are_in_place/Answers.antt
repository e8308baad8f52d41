use Rattle.al_rules_laws.proofs.NumbersInRange as law
use Rattle.al_rules_laws.proofs.formed.loops_are_in_place.Goals as goal

pub returns : goal.returns
returns c = law.loops_are_in_place
