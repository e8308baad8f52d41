use Rattle.al_rules_laws.proofs.NumbersInRange as law
use Rattle.al_rules_laws.proofs.formed.numbers_are_in_range.Goals as goal

pub returns : goal.returns
returns c = law.numbers_are_in_range
