use Rattle.al_laws.proofs.Joining.{is_associative, is_commutative, has_identity, stays_in_range}
use Rattle.al_laws.proofs.reductions.reductions_join.Goals as goal

pub returns-clause-associative : goal.returns-clause-associative
returns-clause-associative c = is_associative c.args.op

pub returns-clause-commutative : goal.returns-clause-commutative
returns-clause-commutative c = is_commutative c.args.op

pub returns-clause-identity : goal.returns-clause-identity
returns-clause-identity c = has_identity c.args.op

pub returns-clause-in_range : goal.returns-clause-in_range
returns-clause-in_range c = stays_in_range c.args.op
