use Rattle.std.proofs.Common.{ap}
use Rattle.al_grammar.proofs.ProgramFacts.{one_list}
use Rattle.al_grammar.proofs.laws.one_program.Goals as goal

pub returns : goal.returns
returns c ts p q d e = ap (λ is. record { items = is }) (one_list d e)
