use Rattle.al_grammar.proofs.TokenLaws.{no_fault}
use Rattle.al_grammar.proofs.token_laws.no_fault_where_spelled.Goals as goal

pub returns : goal.returns
returns c = no_fault
