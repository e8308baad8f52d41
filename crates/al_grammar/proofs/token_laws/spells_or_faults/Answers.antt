use Rattle.al_grammar.proofs.TokenLaws.{total}
use Rattle.al_grammar.proofs.token_laws.spells_or_faults.Goals as goal

pub returns : goal.returns
returns c = total
