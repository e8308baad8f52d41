use Rattle.al_grammar.proofs.TokenLaws.{one}
use Rattle.al_grammar.proofs.token_laws.one_spelling.Goals as goal

pub returns : goal.returns
returns c = one
