use Rattle.al_grammar_laws.proofs.FirstBad.{one_place}
use Rattle.al_grammar_laws.proofs.first_bad.one_first_bad_token.Goals as goal

pub returns : goal.returns
returns c = one_place
