use Rattle.al_grammar_laws.proofs.FirstBad.{stops_at_first_bad}
use Rattle.al_grammar_laws.proofs.first_bad.stops_at_first_bad_token.Goals as goal

pub returns : goal.returns
returns c = stops_at_first_bad
