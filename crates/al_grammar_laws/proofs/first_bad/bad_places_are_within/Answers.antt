use Rattle.al_grammar_laws.proofs.FirstBad.{place_within}
use Rattle.al_grammar_laws.proofs.first_bad.bad_places_are_within.Goals as goal

pub returns : goal.returns
returns c = place_within
