use Rattle.al_grammar_laws.proofs.FirstBad.{local_fault, stops_between}
use Rattle.al_grammar_laws.proofs.first_bad.reads_no_further.Goals as goal

pub returns-clause-stops : goal.returns-clause-stops
returns-clause-stops c = stops_between

pub returns-clause-behind : goal.returns-clause-behind
returns-clause-behind c = local_fault
