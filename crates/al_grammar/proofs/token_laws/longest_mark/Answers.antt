use Rattle.al_grammar.proofs.WordLemmas.{mark_begins}
use Rattle.al_grammar.proofs.WordLemmas.{longest}
use Rattle.al_grammar.proofs.WordLemmas.{no_mark}
use Rattle.al_grammar.proofs.token_laws.longest_mark.Goals as goal

pub returns-clause-begins : goal.returns-clause-begins
returns-clause-begins c = mark_begins

pub returns-clause-longest : goal.returns-clause-longest
returns-clause-longest c = longest

pub returns-clause-none : goal.returns-clause-none
returns-clause-none c = no_mark
