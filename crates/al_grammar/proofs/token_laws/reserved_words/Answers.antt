use Rattle.al_grammar.proofs.WordLemmas.{key_known}
use Rattle.al_grammar.proofs.LexemeLemmas.{key_found}
use Rattle.al_grammar.proofs.token_laws.reserved_words.Goals as goal

pub returns-clause-known : goal.returns-clause-known
returns-clause-known c = key_known

pub returns-clause-only : goal.returns-clause-only
returns-clause-only c = key_found
