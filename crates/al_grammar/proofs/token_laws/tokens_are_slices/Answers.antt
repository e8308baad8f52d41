use Rattle.al_grammar.proofs.LineLemmas.{spelled_lines}
use Rattle.al_grammar.proofs.SliceLemmas.{spelled_slices}
use Rattle.al_grammar.proofs.token_laws.tokens_are_slices.Goals as goal

pub returns-clause-slices : goal.returns-clause-slices
returns-clause-slices c = λ source tokens spelled. (spelled_slices source tokens spelled).0

pub returns-clause-order : goal.returns-clause-order
returns-clause-order c = λ source tokens spelled. (spelled_slices source tokens spelled).1

pub returns-clause-lines : goal.returns-clause-lines
returns-clause-lines c = spelled_lines
