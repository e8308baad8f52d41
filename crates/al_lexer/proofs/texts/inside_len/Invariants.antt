use Rattle.std.proofs.Common.{length}
use Rattle.al_lexer.proofs.TextLemmas.{Passed}
use Rattle.al_lexer.proofs.texts.inside_len.Given as goal

abbrev pub invariant-loop-rest : goal.invariant-loop-rest
invariant-loop-rest l = Passed l.z l.rest

abbrev pub decreases-loop-rest : goal.decreases-loop-rest
decreases-loop-rest l = length l.rest
