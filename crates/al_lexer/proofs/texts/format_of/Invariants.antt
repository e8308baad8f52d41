use Rattle.std.proofs.Common.{length}
use Rattle.al_lexer.proofs.TextLemmas.{Gathered}
use Rattle.al_lexer.proofs.texts.format_of.Given as goal

abbrev pub invariant-loop-rest : goal.invariant-loop-rest
invariant-loop-rest l = Gathered l.z l.pieces l.plain l.rest

abbrev pub decreases-loop-rest : goal.decreases-loop-rest
decreases-loop-rest l = length l.rest
