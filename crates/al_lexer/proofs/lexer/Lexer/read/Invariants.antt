use Rattle.std.proofs.Common.{◌≡◌, length}
use Rattle.al_grammar.specs.Reading.{with_front, reading_from}
use Rattle.al_lexer.specs.Answers.{InBounds}
use Rattle.al_lexer.proofs.lexer.Lexer.read.Given as goal

abbrev pub invariant-walk : goal.invariant-walk
invariant-walk l = record {
  whole : with_front l.tokens (reading_from 0 l.lexer.spot l.lexer.rest.now) ≡ reading_from 0 l.initial.lexer.spot l.initial.lexer.rest.now;
  bounds : InBounds l.lexer.spot l.lexer.rest.now;
}

abbrev pub decreases-walk : goal.decreases-walk
decreases-walk l = length l.lexer.rest.now
