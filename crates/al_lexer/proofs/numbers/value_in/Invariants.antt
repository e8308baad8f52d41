use Rattle.std.proofs.Common.{◌≡◌, take, min}
use Rattle.al_grammar.specs.Characters as chars
use Rattle.al_lexer.specs.declared.numbers.TheConstants.{TOO_LARGE}
use Rattle.al_lexer.proofs.numbers.value_in.Given as goal

abbrev pub invariant-loop-b : goal.invariant-loop-b
invariant-loop-b l = l.value ≡ min (chars.value_in l.base (take l.b-index l.digits)) TOO_LARGE
