use Rattle.std.proofs.Common.{rules}
use Rattle.al_grammar.specs.Steps.{same_mark}
use Rattle.al_parse_expressions.proofs.cursor.same_mark.Goals as goal

pub returns : goal.returns
unfolding same_mark
returns c = search rules
