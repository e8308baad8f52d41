use Rattle.std.proofs.Common.{rules}
use Rattle.al_grammar.specs.Steps.{same_key}
use Rattle.al_parse_expressions.proofs.cursor.same_key.Goals as goal

pub returns : goal.returns
unfolding same_key
returns c = search rules
