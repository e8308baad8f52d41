use Rattle.std.proofs.Common.{length}
use Rattle.al_parse_expressions.proofs.expressions.+whole.Given as goal

abbrev pub decreases-whole : goal.decreases-whole
decreases-whole l = length l.cursor.now.rest.now
