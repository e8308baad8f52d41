use Rattle.std.proofs.Common.{sym, subst, arith}
use Rattle.al_source.specs.Answers.{Walks}
use Rattle.al_source.specs.Faults.{syntactic}
use Rattle.al_grammar.proofs.Counted.{statement_none, statement_some}
use Rattle.al_parser.proofs.Taken.{statement_takes}
use Rattle.al_parser.proofs.statements.+statement.Goals as goal

pub returns-then-depth-eq0-clause-reads : goal.returns-then-depth-eq0-clause-reads
returns-then-depth-eq0-clause-reads t c = statement_none c.args.depth c.args.cursor.now.rest.now (omega arith)

pub returns-clause-reads : goal.returns-clause-reads
returns-clause-reads t c =
    subst (λ o. Walks (syntactic c.statement.new.cursor.rest.now) o c.statement.result c.statement.new.cursor.rest.now)
    (sym (statement_some c.args.depth c.args.cursor.now.rest.now c.if-depth-eq0.false)) c.statement.ensures

pub returns-clause-shorter : goal.returns-clause-shorter
returns-clause-shorter t c =
    statement_takes c.args.depth c.args.cursor.now.rest.now c.statement.new.cursor.rest.now c.statement.result (returns-clause-reads t c)
