use Rattle.std.proofs.Common.{◌≤◌, length, arith}
use Rattle.al_source.specs.declared.limits.TheConstants.{SOURCE_BYTES}
use Rattle.al_lexer.proofs.AnswerLemmas.{spelled_by, slices_by, lines_by, order_by, found_by, first_by, cause_by}
use Rattle.al_lexer.proofs.lex.Goals as goal

pub returns-else-source-gt-SOURCE_BYTES-clause-spelled :
    goal.returns-else-source-gt-SOURCE_BYTES-clause-spelled
returns-else-source-gt-SOURCE_BYTES-clause-spelled c = spelled_by c.args.source.now c.read.result c.read.ensures

pub returns-else-source-gt-SOURCE_BYTES-clause-found :
    goal.returns-else-source-gt-SOURCE_BYTES-clause-found
returns-else-source-gt-SOURCE_BYTES-clause-found c = λ tokens _ spelled. found_by c.args.source.now c.read.result tokens c.read.ensures spelled

pub returns-else-source-gt-SOURCE_BYTES-clause-cause :
    goal.returns-else-source-gt-SOURCE_BYTES-clause-cause
returns-else-source-gt-SOURCE_BYTES-clause-cause c =
    let short : length c.args.source.now ≤ SOURCE_BYTES = omega (arith, c.if-source-gt-SOURCE_BYTES.false) in
    cause_by c.args.source.now c.read.result short c.read.ensures

pub returns-else-source-gt-SOURCE_BYTES-clause-first :
    goal.returns-else-source-gt-SOURCE_BYTES-clause-first
returns-else-source-gt-SOURCE_BYTES-clause-first c = λ fault _ first. first_by c.args.source.now c.read.result fault c.read.ensures first

pub returns-else-source-gt-SOURCE_BYTES-clause-slices :
    goal.returns-else-source-gt-SOURCE_BYTES-clause-slices
returns-else-source-gt-SOURCE_BYTES-clause-slices c = slices_by c.args.source.now c.read.result c.read.ensures

pub returns-else-source-gt-SOURCE_BYTES-clause-order :
    goal.returns-else-source-gt-SOURCE_BYTES-clause-order
returns-else-source-gt-SOURCE_BYTES-clause-order c = order_by c.args.source.now c.read.result c.read.ensures

pub returns-else-source-gt-SOURCE_BYTES-clause-lines :
    goal.returns-else-source-gt-SOURCE_BYTES-clause-lines
returns-else-source-gt-SOURCE_BYTES-clause-lines c = lines_by c.args.source.now c.read.result c.read.ensures
