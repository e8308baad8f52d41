use Rattle.al_rules.specs.Operands.{scalar}
use Rattle.al_rules.specs.Statements.{operand_of}
use Rattle.al_rules.specs.Walks.{lift}
use Rattle.al_types.proofs.Walked.{walked_last, bound}
use Rattle.al_types.proofs.checker.Checker.condition.Goals as goal

pub returns : goal.returns
returns c =
    let on = c.args.self.now in
    walked_last c.args.line (scalar c.in_ok-c.c) _ c.args.p.now c.scalar.result c.at_line.result
    (bound (operand_of on.known.now on.func on.gives.now c.args.line c.args.x.now) (λ x. lift c.args.line (scalar x))
    c.args.p.now c.args.p.now c.in_ok-c.c c.in_ok-c.ensures)
    c.scalar.ensures c.at_line.ensures
