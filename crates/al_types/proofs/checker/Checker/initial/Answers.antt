use Rattle.al_rules.specs.Operands.{fitting}
use Rattle.al_rules.specs.Statements.{operand_of}
use Rattle.al_rules.specs.Walks.{lift}
use Rattle.al_types.proofs.Walked.{walked_last, bound}
use Rattle.al_types.proofs.checker.Checker.initial.Goals as goal

pub returns-in_ok-y-in-Some : goal.returns-in_ok-y-in-Some
returns-in_ok-y-in-Some c =
    let on = c.args.self.now in
    rw c.in-Some.is (
    walked_last c.args.line (fitting c.args.ty.now c.in_ok-y-in-Some.y) _ c.args.p.now c.fitting.result c.at_line.result
    (bound (operand_of on.known.now on.func on.gives.now c.args.line c.in-Some.v) (λ y. lift c.args.line (fitting c.args.ty.now y))
    c.args.p.now c.args.p.now c.in_ok-y-in-Some.y c.in_ok-y-in-Some.ensures)
    c.fitting.ensures c.at_line.ensures
    )
