use Rattle.al_rules.specs.Expressions as x
use Rattle.al_rules.specs.Scopes.{in_scope}
use Rattle.al_types.proofs.Walked.{walked_scope}
use Rattle.al_types.proofs.checker.Checker.operands.Goals as goal

pub returns : goal.returns
returns c =
    walked_scope c.args.line (λ scope. x.operands c.args.self.now.known.now (in_scope scope) c.args.xs.now)
    c.scope.result.now c.args.p.now c.operands.result c.at_line.result
    c.scope.ensures c.operands.ensures c.at_line.ensures
