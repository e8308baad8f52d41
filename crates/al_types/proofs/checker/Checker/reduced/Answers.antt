use Rattle.al_rules.specs.declared.faults.TypeKind.TheVariants.{Unknown}
use Rattle.al_source.specs.Steps.{and_then}
use Rattle.al_rules.specs.Checks.{some_or}
use Rattle.al_rules.specs.Scopes.{in_scope, variable_named}
use Rattle.al_rules.specs.Statements.{variable_at}
use Rattle.al_types.proofs.Walked.{walked_scope}
use Rattle.al_types.proofs.checker.Checker.reduced.Goals as goal

pub returns : goal.returns
returns c =
    walked_scope c.args.line
    (λ scope. and_then (some_or (variable_named c.args.self.now.known.now (in_scope scope) c.args.name.now) Unknown) variable_at)
    c.scope.result.now c.args.p.now c.reduced.result c.at_line.result
    c.scope.ensures c.reduced.ensures c.at_line.ensures
