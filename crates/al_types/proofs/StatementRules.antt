-- A statement by its kind.
use Rattle.al_rules.proofs.StatementNodes.{walks-stmt, sort-stmt, line-stmt}

pub ruleset of_statements = (walks-stmt, sort-stmt, line-stmt)
