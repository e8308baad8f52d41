use Rattle.al_lower.proofs.KindsOf.{while_within, while_headed}
use Rattle.al_lower.proofs.statements.while_head.Goals as goal

pub lead-requires : goal.lead-requires
lead-requires c = while_within c.args.e.now c.args.line c.args.end c.args.code.now _ _ c.requires c.in_ok-put.ensures c.in_ok-expr.ensures

pub returns : goal.returns
returns c = while_headed c.args.e.now c.args.line c.args.end c.args.code.now _ _ _ c.in_ok-put.ensures c.in_ok-expr.ensures c.in_ok-lead.ensures
