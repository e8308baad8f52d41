use Rattle.al_lower.proofs.KindsOf.{update_lowered}
use Rattle.al_lower.proofs.statements.update_local.Goals as goal

pub returns : goal.returns
returns c =
    update_lowered c.args.op c.args.k c.args.e.now c.args.line c.args.code.now _ _ _ _
    c.in_ok-put.ensures c.in_ok-put-2.ensures c.in_ok-expr.ensures c.in_ok-put-3.ensures
