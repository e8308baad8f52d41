use Rattle.std.proofs.Common.{arith}
use Rattle.al_lower.proofs.CodeOf.{exprs_start, exprs_next}
use Rattle.al_lower.proofs.expressions.+lowering.Goals as goal

pub exprs-loop-left-init : goal.exprs-loop-left-init
exprs-loop-left-init t c = (omega arith, exprs_start c.args.es.now c.args.line c.args.height c.args.code.now)

pub exprs-loop-left-preserved : goal.exprs-loop-left-preserved
exprs-loop-left-preserved t c = (
  omega (arith, c.loop-left.invariant.0),
  exprs_next c.args.es.now c.args.line c.args.height _ c.loop-left.left c.index-es-left.result _ c.loop-left.code c.expr.new.code
      (omega (arith, c.loop-left-test.true)) c.loop-left.invariant.0 c.index-es-left.is c.in_ok-raised.ensures c.loop-left.invariant.1 c.in_ok-expr.ensures,
)
