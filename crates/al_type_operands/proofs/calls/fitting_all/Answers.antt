use Rattle.std.proofs.Common.{Ok, ap, sym, ◌∙◌}
use Rattle.al_type_operands.proofs.Fitting.{fits_more}
use Rattle.al_type_operands.proofs.calls.fitting_all.Goals as goal

pub loop-param-preserved : goal.loop-param-preserved
loop-param-preserved c =
    c.loop-param.invariant
    ∙ fits_more c.loop-param.done c.push.new.self c.args.params.now c.loop-param.param-index c.param-item.result c.loop-param.args
    c.take.new.self c.in-Some.x c.into_inner.result c.loop-param-test.true c.param-item.is c.in-Some.ensures
    (c.in_ok-fitting.ensures ∙ ap Ok (sym c.into_inner.ensures)) c.in_ok-push.ensures.ok
