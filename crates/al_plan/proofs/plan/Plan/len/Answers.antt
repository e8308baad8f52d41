use Rattle.std.proofs.Common.{◌+◌, ◌-◌, ap, ◌∙◌}
use Rattle.al_plan.proofs.Pending.{shown_length}
use Rattle.al_plan.proofs.plan.Plan.len.Goals as goal

pub returns : goal.returns
returns c =
    ap (λ n. n + (c.self.inside.count - c.self.inside.fresh)) c.len.ensures.value
    ∙ shown_length c.self.inside.again.items c.args.self.now c.self.inside.fresh c.self.inside.count c.self.view_is
