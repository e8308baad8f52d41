use Rattle.std.proofs.Common.{◌≡◌, ◌+◌, ◌-◌, ◌++◌, length, drop, arith, ap, ◌∙◌}
use Rattle.al_plan.specs.Plans.{pending}
use Rattle.al_plan.proofs.Pending.{shown_length, fresh_left}
use Rattle.al_plan.proofs.plan.Plan.settle.Goals as goal

pub invariant_of-self-else-judged-again : goal.invariant_of-self-else-judged-again
invariant_of-self-else-judged-again c =
    let again = c.self.inside.again.items in
    let shown : length again + (c.self.inside.count - c.self.inside.fresh) ≡ length c.args.self.now =
    shown_length again c.args.self.now c.self.inside.fresh c.self.inside.count c.self.view_is in
    let long : c.len-again.result ≡ length again = c.len-again.ensures.value in (
      omega (arith, shown, long, c.requires.pending, c.if-judged-again.false, c.self.invariant.0),
      c.self.invariant.1,
    )

pub returns-else-judged-again : goal.returns-else-judged-again
returns-else-judged-again c =
    let again = c.self.inside.again.items in
    let long : c.len-again.result ≡ length again = c.len-again.ensures.value in
    ap (λ n. pending c.failed-left.result.items (c.self.inside.fresh + (length c.args.verdicts.now - n)) c.self.inside.count) long
    ∙ fresh_left again c.args.self.now c.self.inside.fresh c.self.inside.count c.self.view_is c.failed-left.result.items
    (length c.args.verdicts.now) c.requires.pending (omega (arith, long, c.if-judged-again.false))
    ∙ ap (λ l. l ++ drop (length c.args.verdicts.now) c.args.self.now) c.failed-left.ensures.chunks
