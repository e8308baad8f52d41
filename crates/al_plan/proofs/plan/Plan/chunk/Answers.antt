use Rattle.std.proofs.Common.{◌≡◌, arith, ap, ◌+◌, ◌-◌, ◌<◌, ◌≤◌, length, ◌∙◌}
use Rattle.al_plan.proofs.Pending.{is_left, fresh_chunk}
use Rattle.al_plan.proofs.plan.Plan.chunk.Goals as goal

pub overflow_add-result : goal.overflow_add-result
overflow_add-result c =
    let again = c.self.inside.again.items in
    let long : c.len.result ≡ length again = c.len.ensures.value in
    let same : c.len-else-i-len.result ≡ length again = c.len-else-i-len.ensures.value in
    let past : length again ≤ c.args.i = omega (arith, c.if-i-len.false, long) in
    let left : c.args.i - length again < c.self.inside.count - c.self.inside.fresh =
    is_left again c.args.self.now c.self.inside.fresh c.self.inside.count c.self.view_is c.args.i c.requires past in
    omega (arith, left, same, c.self.invariant.0, c.self.invariant.1)

pub returns-else-i-len : goal.returns-else-i-len
returns-else-i-len c =
    let again = c.self.inside.again.items in
    let long : c.len.result ≡ length again = c.len.ensures.value in
    let past : length again ≤ c.args.i = omega (arith, c.if-i-len.false, long) in
    ap (λ n. c.self.inside.fresh + (c.args.i - n)) c.len-else-i-len.ensures.value
    ∙ fresh_chunk again c.args.self.now c.self.inside.fresh c.self.inside.count c.self.view_is c.args.i c.requires past
