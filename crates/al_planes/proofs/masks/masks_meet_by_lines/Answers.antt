use Rattle.std.proofs.Common.{below_more, sym, ◌∙◌, arith}
use Rattle.std.proofs.Math.Bool.{true≢false}
use Rattle.al_planes.proofs.MaskLines.{common_line, number_of_line}
use Rattle.al_planes.proofs.masks.masks_meet_by_lines.Goals as goal

pub returns-then-numbers_meet-clause-met : goal.returns-then-numbers_meet-clause-met
returns-then-numbers_meet-clause-met c h =
    common_line c.args.line c.args.a.now c.args.b.now c.loop-i.i (omega arith)
    (c.numbers_meet.ensures.met c.if-numbers_meet.true)

pub loop-i-preserved : goal.loop-i-preserved
loop-i-preserved c = below_more _ _ c.loop-i.invariant
    (λ m. true≢false (sym (c.numbers_meet.ensures.every m) ∙ c.if-numbers_meet.false))

pub returns-clause-every : goal.returns-clause-every
returns-clause-every c m =
    let k = number_of_line c.args.line c.args.a.now c.args.b.now m in
    absurd (c.loop-i.invariant k.0 (omega (arith, k.1)) k.2)
