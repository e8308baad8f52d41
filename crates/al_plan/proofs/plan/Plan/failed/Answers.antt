use Rattle.std.proofs.Common.{◌≡◌, ◌+◌, ◌<◌, length, arith, sym, ap, ◌∙◌}
use Rattle.std.specs.Prelude.{◌++◌, ◌∷◌, []}
use Rattle.al_plan.proofs.Pending.{one_committed, one_failed, all_judged}
use Rattle.arrayvec.specs.ArrayVec.{array_vec_len}
use Rattle.al_plan.proofs.plan.Plan.failed.Goals as goal
use Rattle.al_plan.proofs.plan.Plan.failed.Goals.{then-not-is_committed, else-not-is_committed}

pub loop-i-preserved : goal.loop-i-preserved
loop-i-preserved c =
    let within : c.loop-i.i < length c.args.verdicts.now = c.loop-i-test.true in
    let there : c.loop-i.i < length c.args.self.now = omega (arith, within, c.requires.pending) in
    elim c.if-not-is_committed.branch [
      | then-not-is_committed w ↦ (
        one_failed c.args.self.now c.args.verdicts.now c.loop-i.failed.items c.loop-i.i _ c.loop-i.invariant.0 there within
            (sym c.is_committed.ensures ∙ w.if-not-is_committed.true) c.if-not-is_committed.failed.items
            (ap (λ f. f.items) w.failed-is ∙ w.push.ensures.items
            ∙ ap (λ n. c.loop-i.failed.items ++ n ∷ []) w.chunk.ensures),
        let more : length c.if-not-is_committed.failed.items ≡ length c.loop-i.failed.items + 1 =
            ap (λ f. array_vec_len f) w.failed-is ∙ w.push.ensures.len in
            omega (arith, more, c.loop-i.invariant.1),
      )
      | else-not-is_committed w ↦ (
        one_committed c.args.self.now c.args.verdicts.now c.loop-i.failed.items c.loop-i.i _ c.loop-i.invariant.0 there within
            (sym c.is_committed.ensures ∙ w.if-not-is_committed.false) c.if-not-is_committed.failed.items
            (ap (λ f. f.items) w.failed-is),
        let same : length c.if-not-is_committed.failed.items ≡ length c.loop-i.failed.items =
            ap (λ f. array_vec_len f) w.failed-is in
            omega (arith, same, c.loop-i.invariant.1),
      )
    ]

pub returns-clause-chunks : goal.returns-clause-chunks
returns-clause-chunks c =
    all_judged c.args.self.now c.args.verdicts.now c.loop-i.failed.items c.loop-i.i (omega (arith, c.loop-i-test.false))
    c.loop-i.invariant.0
