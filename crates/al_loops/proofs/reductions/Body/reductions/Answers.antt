use Rattle.std.proofs.Common.{◌≡◌, ◌+◌, [], drop, arith, refl, sym, ap, ◌∙◌}
use Rattle.std.proofs.lemmas.Grind.{common_steps}
use Rattle.al_source.specs.declared.limits.TheConstants.{TRIED_REDUCTIONS}
use Rattle.al_rules.specs.Candidates.{reduction_of}
use Rattle.al_loops.proofs.Chosen.{counted, counted_none, counted_one, counted_full, counted_end, counted_all, one_longer, no_longer}
use Rattle.al_loops.proofs.reductions.Body.reductions.Goals as goal
use Rattle.al_loops.proofs.reductions.Body.reductions.Goals.{then-len-lt-TRIED_REDUCTIONS+in-Some+in_ok-push, then-len-lt-TRIED_REDUCTIONS+in_default, else-len-lt-TRIED_REDUCTIONS}

pub loop-a-preserved : goal.loop-a-preserved
loop-a-preserved c =
    let g = reduction_of c.args.self.now.program.now.typed.now c.args.self.now.info.now c.args.self.now.stmt.now in
    elim c.if-len-lt-TRIED_REDUCTIONS.branch [
      | then-len-lt-TRIED_REDUCTIONS+in-Some+in_ok-push w ↦ let grown =
          w.reds-is ∙ w.in_ok-push.ensures.ok in (
            one_longer TRIED_REDUCTIONS _ _ _ grown (omega arith),
            sym
                (counted_one g TRIED_REDUCTIONS _ _ c.args.names.now c.loop-a.a-index _ _ w.in-Some.red grown c.loop-a-test.true refl (sym w.reduction.ensures
                ∙ w.in-Some.is)) ∙ c.loop-a.invariant.1,
          )
      | then-len-lt-TRIED_REDUCTIONS+in_default w ↦ (
        no_longer TRIED_REDUCTIONS _ _ w.reds-is c.loop-a.invariant.0,
        ap
            (λ l. counted g TRIED_REDUCTIONS l (drop (c.loop-a.a-index + 1) c.args.names.now)) w.reds-is
            ∙ sym (counted_none g TRIED_REDUCTIONS c.loop-a.reds c.args.names.now c.loop-a.a-index _ _ c.loop-a-test.true refl (sym w.reduction.ensures
            ∙ w.in_default.is)) ∙ c.loop-a.invariant.1,
      )
      | else-len-lt-TRIED_REDUCTIONS w ↦ (
        no_longer TRIED_REDUCTIONS _ _ w.reds-is c.loop-a.invariant.0,
        ap
            (λ l. counted g TRIED_REDUCTIONS l (drop (c.loop-a.a-index + 1) c.args.names.now)) w.reds-is
            ∙ sym (counted_full g TRIED_REDUCTIONS c.loop-a.reds (drop c.loop-a.a-index c.args.names.now) (drop (c.loop-a.a-index + 1) c.args.names.now)
            (omega arith)) ∙ c.loop-a.invariant.1,
      )
    ]

pub returns : goal.returns
returns c =
    let g = reduction_of c.args.self.now.program.now.typed.now c.args.self.now.info.now c.args.self.now.stmt.now in
    let end : drop c.loop-a.a-index c.args.names.now ≡ [] = grind (arith, common_steps) in
    sym (counted_end g TRIED_REDUCTIONS c.loop-a.reds c.loop-a.invariant.0) ∙ ap (counted g TRIED_REDUCTIONS c.loop-a.reds) (sym end) ∙ c.loop-a.invariant.1
    ∙ sym (counted_all g TRIED_REDUCTIONS c.args.names.now)
