use Rattle.std.proofs.Common.{rules, ℕ, ◌≡◌, ◌∙◌, ap}
use Rattle.al_board.specs.Seen.{logs_of, view}
use Rattle.al_board.specs.Views.{over, gave, got}
use Rattle.al_board.proofs.Kept.{kept_trans, kept_help}
use Rattle.al_board.proofs.Works.{laid_more, worked_all}
use Rattle.al_board.proofs.working.work_and_lay.Goals as goal

pub loop-pass-preserved : goal.loop-pass-preserved
loop-pass-preserved g c =
    let i = c.loop-pass.invariant in
    let e : (lane : ℕ) × (view c.fill_next.new.pass ≡ gave lane (got lane (view c.loop-pass.pass))) = search rules in
    record {
      own = search rules;
      kept = kept_trans (logs_of c.args.pass.now) (logs_of c.loop-pass.pass) (logs_of c.advance.new.pass) i.kept
          (kept_trans (logs_of c.loop-pass.pass) (logs_of c.fill_next.new.pass) (logs_of c.advance.new.pass) c.fill_next.ensures.kept
          (kept_help c.args.board.now.setting.lanes (logs_of c.fill_next.new.pass) (logs_of c.advance.new.pass) c.advance.result c.advance.ensures.logged));
      going = c.advance.ensures.same.ended ∙ ap (λ z. z.ended) e.1 ∙ i.going;
      laid = laid_more (view c.args.pass.now) (view c.loop-pass.pass) (view c.fill_next.new.pass) (view c.advance.new.pass) e.0 c.advance.result
          i.laid c.loop-pass.pass.idle.1 e.1 c.advance.ensures.helped c.advance.ensures.same;
    }

pub returns-clause-put : goal.returns-clause-put
returns-clause-put g c =
    let laid = c.loop-pass.invariant.laid in
    let e : view c.fill_next.new.pass ≡ over (view c.loop-pass.pass) = search rules in
    worked_all (view c.args.pass.now) (view c.loop-pass.pass) (view c.fill_next.new.pass) laid.ran_lanes laid.same e

pub returns-in_err-fill_next-clause-kept : goal.returns-in_err-fill_next-clause-kept
returns-in_err-fill_next-clause-kept g c = kept_trans _ _ _ c.loop-pass.invariant.kept c.fill_next.ensures.kept

pub returns-clause-kept : goal.returns-clause-kept
returns-clause-kept g c = kept_trans _ _ _ c.loop-pass.invariant.kept c.fill_next.ensures.kept
