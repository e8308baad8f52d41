use Rattle.std.proofs.Common.{rules, ap, ℕ, ◌≡◌, ◌∙◌, ◌++◌, ◌∷◌, []}
use Rattle.al_board.specs.Seen.{logs_of, view}
use Rattle.al_board.specs.Views.{over, gave, got}
use Rattle.al_board.proofs.Kept.{kept_trans}
use Rattle.al_board.proofs.Works.{ran_all, ran_more}
use Rattle.al_board.proofs.working.work.Goals as goal

pub returns-clause-put : goal.returns-clause-put
returns-clause-put g c = λ all.
    let run = c.loop.invariant.run in
    let e : view c.fill_next.new.pass ≡ over (view c.loop.pass) = search rules in
    ran_all (view c.args.pass.now) (view c.fill_next.new.pass) run.0 (e ∙ ap over run.1) all

pub returns-in_err-fill_next-clause-kept : goal.returns-in_err-fill_next-clause-kept
returns-in_err-fill_next-clause-kept g c = kept_trans _ _ _ c.loop.invariant.kept c.fill_next.ensures.kept

pub returns-clause-kept : goal.returns-clause-kept
returns-clause-kept g c = kept_trans _ _ _ c.loop.invariant.kept c.fill_next.ensures.kept

pub loop-preserved : goal.loop-preserved
loop-preserved g c =
    let run = c.loop.invariant.run in
    let e : (lane : ℕ) × (view c.fill_next.new.pass ≡ gave lane (got lane (view c.loop.pass))) = search rules in
    record {
      own = search rules;
      kept = kept_trans (logs_of c.args.pass.now) (logs_of c.loop.pass) (logs_of c.fill_next.new.pass) c.loop.invariant.kept c.fill_next.ensures.kept;
      going = search rules;
      run = (
        run.0 ++ e.0 ∷ [],
        ran_more (view c.args.pass.now) (view c.loop.pass) (view c.fill_next.new.pass) run.0 e.0 c.args.pass.now.idle.1 e.1 run.1,
      );
    }
