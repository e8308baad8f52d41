use Rattle.std.proofs.Common.{sym, subst}
use Rattle.std.proofs.lemmas.Result.{IfOk-weaker}
use Rattle.al_board.specs.Fits.{AreFit}
use Rattle.al_batch.specs.Answers.{FitsAt}
use Rattle.al_batch.proofs.Answered.{taken_fit}
use Rattle.al_batch.proofs.run.answers_of.Goals as goal

pub returns-clause-fit : goal.returns-clause-fit
returns-clause-fit g c =
    IfOk-weaker c.taken_out.result _ _
    (λ v e. subst (AreFit (FitsAt g.W.Work.fits c.args.jobs.now)) (sym e)
    (taken_fit (λ done. done.answer) (FitsAt g.W.Work.fits c.args.jobs.now) _ c.requires.fit))
    c.taken_out.ensures
