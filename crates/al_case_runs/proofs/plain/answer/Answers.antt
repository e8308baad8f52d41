use Rattle.std.proofs.Common.{sym, subst}
use Rattle.al_exec.specs.Machines.{Stands}
use Rattle.al_case_runs.proofs.plain.answer.Goals.{then-len-locals, else-len-locals}
use Rattle.al_case_runs.proofs.plain.answer.Goals as goal

pub returns : goal.returns
returns g c =
    elim c.if-len-locals.branch [
      | then-len-locals w ↦
          subst (Stands c.args.code.now) (sym w.machine-is) (w.after_loop.ensures.stands c.args.code.now c.requires.stands)
      | else-len-locals w ↦ subst (Stands c.args.code.now) (sym w.machine-is) c.requires.stands
    ]
