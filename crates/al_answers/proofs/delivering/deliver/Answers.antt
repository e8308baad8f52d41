use Rattle.std.proofs.Common.{refl, sym, subst}
use Rattle.al_answers.specs.Outcome.{Delivers, whole, out_failed, err_failed}
use Rattle.al_answers.proofs.delivering.deliver.Goals as goal

pub returns-in_default : goal.returns-in_default
returns-in_default g c =
    subst (Delivers c.args.answer.now _ _) (sym c.code.ensures) (out_failed (rw c.as_slice.ensures at c.in_default.ensures.part) refl)

pub returns-in_default-put_some : goal.returns-in_default-put_some
returns-in_default-put_some g c =
    subst (Delivers c.args.answer.now _ _) (sym c.code-in_default-put_some.ensures)
    (err_failed (rw c.as_slice.ensures at c.in-Ok.ensures.took) (rw c.as_slice-2.ensures at c.in_default-put_some.ensures.part))

pub returns : goal.returns
returns g c = whole (rw c.as_slice.ensures at c.in-Ok.ensures.took) (rw c.as_slice-2.ensures at c.in-Ok-put_some.ensures.took)
