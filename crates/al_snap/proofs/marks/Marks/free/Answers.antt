use Rattle.std.proofs.Common.{false, sym, ap, ◌∙◌}
use Rattle.al_snap.specs.Marks.{marked, with_freed}
use Rattle.al_snap.proofs.Recording.{on_ok}
use Rattle.al_snap.proofs.marks.Marks.free.Goals as goal

pub returns-else-own : goal.returns-else-own
returns-else-own c =
    on_ok c.read.result _ _
    (λ e x. e x ∙ ap (λ own. with_freed (marked x c.args.self.now) own c.args.obj false) (sym c.if-own.false)) c.read.ensures
