use Rattle.std.proofs.Common.{sym, ap, ◌∙◌}
use Rattle.al_core.specs.Access.{with_head}
use Rattle.al_snap.specs.Marks.{marked}
use Rattle.al_snap.proofs.Recording.{on_ok}
use Rattle.al_snap.proofs.marks.Marks.head.Goals as goal

pub returns-in-Word : goal.returns-in-Word
returns-in-Word c =
    on_ok c.read.result _ _
    (λ e x. e x ∙ ap (with_head (marked x c.args.self.now)) (sym c.in-Word.is)) c.read.ensures
