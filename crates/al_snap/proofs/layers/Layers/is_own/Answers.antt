use Rattle.std.proofs.Common.{sym, ap, ◌∙◌}
use Rattle.al_snap.specs.Layers.{own_has}
use Rattle.al_snap.proofs.Changing.{own_by}
use Rattle.al_snap.proofs.layers.Layers.is_own.Goals as goal

pub returns-in-Word : goal.returns-in-Word
returns-in-Word g c =
    c.has.ensures ∙ own_by _ c.args.self.now c.self.view_is _ ∙ ap (own_has c.args.self.now) (sym c.in-Word.is)
