use Rattle.std.proofs.Common.{is_some, ap, ◌∙◌}
use Rattle.al_snap.proofs.Changing.{some_copied, there_own, there_freed, there_below}
use Rattle.al_snap.proofs.layers.Layers.has_object.Goals as goal

pub returns-then-has : goal.returns-then-has
returns-then-has g c =
    c.is_some.ensures ∙ some_copied c.get.result ∙ ap is_some c.get.ensures
    ∙ there_own _ c.args.self.now c.self.view_is c.args.obj c.if-has.ensures

pub returns-then-is_freed : goal.returns-then-is_freed
returns-then-is_freed g c = there_freed _ c.args.self.now c.self.view_is c.args.obj c.if-has.ensures c.if-is_freed.ensures

pub returns-else-is_freed : goal.returns-else-is_freed
returns-else-is_freed g c =
    c.is_some-else-is_freed.ensures ∙ ap is_some c.length.ensures
    ∙ there_below _ c.args.self.now c.self.view_is c.args.obj c.if-has.ensures c.if-is_freed.ensures
