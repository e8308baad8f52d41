use Rattle.std.proofs.Common.{sym, ap, ◌∙◌}
use Rattle.al_snap.specs.Layers.{own_has}
use Rattle.al_snap.proofs.Writing.{made_has}
use Rattle.al_snap.proofs.Changing.{put_below_seen}
use Rattle.al_snap.proofs.Fitting.{fits_put}
use Rattle.al_snap.proofs.layers.Layers.put.Goals as goal

pub put_own-requires : goal.put_own-requires
put_own-requires g c =
    sym (made_has c.args.self.now.own c.in-Word.obj)
    ∙ ap (own_has c.args.self.now) (sym c.in-Word.is)
    ∙ sym c.is_own.ensures
    ∙ c.if-is_own.true

pub returns-in_ok-insert-2-clause-seen : goal.returns-in_ok-insert-2-clause-seen
returns-in_ok-insert-2-clause-seen g c =
    put_below_seen _ c.args.self.now c.self.view_is c.args.at c.args.v c.if-is_own.ensures c.requires _ c.in_ok-insert.ensures.ok

pub invariant_of-self-else-is_own : goal.invariant_of-self-else-is_own
invariant_of-self-else-is_own g c =
    fits_put _ c.args.self.now c.self.view_is c.self.invariant c.args.at c.args.v c.if-is_own.ensures c.requires
    c.insert.new.self c.in_ok-insert.ensures.ok c.reserve.new.self.members _ c.in_ok-reserve.ensures.members
    c.in_ok-insert-2.ensures.ok
