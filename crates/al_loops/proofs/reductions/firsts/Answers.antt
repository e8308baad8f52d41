use Rattle.std.proofs.Common.{refl, sym, ◌∙◌}
use Rattle.al_loops.proofs.Chosen.{again, another}
use Rattle.al_loops.proofs.reductions.firsts.Goals as goal
use Rattle.al_loops.proofs.reductions.firsts.Goals.{then-not-is_among+in_ok-push, else-not-is_among}

pub loop-a-preserved : goal.loop-a-preserved
loop-a-preserved c =
    let among = rw c.as_slice.ensures at c.is_among.ensures in
    elim c.if-not-is_among.branch [
      | then-not-is_among+in_ok-push w ↦ sym (another c.loop-a.seen c.if-not-is_among.seen c.args.names.now c.loop-a.a-index _ _ (w.seen-is
          ∙ w.in_ok-push.ensures.ok) c.loop-a-test.true refl (sym among ∙ w.if-not-is_among.true)) ∙ c.loop-a.invariant
      | else-not-is_among w ↦ rw w.seen-is (sym (again c.loop-a.seen c.args.names.now c.loop-a.a-index _ _ c.loop-a-test.true refl (sym among
          ∙ w.if-not-is_among.false)) ∙ c.loop-a.invariant)
    ]
