use Rattle.al_code.specs.Checks.{holds_at}
use Rattle.al_code.proofs.EndedPlaces.{hold_next}
use Rattle.al_code.proofs.lowered.Code.all_ended_hold.Goals as goal

pub loop-b-preserved : goal.loop-b-preserved
loop-b-preserved c =
    hold_next (holds_at c.args.self.now c.args.want) c.args.place c.as_slice-b-items.result.now c.loop-b.b-index _ c.loop-b.hold c.ended_holds.result _
    c.loop-b-test.true c.loop-b.invariant c.ended_holds.ensures c.both-hold.ensures
