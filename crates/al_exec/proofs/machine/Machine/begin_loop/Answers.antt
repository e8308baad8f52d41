use Rattle.al_exec.proofs.LoopMoves.{trip_begun, too_many}
use Rattle.al_exec.proofs.machine.Machine.begin_loop.Goals as goal

pub returns-in-Ok-clause-begins : goal.returns-in-Ok-clause-begins
returns-in-Ok-clause-begins g c =
    trip_begun c.args.counter c.args.body c.args.k c.args.range.lo c.args.range.hi c.args.self.now c.trip.new.self
    (g.V.View.content c.args.view.now) (g.V.View.content c.trip.new.view) c.in-Ok.x c.in-Ok.ensures.0 c.in-Ok.ensures.1 c.trip.result c.trip.ensures.trips

pub returns-in-Err-clause-begins : goal.returns-in-Err-clause-begins
returns-in-Err-clause-begins g c =
    too_many c.args.counter c.args.body c.args.k c.args.range.lo c.args.range.hi c.args.self.now c.args.self.now
    (g.V.View.content c.args.view.now) (g.V.View.content c.args.view.now) c.in-Err.t c.in-Err.ensures
