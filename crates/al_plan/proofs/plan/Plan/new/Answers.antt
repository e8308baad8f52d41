use Rattle.std.proofs.Common.{sym, ap, ◌∙◌, arith}
use Rattle.std.specs.Int.{div_ceil}
use Rattle.al_plan.proofs.Pending.{trips_few, chunks_few}
use Rattle.al_plan.proofs.plan.Plan.new.Goals as goal

pub invariant_of-result : goal.invariant_of-result
invariant_of-result c = (
  omega arith,
  chunks_few c.in-Ok.trips c.args.chunk c.div_ceil.result
      (trips_few _ _ c.in-Ok.trips (sym c.in-Ok.is ∙ c.trips.ensures))
      (c.div_ceil.ensures ∙ ap (div_ceil c.in-Ok.trips) c.from.ensures),
)
