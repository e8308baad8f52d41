use Rattle.std.proofs.Common.{◌≡◌, Ok, sym, subst, ◌∙◌}
use Rattle.std.specs.Prelude.{pos, ◌+ℤ◌, FitsSigned}
use Rattle.std.specs.Int.{w64}
use Rattle.std.proofs.lemmas.Int.{to_z-of_z}
use Rattle.al_core.specs.Values.{trips}
use Rattle.al_plain.proofs.Trips.{trips_few, trips_fit}
use Rattle.al_plain.proofs.whole.Whole.visit_found.Goals as goal

pub run_loop-requires : goal.run_loop-requires
run_loop-requires c =
    let lo = to_z-of_z w64 c.args.lo c.ranges.lo in
    let hi = to_z-of_z w64 c.args.hi c.ranges.hi in
    let told : Ok c.in-Ok.trips ≡ trips c.args.lo c.args.hi = c.in-Ok.ensures ∙ (λ t. trips (lo t) (hi t)) in
    record {
      trips = trips_few c.args.lo c.args.hi c.in-Ok.trips told;
      counter = subst (λ lo. FitsSigned w64 (lo +ℤ pos c.in-Ok.trips)) (sym lo) (trips_fit c.args.lo c.args.hi c.in-Ok.trips told c.ranges.lo c.ranges.hi);
    }
