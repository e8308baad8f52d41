use Rattle.std.proofs.Common.{None, sym, subst, refl, ◌∙◌, to_z, of_z}
use Rattle.std.specs.Prelude.{FitsSigned}
use Rattle.std.specs.Int.{w64}
use Rattle.std.proofs.lemmas.Int.{to_z-of_z}
use Rattle.std.proofs.lemmas.Result.{IfOk-weaker}
use Rattle.al_core.specs.Loops.{loop_at}
use Rattle.al_core.specs.Run.{Whole, visit_loop}
use Rattle.al_engine.specs.Jobs.{setting_of}
use Rattle.al_engine.specs.declared.entered.Entered.{Entered}
use Rattle.al_engine.specs.Worlds.{answer_by, whole_of}
use Rattle.al_engine.proofs.Entering.{may_enter, visits}
use Rattle.al_engine.proofs.world.World.answer.Goals as goal

pub run_loop-requires-clause-may : goal.run_loop-requires-clause-may
run_loop-requires-clause-may g c κs within =
    let lo = to_z-of_z w64 c.args.lo c.ranges.lo in
    let hi = to_z-of_z w64 c.args.hi c.ranges.hi in
    may_enter _ c.requires.may c.args.number c.in-Some.ensures (sym c.in-Ok.ensures)
    (subst (FitsSigned w64) (sym lo) c.ranges.lo) (subst (FitsSigned w64) (sym hi) c.ranges.hi) refl refl

pub returns-in_ok-locals-in-Ok-clause-did : goal.returns-in_ok-locals-in-Ok-clause-did
returns-in_ok-locals-in-Ok-clause-did g c =
    let a = c.args in
    let lo = to_z-of_z w64 a.lo c.ranges.lo in
    let hi = to_z-of_z w64 a.hi c.ranges.hi in
    let s = a.self in
    let w : Whole = whole_of
    (record { memory = g.S.Store.memory s.seen.store; allocations = s.seen.names; printed = s.seen.printed; accesses = None }) s.executions s.counts in
    let x : Entered = record {
      job = a.job.now;
      info = c.in-Some.info;
      env = record {
        execution = s.executions;
        lo = to_z w64 (of_z w64 a.lo);
        trips = c.in-Ok.trips;
        chunk = a.job.now.knobs.chunk;
        iter_steps = a.job.now.knobs.iter_steps;
      };
      hi = to_z w64 (of_z w64 a.hi);
    } in
    let may = may_enter x c.requires.may a.number c.in-Some.ensures (sym c.in-Ok.ensures)
    (subst (FitsSigned w64) (sym lo) c.ranges.lo) (subst (FitsSigned w64) (sym hi) c.ranges.hi) refl refl in
    let locals = c.in_ok-locals-in-Ok.locals in
    let same = c.in_ok-locals-in-Ok.ensures in
    IfOk-weaker c.run_loop.result _ _
    (λ r h typed code.
    (λ t. visit_loop (setting_of a.job.now typed) (sym lo t) (sym hi t) (sym same t) w (loop_at typed a.number))
    ∙ visits x may a.number c.in-Some.ensures locals w refl _ h typed code
    ∙ (λ t. (
      answer_by r.ending (same t) r.locals,
      whole_of
          (record { memory = g.S.Store.memory r.world.seen.store; allocations = r.world.seen.names; printed = r.world.seen.printed; accesses = None })
          r.world.executions r.world.counts,
    )))
    c.run_loop.ensures.did
