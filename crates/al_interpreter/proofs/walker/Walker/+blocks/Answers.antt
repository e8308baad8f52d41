use Rattle.std.proofs.Common.{Ok, refl, sym, ◌∙◌, true, false, arith}
use Rattle.std.proofs.lemmas.Int.{ints, to_z-of_z}
use Rattle.al_core.specs.Action.{pure}
use Rattle.al_core.specs.Loops.{bound_of}
use Rattle.al_core.specs.Meaning.{Next}
use Rattle.al_interpreter.specs.declared.flow.Turn.TheVariants as turn
use Rattle.al_interpreter.specs.declared.walker.Walker.{Walker}
use Rattle.al_interpreter.specs.Scenes.{Scene, scene, execute, start_value}
use Rattle.al_interpreter.proofs.Annotated as annotated
use Rattle.al_interpreter.proofs.Chains.{goes, goes_to, as_flow, flow_stops}
use Rattle.al_interpreter.proofs.Doing as nodes
use Rattle.al_interpreter.proofs.Sequences.{flows, faults, then_turn, then_over}
use Rattle.al_interpreter.proofs.Turning as turning
use Rattle.al_interpreter.proofs.walker.Walker.+blocks.Given.{Over}
use Rattle.al_interpreter.proofs.walker.Walker.+blocks.Goals as goal

-- where the walker walks
abbrev at : (g : Over) → Walker g.row.C.Denot → Scene g.row.C-On.Denot
at g w = scene g.C.On.Stage.world g.C.On.Stage.place g.C.Calls.does w

-- ---- a statement that may be absent, and statements in order

pub any-returns-in-Some : goal.any-returns-in-Some
any-returns-in-Some g t c = rw (c.in-Some.is, ← c.get.ensures) c.stmt.ensures

pub statements-returns-in_err-stmt : goal.statements-returns-in_err-stmt
statements-returns-in_err-stmt g t c =
    faults _ _ _ _ _ _ _ _ _ _ _ _ c.loop-s.invariant c.loop-s-test.true c.s-item.is c.from_residual.ensures.1 c.in_err-stmt.ensures

pub statements-returns-in-Over : goal.statements-returns-in-Over
unfolding pure
statements-returns-in-Over g t c =
    flows _ _ _ _ _ _ _ _ _ _ _ _ c.loop-s.invariant c.loop-s-test.true c.s-item.is c.in_ok-stmt.ensures (sym c.in_sequence.ensures ∙ c.in-Over.is)

pub statements-loop-s-preserved : goal.statements-loop-s-preserved
statements-loop-s-preserved g t c =
    flows _ _ _ _ _ _ _ _ _ _ _ _ c.loop-s.invariant c.loop-s-test.true c.s-item.is c.in_ok-stmt.ensures (sym c.in_sequence.ensures ∙ c.in-Again.is)

-- ---- kinds of statements

pub kind-returns-in-SetLocal : goal.kind-returns-in-SetLocal
kind-returns-in-SetLocal g t c = rw c.in-SetLocal.is c.assign.ensures

pub kind-returns-in-Store : goal.kind-returns-in-Store
kind-returns-in-Store g t c = rw c.in-Store.is c.store.ensures

pub kind-returns-in-UpdateLocal : goal.kind-returns-in-UpdateLocal
kind-returns-in-UpdateLocal g t c = rw c.in-UpdateLocal.is c.update_local.ensures

pub kind-returns-in-UpdateAt : goal.kind-returns-in-UpdateAt
kind-returns-in-UpdateAt g t c = rw c.in-UpdateAt.is c.update_at.ensures

pub kind-returns-in-Call : goal.kind-returns-in-Call
kind-returns-in-Call g t c = rw c.in-Call.is c.call_only.ensures

pub kind-returns-in-Return : goal.kind-returns-in-Return
kind-returns-in-Return g t c = rw c.in-Return.is c.give.ensures

pub kind-returns-in-Print : goal.kind-returns-in-Print
kind-returns-in-Print g t c = rw (c.in-Print.is, ← c.as_slice.ensures, ← c.as_slice-in-Print.ensures) c.print.ensures

pub kind-returns-then-truth : goal.kind-returns-then-truth
kind-returns-then-truth g t c =
    rw (c.in-If.is, nodes.does-If) (goes _ _ _ _ _ _ _ c.in_ok-v-in-If.ensures (rw (← c.truth.ensures, c.if-truth.true, ← c.get.ensures) c.stmt.ensures))

pub kind-returns-else-truth : goal.kind-returns-else-truth
kind-returns-else-truth g t c =
    rw (c.in-If.is, nodes.does-If) (goes _ _ _ _ _ _ _ c.in_ok-v-in-If.ensures (rw (← c.truth.ensures, c.if-truth.false) c.any.ensures))

pub kind-returns-in-While : goal.kind-returns-in-While
kind-returns-in-While g t c = rw (c.in-While.is, nodes.does-While, ← c.get-in-While.ensures) c.turns.ensures

pub kind-returns-in_err-any-in-None : goal.kind-returns-in_err-any-in-None
kind-returns-in_err-any-in-None g t c =
    rw (c.in-For.is, c.in-None.is, nodes.does-For)
    (flow_stops _ _ _ _ _ _ c.from_residual-in_err-any-in-None.ensures.1 c.in_err-any-in-None.ensures)

pub kind-returns-in-Over : goal.kind-returns-in-Over
kind-returns-in-Over g t c =
    rw (c.in-For.is, c.in-None.is, nodes.does-For)
    (goes_to _ _ _ _ _ _ c.in_ok-any-in-None.ensures (then_over _ _ _ _ (sym c.in_sequence.ensures ∙ c.in-Over.is)))

pub kind-returns-in-Again : goal.kind-returns-in-Again
kind-returns-in-Again g t c =
    rw (c.in-For.is, c.in-None.is, nodes.does-For, ← c.as_ref.ensures.value, ← c.get-in-Again.ensures)
    (goes _ _ _ _ _ _ _ c.in_ok-any-in-None.ensures (then_turn _ _ turn.Again _ _ _ (sym c.in_sequence.ensures ∙ c.in-Again.is) c.turns-in-Again.ensures))

pub kind-returns-in-Some : goal.kind-returns-in-Some
kind-returns-in-Some g t c = rw (c.in-For.is, c.in-Some.is, nodes.does-Annotated, ← c.get-in-Some.ensures) c.annotated.ensures

-- ---- a turn

pub turn-returns-in_err-holds : goal.turn-returns-in_err-holds
turn-returns-in_err-holds g t c = turning.turn_not_tested _ _ _ _ _ _ _ _ c.from_residual.ensures.1 c.in_err-holds.ensures

pub turn-returns-then-not-branch : goal.turn-returns-then-not-branch
turn-returns-then-not-branch g t c = turning.turn_stops _ _ _ _ _ _ _ c.in_ok-holds.ensures c.if-not-branch.true

pub turn-returns-in_err-stmt : goal.turn-returns-in_err-stmt
turn-returns-in_err-stmt g t c =
    turning.turn_body_fault _ _ _ _ _ _ _ _ _ _ c.in_ok-holds.ensures c.if-not-branch.false c.from_residual-in_err-stmt.ensures.1 c.in_err-stmt.ensures

pub turn-returns-in-Over : goal.turn-returns-in-Over
turn-returns-in-Over g t c =
    turning.turn_over _ _ _ _ _ _ _ _ _ _ c.in_ok-holds.ensures c.if-not-branch.false c.in_ok-stmt.ensures (sym c.in_loop.ensures ∙ c.in-Over.is)

pub turn-returns-in_err-any-in-Again : goal.turn-returns-in_err-any-in-Again
turn-returns-in_err-any-in-Again g t c =
    turning.turn_third_fault _ _ _ _ _ _ _ _ _ _ _ _ c.in_ok-holds.ensures c.if-not-branch.false c.in_ok-stmt.ensures
    (sym c.in_loop.ensures ∙ c.in-Again.is) c.from_residual-in_err-any-in-Again.ensures.1 c.in_err-any-in-Again.ensures

pub turn-returns-in_ok-any-in-Again : goal.turn-returns-in_ok-any-in-Again
turn-returns-in_ok-any-in-Again g t c =
    turning.turn_third _ _ _ _ _ _ _ _ _ _ _ _ c.in_ok-holds.ensures c.if-not-branch.false c.in_ok-stmt.ensures (sym c.in_loop.ensures ∙ c.in-Again.is)
    c.in_ok-any-in-Again.ensures (sym c.in_sequence.ensures)

-- ---- turns

pub turns-loop-left-init : goal.turns-loop-left-init
turns-loop-left-init g t c = turning.turns_begin _ _ _ _ _ _ (omega (arith, c.left.ensures, c.from-left.ensures))

pub turns-returns-in_err-turn : goal.turns-returns-in_err-turn
turns-returns-in_err-turn g t c =
    as_flow _ _ _ _ c.from_residual.ensures.1 (turning.turns_fault _ _ _ _ _ _ _ _ _ c.loop-left.invariant c.loop-left-test.true c.in_err-turn.ensures)

pub turns-returns-in-Over : goal.turns-returns-in-Over
turns-returns-in-Over g t c =
    turning.turns_over _ _ _ _ _ _ _ _ _ _ c.loop-left.invariant c.loop-left-test.true c.in_ok-turn.ensures c.in-Over.is

pub turns-loop-left-preserved : goal.turns-loop-left-preserved
turns-loop-left-preserved g t c =
    turning.turns_again _ _ _ _ _ _ _ _ _ c.loop-left.invariant c.loop-left-test.true c.in_ok-turn.ensures c.in-Again.is

pub turns-returns : goal.turns-returns
turns-returns g t c = turning.turns_out _ _ _ _ _ _ _ c.loop-left.invariant (omega arith)

-- ---- an annotated loop

pub annotated-returns-in_err-range : goal.annotated-returns-in_err-range
annotated-returns-in_err-range g t c =
    let x = at g c.args.self.now in
    as_flow _ _ _ _ c.from_residual.ensures.1 (annotated.not_ranged x.world x.here c.args.number c.args.line (start_value x c.args.first.now)
    (bound_of c.args.test.now) (execute x c.args.body.now) _ _ _ c.in_err-range.ensures)

pub annotated-returns-in-None : goal.annotated-returns-in-None
annotated-returns-in-None g t c =
    let x = at g c.args.self.now in
    annotated.no_range x.world x.here c.args.number c.args.line (start_value x c.args.first.now)
    (bound_of c.args.test.now) (execute x c.args.body.now) _ _ _ c.in_ok-range.ensures c.in-None.is

pub annotated-returns-in_err-visit-in-Some : goal.annotated-returns-in_err-visit-in-Some
annotated-returns-in_err-visit-in-Some g t c =
    let x = at g c.args.self.now in
    annotated.with_range x.world x.here c.args.number c.args.line (start_value x c.args.first.now) (bound_of c.args.test.now) (execute x c.args.body.now)
    _ _ _ _ true _ _ c.in_ok-range.ensures c.in-Some.is (sym c.is_outside.ensures ∙ c.if-is_outside.true)
    (flow_stops _ _ _ _ _ _ c.from_residual-in_err-visit-in-Some.ensures.1 c.in_err-visit-in-Some.ensures)

pub annotated-returns-in_ok-visit-in-Some : goal.annotated-returns-in_ok-visit-in-Some
unfolding pure
annotated-returns-in_ok-visit-in-Some g t c =
    let x = at g c.args.self.now in
    annotated.with_range x.world x.here c.args.number c.args.line (start_value x c.args.first.now) (bound_of c.args.test.now) (execute x c.args.body.now)
    _ _ _ _ true _ (Ok Next) c.in_ok-range.ensures c.in-Some.is (sym c.is_outside.ensures ∙ c.if-is_outside.true)
    (goes_to _ _ _ _ _ _ c.in_ok-visit-in-Some.ensures refl)

pub annotated-returns-else-is_outside : goal.annotated-returns-else-is_outside
annotated-returns-else-is_outside g t c =
    let x = at g c.args.self.now in
    annotated.with_range x.world x.here c.args.number c.args.line (start_value x c.args.first.now) (bound_of c.args.test.now) (execute x c.args.body.now)
    _ _ _ _ false _ _ c.in_ok-range.ensures c.in-Some.is (sym c.is_outside.ensures ∙ c.if-is_outside.false) c.ordinary.ensures

pub ordinary-returns-in_err-flow : goal.ordinary-returns-in_err-flow
ordinary-returns-in_err-flow g t c =
    let x = at g c.args.self.now in
    annotated.from_count x.world c.args.line c.args.range (execute x c.args.body.now) _ _ _ _ _ _ c.trips.ensures c.in_ok-lift.ensures
    (flow_stops _ _ _ _ _ _ c.from_residual-in_err-flow.ensures.1 c.in_err-flow.ensures)

pub ordinary-returns : goal.ordinary-returns
ordinary-returns g t c =
    let x = at g c.args.self.now in
    annotated.from_count x.world c.args.line c.args.range (execute x c.args.body.now) _ _ _ _ _ _ c.trips.ensures c.in_ok-lift.ensures
    (goes _ _ _ _ _ _ _ c.in_ok-flow.ensures c.past_loop.ensures)

pub trips-returns-in_err-begin_trip : goal.trips-returns-in_err-begin_trip
trips-returns-in_err-begin_trip g t c =
    let x = at g c.args.self.now in
    as_flow _ _ _ _ c.from_residual.ensures.1 (turning.trip_not_begun x.world c.args.line c.args.range.counter c.args.range.lo c.args.range.hi
    (execute x c.args.body.now) _ _ _ _ _ c.loop-n.invariant.1 c.loop-n.invariant.0
    (grind (arith, ints, to_z-of_z, c.loop-n-test.true)) c.in_err-begin_trip.ensures)

pub trips-returns-in_err-stmt : goal.trips-returns-in_err-stmt
trips-returns-in_err-stmt g t c =
    let x = at g c.args.self.now in
    as_flow _ _ _ _ c.from_residual-in_err-stmt.ensures.1 (turning.trip_fault x.world c.args.line c.args.range.counter c.args.range.lo c.args.range.hi
    (execute x c.args.body.now) _ _ _ _ _ _ _ c.loop-n.invariant.1 c.loop-n.invariant.0
    (grind (arith, ints, to_z-of_z, c.loop-n-test.true)) c.in_ok-begin_trip.ensures c.in_err-stmt.ensures)

pub trips-returns-in-Over : goal.trips-returns-in-Over
unfolding pure
trips-returns-in-Over g t c =
    let x = at g c.args.self.now in
    turning.trip_over x.world c.args.line c.args.range.counter c.args.range.lo c.args.range.hi
    (execute x c.args.body.now) _ _ _ _ _ _ _ _ c.loop-n.invariant.1 c.loop-n.invariant.0
    (grind (arith, ints, to_z-of_z, c.loop-n-test.true)) c.in_ok-begin_trip.ensures c.in_ok-stmt.ensures (sym c.in_loop.ensures ∙ c.in-Over.is)

pub trips-loop-n-preserved : goal.trips-loop-n-preserved
trips-loop-n-preserved g t c =
    let x = at g c.args.self.now in (
      omega (arith, ints),
      turning.trip_again x.world c.args.line c.args.range.counter c.args.range.lo c.args.range.hi
          (execute x c.args.body.now) _ _ _ _ _ _ _ _ c.loop-n.invariant.1 c.loop-n.invariant.0
          (grind (arith, ints, to_z-of_z, c.loop-n-test.true)) c.in_ok-begin_trip.ensures c.in_ok-stmt.ensures (sym c.in_loop.ensures ∙ c.in-Again.is)
          (grind (arith, ints, to_z-of_z, c.loop-n-test.true)),
    )
