use Rattle.std.proofs.Common.{◌≡◌, ◌-◌, [], take, sym, ap, ◌∙◌, Some, None, refl, append-nil}
use Rattle.std.specs.Prelude.{slice_get}
use Rattle.std.specs.Option.{option_copied}
use Rattle.al_exec.specs.declared.machine.Machine.{Machine}
use Rattle.al_exec.proofs.LoopMoves.{iteration_over, no_info, no_body, again_moved, again_fault}
use Rattle.al_exec.proofs.machine.Machine.end_iteration.Goals as goal

pub returns-in_default-clause-moves : goal.returns-in_default-clause-moves
returns-in_default-clause-moves g c input =
    let m : Machine = c.args.self.now in
    let none : m.inner.items ≡ [] =
    c.in_default.ensures.items ∙ append-nil c.pop.new.self.items ∙ c.in_default.ensures.rest
    ∙ ap (λ n. take (n - 1) m.inner.items) c.in_default.ensures.cases.0 in
    iteration_over c.args.code.now c.requires.valid m c.requires.stands c.requires.at input
    (g.V.View.content c.args.view.now) (record m { inner = c.pop.new.self }) none refl refl

pub returns-in-Ok-clause-moves : goal.returns-in-Ok-clause-moves
returns-in-Ok-clause-moves g c input =
    let m : Machine = c.args.self.now in
    let m1 : Machine = record m { inner = c.pop.new.self } in
    let has : slice_get c.args.code.now.loops c.in-Some.x.loop ≡ Some c.in-Some-Some.info.now =
    ap (slice_get c.args.code.now.loops) (sym c.number-k.ensures) ∙ sym c.get.ensures.value ∙ ap option_copied c.in-Some-Some.is-0 in
    let body : slice_get c.args.code.now.bodies c.in-Some.x.loop ≡ Some c.in-Some-Some.body.now =
    ap (slice_get c.args.code.now.bodies) (sym c.number-k.ensures) ∙ sym c.get-2.ensures.value ∙ ap option_copied c.in-Some-Some.is-1 in
    again_moved c.args.code.now c.requires.valid m c.requires.stands c.requires.at m1 c.in-Some.x c.pop.new.self.items c.in-Some.ensures.items refl refl
    c.in-Some-Some.info.now c.in-Some-Some.body.now has body input (g.V.View.content c.args.view.now)
    (g.V.View.content c.trip.new.view) c.trip.new.self c.in-Ok.ensures.trips

pub returns-in-Err-clause-moves : goal.returns-in-Err-clause-moves
returns-in-Err-clause-moves g c input =
    let m : Machine = c.args.self.now in
    let m1 : Machine = record m { inner = c.pop.new.self } in
    let has : slice_get c.args.code.now.loops c.in-Some.x.loop ≡ Some c.in-Some-Some.info.now =
    ap (slice_get c.args.code.now.loops) (sym c.number-k.ensures) ∙ sym c.get.ensures.value ∙ ap option_copied c.in-Some-Some.is-0 in
    let body : slice_get c.args.code.now.bodies c.in-Some.x.loop ≡ Some c.in-Some-Some.body.now =
    ap (slice_get c.args.code.now.bodies) (sym c.number-k.ensures) ∙ sym c.get-2.ensures.value ∙ ap option_copied c.in-Some-Some.is-1 in
    again_fault c.args.code.now c.requires.valid m c.requires.stands c.requires.at m1 c.in-Some.x c.pop.new.self.items c.in-Some.ensures.items refl refl
    c.in-Some-Some.info.now c.in-Some-Some.body.now has body input (g.V.View.content c.args.view.now)
    (g.V.View.content c.trip.new.view) c.trip.new.self c.in-Err.e c.in-Err.ensures.trips

pub returns-in_default-2-clause-moves : goal.returns-in_default-2-clause-moves
returns-in_default-2-clause-moves g c input =
    let m : Machine = c.args.self.now in
    let m1 : Machine = record m { inner = c.pop.new.self } in
    let has : slice_get c.args.code.now.loops c.in-Some.x.loop ≡ Some c.in_default-2.field-0-0.now =
    ap (slice_get c.args.code.now.loops) (sym c.number-k.ensures) ∙ sym c.get.ensures.value ∙ ap option_copied c.in_default-2.is-0 in
    let none : slice_get c.args.code.now.bodies c.in-Some.x.loop ≡ None =
    ap (slice_get c.args.code.now.bodies) (sym c.number-k.ensures) ∙ sym c.get-2.ensures.value ∙ ap option_copied c.in_default-2.is-1 in
    no_body c.args.code.now c.requires.valid m c.requires.stands c.requires.at m1 c.in-Some.x c.pop.new.self.items
    c.in-Some.ensures.items refl refl input (g.V.View.content c.args.view.now) c.in_default-2.field-0-0.now has none

pub returns-in_default-2-2-clause-moves : goal.returns-in_default-2-2-clause-moves
returns-in_default-2-2-clause-moves g c input =
    let m : Machine = c.args.self.now in
    let m1 : Machine = record m { inner = c.pop.new.self } in
    let none : slice_get c.args.code.now.loops c.in-Some.x.loop ≡ None =
    ap (slice_get c.args.code.now.loops) (sym c.number-k.ensures) ∙ sym c.get.ensures.value ∙ ap option_copied c.in_default-2.is-0 in
    no_info c.args.code.now c.requires.valid m c.requires.stands c.requires.at m1 c.in-Some.x
    c.pop.new.self.items c.in-Some.ensures.items refl refl input (g.V.View.content c.args.view.now) none
