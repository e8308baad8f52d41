use Rattle.std.proofs.Common.{Ok, ap, ◌∙◌, arith}
use Rattle.std.specs.Prelude.{slice_get}
use Rattle.al_core.specs.declared.typed_tree.Typed.{Typed}
use Rattle.al_interpreter.proofs.Calling.{begun, entered}
use Rattle.al_interpreter.proofs.Chains.{goes_to, stops}
use Rattle.al_interpreter.proofs.whole_calls.+call_to.Goals as goal

pub returns-in_err-spend : goal.returns-in_err-spend
returns-in_err-spend g t c =
    let on = c.args.on.now in
    begun (g.S.Stage.world on) g.S.Stage.place on.program.now.funcs on.input.now c.args.room c.args.f c.args.line c.args.args _ _ _
    (omega arith) (stops _ _ _ _ _ _ c.from_residual.ensures.1 c.in_err-spend.ensures)

pub returns-in_err-flow : goal.returns-in_err-flow
returns-in_err-flow g t c =
    let on = c.args.on.now in
    entered (g.S.Stage.world on) g.S.Stage.place on.program.now.funcs on.input.now c.args.room c.args.f c.args.line c.args.args _ _ _
    _ _ _ _ _ _ _ (omega arith) c.in_ok-spend.ensures
    (c.at-f.ensures ∙ ap (λ l. slice_get l c.args.f) (c.as_slice.ensures ∙ ap (λ (p : Typed). p.funcs) c.typed.ensures))
    c.in_ok-frame_of.ensures c.enter-old.ensures c.body_of.ensures
    (stops _ _ _ _ _ _ c.from_residual-in_err-flow.ensures.1 c.in_err-flow.ensures)

pub returns : goal.returns
returns g t c =
    let on = c.args.on.now in
    entered (g.S.Stage.world on) g.S.Stage.place on.program.now.funcs on.input.now c.args.room c.args.f c.args.line c.args.args _ _ (Ok c.leave.result)
    _ _ _ _ _ _ _ (omega arith) c.in_ok-spend.ensures
    (c.at-f.ensures ∙ ap (λ l. slice_get l c.args.f) (c.as_slice.ensures ∙ ap (λ (p : Typed). p.funcs) c.typed.ensures))
    c.in_ok-frame_of.ensures c.enter-old.ensures c.body_of.ensures
    (goes_to _ _ _ _ _ _ c.in_ok-flow.ensures (rw (← c.returned.ensures) c.leave.ensures))
