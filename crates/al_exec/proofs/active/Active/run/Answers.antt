use Rattle.std.proofs.Common.{arith, sym, ◌≡◌, Ok, Err, ap, ◌∙◌, subst}
use Rattle.std.specs.Prelude.{slice_get}
use Rattle.al_code.specs.Runs.{or_no_line}
use Rattle.al_exec.specs.Meets.{Did}
use Rattle.al_exec.specs.Running.{RanOn, Trapped}
use Rattle.al_exec.specs.Pauses.{instr_of, Acted}
use Rattle.al_exec.proofs.Going.{has_room, is_within, is_low, sound, begun, falls_next, went_on, trapped_there, paused_there, goes_on, ends_on}
use Rattle.al_exec.proofs.active.Active.run.Goals as goal

pub run-init : goal.run-init
run-init g c = begun c.args.input.now c.args.code.now c.args.self.now (g.V.View.content c.args.view.now) c.requires.fits

pub instr-x-requires : goal.instr-x-requires
instr-x-requires g c = is_within c.args.code.now c.requires.valid c.run_often.new.self (c.in-Ok.ensures.ran c.args.input.now).fits

pub act-requires-clause-operands : goal.act-requires-clause-operands
act-requires-clause-operands g c = (sound c.args.code.now c.requires.valid c.run_often.new.self (c.in-Ok.ensures.ran c.args.input.now).fits c.instr-x.result c.instr-x.ensures.at).operands

pub act-requires-clause-fits : goal.act-requires-clause-fits
act-requires-clause-fits g c = is_low c.args.code.now c.requires.valid c.run_often.new.self (c.in-Ok.ensures.ran c.args.input.now).fits

pub act-requires-clause-room : goal.act-requires-clause-room
act-requires-clause-room g c =
    let fits = (c.in-Ok.ensures.ran c.args.input.now).fits in
    has_room c.args.code.now c.run_often.new.self.place c.run_often.new.self.height c.run_often.new.self.room fits.room c.instr-x.result
    (is_low c.args.code.now c.requires.valid c.run_often.new.self fits)
    (sound c.args.code.now c.requires.valid c.run_often.new.self fits c.instr-x.result c.instr-x.ensures.at).heights

pub act-requires-clause-number : goal.act-requires-clause-number
act-requires-clause-number g c = (sound c.args.code.now c.requires.valid c.run_often.new.self (c.in-Ok.ensures.ran c.args.input.now).fits c.instr-x.result c.instr-x.ensures.at).number

pub run-smaller : goal.run-smaller
run-smaller g c =
    let did : Did c.args.input.now c.args.code.now c.instr-x.result c.run_often.new.self (g.V.View.content c.run_often.new.view) (Ok tt)
    c.act.new.self (g.V.View.content c.act.new.view) =
    subst (λ r. Acted c.args.input.now c.args.code.now c.instr-x.result c.run_often.new.self (g.V.View.content c.run_often.new.view) r
    c.act.new.self (g.V.View.content c.act.new.view)) (c.in-Ok-None.is ∙ ap Ok c.in-Ok-None.field-0-is) c.act.ensures in
    let h = falls_next c.args.code.now c.requires.valid c.run_often.new.self (c.in-Ok.ensures.ran c.args.input.now).fits c.instr-x.result c.act.new.self c.instr-x.ensures.at did.1 0 in
    let less = (c.in-Ok.ensures.ran c.args.input.now).weighs 0 in
    omega (arith, h, less)

pub run-preserved : goal.run-preserved
run-preserved g c =
    went_on c.args.input.now c.args.code.now c.args.self.now c.run_often.new.self c.act.new.self
    (g.V.View.content c.args.view.now) (g.V.View.content c.run_often.new.view) (g.V.View.content c.act.new.view)
    (goes_on c.args.input.now c.args.code.now c.args.self.now c.run.self c.run_often.new.self (g.V.View.content c.args.view.now)
    (g.V.View.content c.run.view) (g.V.View.content c.run_often.new.view) c.run.invariant (c.in-Ok.ensures.ran c.args.input.now)) c.requires.valid c.instr-x.result c.instr-x.ensures.at
    (subst (λ r. Acted c.args.input.now c.args.code.now c.instr-x.result c.run_often.new.self (g.V.View.content c.run_often.new.view) r
    c.act.new.self (g.V.View.content c.act.new.view)) (c.in-Ok-None.is ∙ ap Ok c.in-Ok-None.field-0-is) c.act.ensures)

pub returns-in-Ok-Some-clause-ran : goal.returns-in-Ok-Some-clause-ran
returns-in-Ok-Some-clause-ran g c =
    let at : (c.instr-x.result ≡ instr_of c.in-Ok-Some.pause) × (c.act.new.self ≡ c.run_often.new.self)
    × (g.V.View.content c.act.new.view ≡ g.V.View.content c.run_often.new.view) =
    subst (λ r. Acted c.args.input.now c.args.code.now c.instr-x.result c.run_often.new.self (g.V.View.content c.run_often.new.view) r
    c.act.new.self (g.V.View.content c.act.new.view)) (c.in-Ok-Some.is ∙ ap Ok c.in-Ok-Some.field-0-is) c.act.ensures in
    paused_there c.args.input.now c.args.code.now c.args.self.now c.run_often.new.self c.act.new.self
    (g.V.View.content c.args.view.now) (g.V.View.content c.run_often.new.view) (g.V.View.content c.act.new.view)
    (goes_on c.args.input.now c.args.code.now c.args.self.now c.run.self c.run_often.new.self (g.V.View.content c.args.view.now)
    (g.V.View.content c.run.view) (g.V.View.content c.run_often.new.view) c.run.invariant (c.in-Ok.ensures.ran c.args.input.now)) c.instr-x.result c.in-Ok-Some.pause c.instr-x.ensures.at at.0 at.1 at.2

pub returns-in-Err-Trap-clause-ran : goal.returns-in-Err-Trap-clause-ran
returns-in-Err-Trap-clause-ran g c =
    subst (λ t. Trapped c.args.input.now c.args.code.now c.args.self.now (g.V.View.content c.args.view.now) t c.line_at.result
    c.act.new.self (g.V.View.content c.act.new.view)) (sym c.in-Err-Trap.t-is)
    (trapped_there c.args.input.now c.args.code.now c.args.self.now c.run_often.new.self c.act.new.self
    (g.V.View.content c.args.view.now) (g.V.View.content c.run_often.new.view) (g.V.View.content c.act.new.view)
    (goes_on c.args.input.now c.args.code.now c.args.self.now c.run.self c.run_often.new.self (g.V.View.content c.args.view.now)
    (g.V.View.content c.run.view) (g.V.View.content c.run_often.new.view) c.run.invariant (c.in-Ok.ensures.ran c.args.input.now)) c.instr-x.result c.in-Err-Trap.t c.line_at.result c.instr-x.ensures.at
    (c.line_at.ensures ∙ ap (λ n. or_no_line (slice_get c.args.code.now.lines n)) c.place-place.ensures)
    (subst (λ r. Acted c.args.input.now c.args.code.now c.instr-x.result c.run_often.new.self (g.V.View.content c.run_often.new.view) r
    c.act.new.self (g.V.View.content c.act.new.view)) (c.in-Err-Trap.is ∙ ap Err c.in-Err-Trap.field-0-is) c.act.ensures))

pub returns-in-Err-clause-ran : goal.returns-in-Err-clause-ran
returns-in-Err-clause-ran g c =
    ends_on c.args.input.now c.args.code.now c.args.self.now c.run.self c.run_often.new.self
    (g.V.View.content c.args.view.now) (g.V.View.content c.run.view) (g.V.View.content c.run_often.new.view)
    c.run.invariant c.in-Err.e
    (subst (λ r. RanOn c.args.input.now c.args.code.now c.run.self (g.V.View.content c.run.view) r c.run_often.new.self
    (g.V.View.content c.run_often.new.view)) c.in-Err.is (c.run_often.ensures.ran c.args.input.now))
