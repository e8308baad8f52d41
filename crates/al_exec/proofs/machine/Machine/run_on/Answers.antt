use Rattle.std.proofs.Common.{rules, ◌<◌, ◌≤◌, Err, w64, sym, ap, ◌∙◌, subst, refl, arith}
use Rattle.std.specs.Prelude.{slice_get}
use Rattle.std.proofs.lemmas.Int.{to_z-of_z}
use mir.Val.{SFits}
use Rattle.al_exec.specs.declared.stop.Stop.{Stop}
use Rattle.al_exec.specs.declared.stop.Stop.TheVariants as stop
use Rattle.al_exec.specs.Going.{run_in, StopsAs}
use Rattle.al_code.specs.Runs.{or_no_line}
use Rattle.al_exec.specs.declared.machine.Machine.{Machine}
use Rattle.al_exec.specs.declared.machine.Onward.{Onward}
use Rattle.al_exec.specs.Pauses.{instr_of}
use Rattle.al_exec.specs.Running.{Ran}
use Rattle.al_exec.specs.Machines.{Moves, Moved, state_in, total}
use Rattle.al_exec.proofs.Ongoing.{begun, paused_on, paused_less, moved_on, moved_less, stopped_at, ended_with, trapped_with, run_trapped, keeps_on, ran_kept}
use Rattle.al_exec.proofs.machine.Machine.run_on.Goals as goal

pub go-init : goal.go-init
go-init g c = begun c.args.input.now c.args.code.now c.args.self.now (g.V.View.content c.args.view.now) c.requires.stands

pub run-requires-clause-fits : goal.run-requires-clause-fits
run-requires-clause-fits g c = c.go.invariant.stands.fits

pub pass-requires-clause-stands : goal.pass-requires-clause-stands
pass-requires-clause-stands g c =
    let m1 : Machine = record c.go.self { active = c.run.new.self; bytes = c.run.new.bytes } in
    (paused_on c.args.input.now c.args.code.now c.args.self.now c.go.self m1
    (g.V.View.content c.args.view.now) (g.V.View.content c.go.view) (g.V.View.content c.run.new.view)
    c.go.invariant c.in-Ok.pause c.run.new.self c.in-Ok.ensures.ran c.run.ensures.size refl).stands

pub pass-requires-clause-at : goal.pass-requires-clause-at
pass-requires-clause-at g c = c.in-Ok.ensures.ran.stands

pub go-preserved : goal.go-preserved
go-preserved g c =
    let m1 : Machine = record c.go.self { active = c.run.new.self; bytes = c.run.new.bytes } in
    moved_on c.args.input.now c.args.code.now c.args.self.now m1 c.pass.new.self
    (g.V.View.content c.args.view.now) (g.V.View.content c.run.new.view) (g.V.View.content c.pass.new.view)
    (paused_on c.args.input.now c.args.code.now c.args.self.now c.go.self m1
    (g.V.View.content c.args.view.now) (g.V.View.content c.go.view) (g.V.View.content c.run.new.view)
    c.go.invariant c.in-Ok.pause c.run.new.self c.in-Ok.ensures.ran c.run.ensures.size refl)
    (instr_of c.in-Ok.pause) c.in-Ok.ensures.ran.stands
    (subst
    (λ (r : Onward).
    Moved c.args.input.now c.args.code.now (instr_of c.in-Ok.pause) m1 (g.V.View.content c.run.new.view) r c.pass.new.self (g.V.View.content c.pass.new.view))
    c.in-Ok-Goes.field-0-is (c.in-Ok-Goes.ensures.moves c.args.input.now))
    c.pass.ensures.kept

pub go-smaller : goal.go-smaller
go-smaller g c =
    let m1 : Machine = record c.go.self { active = c.run.new.self; bytes = c.run.new.bytes } in
    let less : total c.args.code.now c.pass.new.self < total c.args.code.now m1 =
    moved_less c.args.input.now c.args.code.now c.args.self.now m1 c.pass.new.self
    (g.V.View.content c.args.view.now) (g.V.View.content c.run.new.view) (g.V.View.content c.pass.new.view)
    (paused_on c.args.input.now c.args.code.now c.args.self.now c.go.self m1
    (g.V.View.content c.args.view.now) (g.V.View.content c.go.view) (g.V.View.content c.run.new.view)
    c.go.invariant c.in-Ok.pause c.run.new.self c.in-Ok.ensures.ran c.run.ensures.size refl)
    (instr_of c.in-Ok.pause) c.in-Ok.ensures.ran.stands
    (subst
    (λ (r : Onward).
    Moved c.args.input.now c.args.code.now (instr_of c.in-Ok.pause) m1 (g.V.View.content c.run.new.view) r c.pass.new.self (g.V.View.content c.pass.new.view))
    c.in-Ok-Goes.field-0-is (c.in-Ok-Goes.ensures.moves c.args.input.now)) in
    let le : total c.args.code.now m1 ≤ total c.args.code.now c.go.self =
    paused_less c.args.input.now c.args.code.now c.args.self.now c.go.self m1
    (g.V.View.content c.args.view.now) (g.V.View.content c.go.view) (g.V.View.content c.run.new.view)
    c.go.invariant c.in-Ok.pause c.run.new.self c.in-Ok.ensures.ran c.run.ensures.size refl in
    omega (arith, less, le)

pub returns-in-Ok-Stops-clause-stops : goal.returns-in-Ok-Stops-clause-stops
returns-in-Ok-Stops-clause-stops g c =
    let m1 : Machine = record c.go.self { active = c.run.new.self; bytes = c.run.new.bytes } in
    let low : SFits w64 c.in-Ok-Stops.lo = search rules in
    let high : SFits w64 c.in-Ok-Stops.hi = search rules in
    subst
    (λ (stop : Stop).
    StopsAs c.args.code.now c.args.self.now.inside (run_in c.args.input.now c.args.code.now c.args.self.now)
    (state_in c.args.self.now (g.V.View.content c.args.view.now)) stop c.pass.new.self c.pass.new.self.active.budget (g.V.View.content c.pass.new.view))
    (λ j. stop.AtLoop c.in-Ok-Stops.number (sym (to_z-of_z w64 c.in-Ok-Stops.lo low) j) (sym (to_z-of_z w64 c.in-Ok-Stops.hi high) j))
    (stopped_at c.args.input.now c.args.code.now c.args.self.now m1 c.pass.new.self
    (g.V.View.content c.args.view.now) (g.V.View.content c.run.new.view) (g.V.View.content c.pass.new.view)
    (paused_on c.args.input.now c.args.code.now c.args.self.now c.go.self m1
    (g.V.View.content c.args.view.now) (g.V.View.content c.go.view) (g.V.View.content c.run.new.view)
    c.go.invariant c.in-Ok.pause c.run.new.self c.in-Ok.ensures.ran c.run.ensures.size refl)
    (instr_of c.in-Ok.pause) c.in-Ok.ensures.ran.stands c.in-Ok-Stops.number c.in-Ok-Stops.lo c.in-Ok-Stops.hi
    (subst
    (λ (r : Onward).
    Moved c.args.input.now c.args.code.now (instr_of c.in-Ok.pause) m1 (g.V.View.content c.run.new.view) r c.pass.new.self (g.V.View.content c.pass.new.view))
    c.in-Ok-Stops.field-0-is (c.in-Ok-Stops.ensures.moves c.args.input.now)))

pub returns-in-Ok-Ends-clause-stops : goal.returns-in-Ok-Ends-clause-stops
returns-in-Ok-Ends-clause-stops g c =
    let m1 : Machine = record c.go.self { active = c.run.new.self; bytes = c.run.new.bytes } in
    ended_with c.args.input.now c.args.code.now c.args.self.now m1 c.pass.new.self
    (g.V.View.content c.args.view.now) (g.V.View.content c.run.new.view) (g.V.View.content c.pass.new.view)
    (paused_on c.args.input.now c.args.code.now c.args.self.now c.go.self m1
    (g.V.View.content c.args.view.now) (g.V.View.content c.go.view) (g.V.View.content c.run.new.view)
    c.go.invariant c.in-Ok.pause c.run.new.self c.in-Ok.ensures.ran c.run.ensures.size refl)
    (instr_of c.in-Ok.pause) c.in-Ok.ensures.ran.stands c.in-Ok-Ends.v
    (subst
    (λ (r : Onward).
    Moved c.args.input.now c.args.code.now (instr_of c.in-Ok.pause) m1 (g.V.View.content c.run.new.view) r c.pass.new.self (g.V.View.content c.pass.new.view))
    c.in-Ok-Ends.field-0-is (c.in-Ok-Ends.ensures.moves c.args.input.now))

pub returns-in-Err-Trap-pass-clause-stops : goal.returns-in-Err-Trap-pass-clause-stops
returns-in-Err-Trap-pass-clause-stops g c =
    let m1 : Machine = record c.go.self { active = c.run.new.self; bytes = c.run.new.bytes } in
    trapped_with c.args.input.now c.args.code.now c.args.self.now m1 c.pass.new.self
    (g.V.View.content c.args.view.now) (g.V.View.content c.run.new.view) (g.V.View.content c.pass.new.view)
    (paused_on c.args.input.now c.args.code.now c.args.self.now c.go.self m1
    (g.V.View.content c.args.view.now) (g.V.View.content c.go.view) (g.V.View.content c.run.new.view)
    c.go.invariant c.in-Ok.pause c.run.new.self c.in-Ok.ensures.ran c.run.ensures.size refl)
    (instr_of c.in-Ok.pause) c.in-Ok.ensures.ran.stands c.in-Err-Trap-pass.t c.line_at.result
    (c.line_at.ensures ∙ ap (λ n. or_no_line (slice_get c.args.code.now.lines n)) c.place-place.ensures)
    (subst
    (λ r. Moves c.args.input.now c.args.code.now (instr_of c.in-Ok.pause) m1
    (g.V.View.content c.run.new.view) r c.pass.new.self (g.V.View.content c.pass.new.view))
    (c.in-Err-Trap-pass.is ∙ ap Err c.in-Err-Trap-pass.field-0-is) (c.pass.ensures.moves c.args.input.now))

pub returns-in-Err-Trap-clause-stops : goal.returns-in-Err-Trap-clause-stops
returns-in-Err-Trap-clause-stops g c =
    run_trapped c.args.input.now c.args.code.now c.args.self.now c.go.self
    (g.V.View.content c.args.view.now) (g.V.View.content c.go.view) (g.V.View.content c.run.new.view)
    c.go.invariant c.run.new.self c.in-Err-Trap.t c.in-Err-Trap.line
    (subst
    (λ r. Ran c.args.input.now c.args.code.now c.go.self.active (g.V.View.content c.go.view) r c.run.new.self (g.V.View.content c.run.new.view))
    (c.in-Err-Trap.is ∙ ap Err c.in-Err-Trap.field-0-is) c.run.ensures.ran)

pub returns-in-Ok-Stops-clause-kept : goal.returns-in-Ok-Stops-clause-kept
returns-in-Ok-Stops-clause-kept g c =
    let m1 : Machine = record c.go.self { active = c.run.new.self; bytes = c.run.new.bytes } in
    keeps_on c.args.self.now m1 c.pass.new.self
    (ran_kept c.args.self.now c.go.self m1 c.run.new.self c.go.invariant.kept c.run.ensures.size refl) c.pass.ensures.kept

pub returns-in-Ok-Ends-clause-kept : goal.returns-in-Ok-Ends-clause-kept
returns-in-Ok-Ends-clause-kept g c =
    let m1 : Machine = record c.go.self { active = c.run.new.self; bytes = c.run.new.bytes } in
    keeps_on c.args.self.now m1 c.pass.new.self
    (ran_kept c.args.self.now c.go.self m1 c.run.new.self c.go.invariant.kept c.run.ensures.size refl) c.pass.ensures.kept

pub returns-in-Err-Trap-pass-clause-kept : goal.returns-in-Err-Trap-pass-clause-kept
returns-in-Err-Trap-pass-clause-kept g c =
    let m1 : Machine = record c.go.self { active = c.run.new.self; bytes = c.run.new.bytes } in
    keeps_on c.args.self.now m1 c.pass.new.self
    (ran_kept c.args.self.now c.go.self m1 c.run.new.self c.go.invariant.kept c.run.ensures.size refl) c.pass.ensures.kept

pub returns-in-Err-Trap-clause-kept : goal.returns-in-Err-Trap-clause-kept
returns-in-Err-Trap-clause-kept g c =
    let m1 : Machine = record c.go.self { active = c.run.new.self; bytes = c.run.new.bytes } in
    ran_kept c.args.self.now c.go.self m1 c.run.new.self c.go.invariant.kept c.run.ensures.size refl
