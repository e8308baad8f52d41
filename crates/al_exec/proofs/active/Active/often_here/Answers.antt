use Rattle.std.proofs.Common.{◌≡◌, [], ap, ◌∙◌, subst, Some, Ok, Err}
use Rattle.std.specs.Prelude.{slice_get}
use Rattle.al_code.specs.Runs.{or_no_line}
use Rattle.al_core.specs.declared.view.ViewFault.TheVariants as fault
use Rattle.al_exec.specs.Active.{Active}
use Rattle.al_exec.specs.Meets.{Did}
use Rattle.al_exec.specs.Pauses.{ActedOften}
use Rattle.al_exec.proofs.Going.{has_room, is_within, is_low, sound, begun, falls_next, went_on, trapped_there, stayed}
use Rattle.al_exec.proofs.active.Active.often_here.Goals as goal

pub often-init : goal.often-init
often-init g c input = begun input c.args.code.now c.args.self.now (g.V.View.content c.args.view.now) c.requires.fits

pub instr-x-requires : goal.instr-x-requires
instr-x-requires g c = is_within c.args.code.now c.requires.valid c.often.self (c.often.invariant []).fits

pub act_often-requires-clause-operands : goal.act_often-requires-clause-operands
act_often-requires-clause-operands g c =
    (sound c.args.code.now c.requires.valid c.often.self (c.often.invariant []).fits c.instr-x.result c.instr-x.ensures.at).operands

pub act_often-requires-clause-fits : goal.act_often-requires-clause-fits
act_often-requires-clause-fits g c = is_low c.args.code.now c.requires.valid c.often.self (c.often.invariant []).fits

pub act_often-requires-clause-room : goal.act_often-requires-clause-room
act_often-requires-clause-room g c =
    let fits = (c.often.invariant []).fits in
    has_room c.args.code.now c.often.self.place c.often.self.height c.often.self.room fits.room c.instr-x.result
    (is_low c.args.code.now c.requires.valid c.often.self fits)
    (sound c.args.code.now c.requires.valid c.often.self fits c.instr-x.result c.instr-x.ensures.at).heights

pub act_often-requires-clause-number : goal.act_often-requires-clause-number
act_often-requires-clause-number g c =
    (sound c.args.code.now c.requires.valid c.often.self (c.often.invariant []).fits c.instr-x.result c.instr-x.ensures.at).number

pub often-smaller : goal.often-smaller
often-smaller g c =
    let input = [] in
    let did : Did input c.args.code.now c.instr-x.result c.often.self (g.V.View.content c.often.view) (Ok tt)
    c.act_often.new.self (g.V.View.content c.act_often.new.view) =
    subst (λ r. ActedOften input c.args.code.now c.instr-x.result c.often.self (g.V.View.content c.often.view) r
    c.act_often.new.self (g.V.View.content c.act_often.new.view)) (c.in-Some-Ok.is ∙ ap Some c.in-Some-Ok.field-0-is) (c.act_often.ensures input) in
    falls_next c.args.code.now c.requires.valid c.often.self (c.often.invariant []).fits c.instr-x.result c.act_often.new.self c.instr-x.ensures.at did.1 0

pub often-preserved : goal.often-preserved
often-preserved g c input =
    went_on input c.args.code.now c.args.self.now c.often.self c.act_often.new.self
    (g.V.View.content c.args.view.now) (g.V.View.content c.often.view) (g.V.View.content c.act_often.new.view)
    (c.often.invariant input) c.requires.valid c.instr-x.result c.instr-x.ensures.at
    (subst (λ r. ActedOften input c.args.code.now c.instr-x.result c.often.self (g.V.View.content c.often.view) r
    c.act_often.new.self (g.V.View.content c.act_often.new.view)) (c.in-Some-Ok.is ∙ ap Some c.in-Some-Ok.field-0-is) (c.act_often.ensures input))

pub returns-in-Some-Err-Trap-clause-ran : goal.returns-in-Some-Err-Trap-clause-ran
returns-in-Some-Err-Trap-clause-ran g c input =
    trapped_there input c.args.code.now c.args.self.now c.often.self c.act_often.new.self
    (g.V.View.content c.args.view.now) (g.V.View.content c.often.view) (g.V.View.content c.act_often.new.view)
    (c.often.invariant input) c.instr-x.result c.in-Some-Err-Trap.t c.line_at.result c.instr-x.ensures.at
    (c.line_at.ensures ∙ ap (λ n. or_no_line (slice_get c.args.code.now.lines n)) c.place-place.ensures)
    (subst (λ r. ActedOften input c.args.code.now c.instr-x.result c.often.self (g.V.View.content c.often.view) r
    c.act_often.new.self (g.V.View.content c.act_often.new.view)) (c.in-Some-Err-Trap.is ∙ ap Some (c.in-Some-Err-Trap.field-0-is ∙ ap Err c.in-Some-Err-Trap.field-0-0-is)) (c.act_often.ensures input))

pub returns-in-Some-Err-Trap-clause-size : goal.returns-in-Some-Err-Trap-clause-size
returns-in-Some-Err-Trap-clause-size g c =
    let input = [] in
    let did : Did input c.args.code.now c.instr-x.result c.often.self (g.V.View.content c.often.view) (Err (fault.Trap c.in-Some-Err-Trap.t))
    c.act_often.new.self (g.V.View.content c.act_often.new.view) =
    subst (λ r. ActedOften input c.args.code.now c.instr-x.result c.often.self (g.V.View.content c.often.view) r
    c.act_often.new.self (g.V.View.content c.act_often.new.view)) (c.in-Some-Err-Trap.is ∙ ap Some (c.in-Some-Err-Trap.field-0-is ∙ ap Err c.in-Some-Err-Trap.field-0-0-is)) (c.act_often.ensures input) in
    did.2 ∙ (c.often.invariant []).size

pub returns-in-Some-Err-Memory-clause-size : goal.returns-in-Some-Err-Memory-clause-size
returns-in-Some-Err-Memory-clause-size g c =
    let input = [] in
    let did : Did input c.args.code.now c.instr-x.result c.often.self (g.V.View.content c.often.view) (Err fault.Memory)
    c.act_often.new.self (g.V.View.content c.act_often.new.view) =
    subst (λ r. ActedOften input c.args.code.now c.instr-x.result c.often.self (g.V.View.content c.often.view) r
    c.act_often.new.self (g.V.View.content c.act_often.new.view)) (c.in-Some-Err-Memory.is ∙ ap Some (c.in-Some-Err-Memory.field-0-is ∙ ap Err c.in-Some-Err-Memory.field-0-0-is)) (c.act_often.ensures input) in
    did.2 ∙ (c.often.invariant []).size

pub returns-in-None-clause-ran : goal.returns-in-None-clause-ran
returns-in-None-clause-ran g c input =
    let same : (c.act_often.new.self ≡ c.often.self) × (g.V.View.content c.act_often.new.view ≡ g.V.View.content c.often.view) =
    subst (λ r. ActedOften input c.args.code.now c.instr-x.result c.often.self (g.V.View.content c.often.view) r
    c.act_often.new.self (g.V.View.content c.act_often.new.view)) c.in-None.is (c.act_often.ensures input) in
    stayed input c.args.code.now c.args.self.now c.often.self c.act_often.new.self
    (g.V.View.content c.args.view.now) (g.V.View.content c.often.view) (g.V.View.content c.act_often.new.view)
    (c.often.invariant input) same.0 same.1

pub returns-in-None-clause-size : goal.returns-in-None-clause-size
returns-in-None-clause-size g c =
    let same : (c.act_often.new.self ≡ c.often.self) × (g.V.View.content c.act_often.new.view ≡ g.V.View.content c.often.view) =
    subst (λ r. ActedOften [] c.args.code.now c.instr-x.result c.often.self (g.V.View.content c.often.view) r
    c.act_often.new.self (g.V.View.content c.act_often.new.view)) c.in-None.is (c.act_often.ensures []) in
    ap (λ (s : Active). s.size) same.0 ∙ (c.often.invariant []).size
