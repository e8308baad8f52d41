use Rattle.std.proofs.Common.{rules, ◌≡◌, ◌<◌, ◌-◌, ◌^◌, ◌∷◌, ◌++◌, [], suc, Err, sym, ap, ◌∙◌, subst, arith, refl}
use Rattle.al_code.specs.declared.instructions.Instr.TheVariants as i
use Rattle.al_core.specs.declared.values.Trap.TheVariants as trap
use Rattle.al_exec.specs.declared.machine.Machine.{Machine}
use Rattle.al_exec.specs.Frames.{Opened}
use Rattle.al_exec.specs.Active.{Active, state_of}
use Rattle.al_exec.specs.Machines.{where_of, spot_in, state_in}
use Rattle.al_exec.proofs.Calling.{call_too_deep, call_unpaid}
use Rattle.al_exec.proofs.Called.{params_fit, args_stand, call_moved}
use Rattle.al_exec.proofs.Going.{is_within}
use Rattle.al_exec.proofs.machine.Machine.enter_function.Goals as goal

pub entry_at-entry-requires : goal.entry_at-entry-requires
entry_at-entry-requires c = (c.requires.valid.instrs c.args.self.now.active.place (i.Call c.args.f)
    c.args.self.now.active.height c.requires.at c.requires.stands.fits.height).number

pub returns-then-self-eq0-clause-moves : goal.returns-then-self-eq0-clause-moves
returns-then-self-eq0-clause-moves c input w line =
    let m = c.args.self.now in
    call_too_deep (where_of m.inside) input c.args.code.now c.args.f c.entry_at-entry.result
    c.entry_at-entry.ensures (spot_in m) line (state_in m w) c.if-self-eq0.true

pub returns-then-not-spend-clause-moves : goal.returns-then-not-spend-clause-moves
returns-then-not-spend-clause-moves c input w line =
    let m = c.args.self.now in
    let out = c.if-not-spend.ensures.out refl in
    let some : m.room ≡ suc (m.room - 1) = omega (arith, c.if-self-eq0.false) in
    call_unpaid (where_of m.inside) input c.args.code.now c.args.f c.entry_at-entry.result
    c.entry_at-entry.ensures (spot_in m) line (state_in m w) (m.room - 1) some out.0
    ∙ (λ j. (Err (trap.Steps, line), state_of (sym out.1 j) w))

pub overflow_sub-entry : goal.overflow_sub-entry
overflow_sub-entry c =
    params_fit c.args.code.now c.requires.valid c.args.self.now c.requires.stands c.args.f c.entry_at-entry.result c.requires.at c.entry_at-entry.ensures

pub open-left-requires-clause-place : goal.open-left-requires-clause-place
open-left-requires-clause-place c =
    let paid = (c.if-not-spend.ensures.paid refl).1 in
    let place : c.fill.new.self.place ≡ c.args.self.now.active.place =
    ap (λ (s : Active). s.place) c.in_ok-fill.ensures.ok.same ∙ ap (λ (s : Active). s.place) paid in
    let within = is_within c.args.code.now c.requires.valid c.args.self.now.active c.requires.stands.fits in
    let size : c.len-size.result < 2 ^ 64 = search rules in
    omega (arith, place, within, size, c.len-size.ensures)

pub open-left-requires-clause-locals : goal.open-left-requires-clause-locals
open-left-requires-clause-locals c =
    let code = c.args.code.now in
    let m = c.args.self.now in
    let e = c.entry_at-entry.result in
    let fit = params_fit code c.requires.valid m c.requires.stands c.args.f e c.requires.at c.entry_at-entry.ensures in
    let paid = (c.if-not-spend.ensures.paid refl).1 in
    let high = ap (λ (s : Active). s.height) c.in_ok-fill.ensures.ok.same in
    let same = ap (λ (s : Active). s.height) paid in
    omega (arith, args_stand code c.requires.valid m c.requires.stands c.args.f e c.requires.at c.entry_at-entry.ensures, fit, high, same)

pub returns-clause-moves : goal.returns-clause-moves
returns-clause-moves c input w =
    let code = c.args.code.now in
    let m = c.args.self.now in
    let e = c.entry_at-entry.result in
    let new = c.wait.new.self in
    let m' : Machine = record {
      alloc = new.alloc;
      active = new.active;
      inner = new.inner;
      callers = new.callers;
      room = new.room - 1;
      inside = new.inside;
      tallest = new.tallest;
      counter = new.counter;
      start = new.start;
      bytes = new.bytes;
    } in
    let waits = c.in_ok-wait.ensures.ok in
    let paid = c.if-not-spend.ensures.paid refl in
    let some : m.room ≡ suc (m.room - 1) = omega (arith, c.if-self-eq0.false) in
    call_moved code c.requires.valid m c.requires.stands c.args.f e c.requires.at c.entry_at-entry.ensures
    m' c.spend.new.self c.fill.new.self c.open-left.result (m.room - 1) some paid.0 paid.1
    c.in_ok-fill.ensures.ok
    (subst (Opened c.fill.new.self e.locals e.start c.open-left.result) (sym (ap (λ (x : Machine). x.active) waits.same)) c.open-left.ensures)
    (waits.last ∙ (λ j. m.callers.items ++ record { left = c.open-left.result; inner = c.replace-inner.ensures.value j } ∷ []))
    (ap (λ (x : Machine). x.inner.items) waits.same ∙ ap (λ v. v.items) c.replace-inner.ensures.after ∙ c.new.ensures.items)
    (ap (λ (x : Machine). x.room - 1) waits.same)
    (ap (λ (x : Machine). x.inside) waits.same)
    (ap (λ (x : Machine). x.tallest) waits.same)
    input w
