use Rattle.std.proofs.Common.{true, ◌≡◌, Some, w64, ◌+◌, ◌-◌, ◌≤◌, sym, ap, ◌∙◌, refl, arith}
use Rattle.std.proofs.lemmas.Int.{to_z-of_z}
use mir.Val.{to_z, of_z}
use Rattle.al_code.specs.declared.lowered.Body.{Body}
use Rattle.al_code.specs.declared.lowered.Entry.{Entry}
use Rattle.al_exec.specs.Active.{Active}
use Rattle.al_exec.specs.Frames.{Laid}
use Rattle.al_exec.specs.declared.machine.Machine.{Machine}
use Rattle.al_exec.specs.declared.machine.Start.TheVariants as start
use Rattle.al_exec.proofs.Beginnings.{iteration_starts, body_number, func_number, room_kept}
use Rattle.al_exec.proofs.machine.Machine.again.Goals as goal

pub body_at-body-requires : goal.body_at-body-requires
body_at-body-requires c = body_number c.args.code.now c.requires.valid c.args.info.now c.requires.one

pub entry_at-locals-requires : goal.entry_at-locals-requires
entry_at-locals-requires c = func_number c.args.code.now c.requires.valid c.args.info.now c.body_at-body.result c.requires.one c.body_at-body.ensures

pub lay_here-requires-clause-args : goal.lay_here-requires-clause-args
lay_here-requires-clause-args c = omega arith

pub lay_here-requires-clause-room : goal.lay_here-requires-clause-room
lay_here-requires-clause-room c =
    let high = ap (λ (s : Active). s.height) c.reset.ensures in
    let room = ap (λ (s : Active). s.room) c.reset.ensures in
    omega (arith, high, room, c.requires.room.cells c.entry_at-locals.result c.entry_at-locals.ensures)

pub returns-clause-starts : goal.returns-clause-starts
returns-clause-starts c e b has_e has_b =
    let info = c.args.info.now in
    let old : Machine = c.args.self.now in
    let body_is : c.body_at-body.result ≡ b = (let h : Some c.body_at-body.result ≡ Some b = sym c.body_at-body.ensures ∙ has_b in grind (arith, h)) in
    let entry_is : c.entry_at-locals.result ≡ e =
    (let h : Some c.entry_at-locals.result ≡ Some e = sym c.entry_at-locals.ensures ∙ has_e in grind (arith, h)) in
    let e0 : Entry = record { start = c.body_at-body.result.start; end = c.body_at-body.result.end; params = 0; locals = c.entry_at-locals.result.locals } in
    let high = ap (λ (s : Active). s.height) c.reset.ensures in
    let room = ap (λ (s : Active). s.room) c.reset.ensures in
    let wide : c.reset.new.self.height + (e0.locals - e0.params) + old.tallest ≤ c.reset.new.self.room =
    omega (arith, high, room, c.requires.room.cells c.entry_at-locals.result c.entry_at-locals.ensures) in
    let laid : Laid c.reset.new.self e0 old.tallest c.lay_here.new.self = c.lay_here.ensures.laid old.tallest wide in
    let m : Machine = record old {
      active = c.set_own.new.self;
      inner = c.clear.new.self;
      callers = c.clear-2.new.self;
      room = 255;
      inside = true;
      start = start.Iteration info.line info.counter (to_z w64 (of_z w64 c.args.counter));
    } in
    iteration_starts c.args.code.now c.requires.valid info c.requires.one e e0 b has_b
    (ap (λ (b : Body). b.start) body_is) refl (ap (λ (e : Entry). e.locals) entry_is)
    c.args.counter c.reset.new.self c.lay_here.new.self m laid c.set_own.ensures
    c.requires.room.tall c.clear.ensures.items c.clear-2.ensures.items refl refl
    (ap (λ n. start.Iteration info.line info.counter n) (to_z-of_z w64 c.args.counter c.ranges.counter))

pub returns-clause-stands : goal.returns-clause-stands
returns-clause-stands c =
    let e = c.entry_at-locals.result in
    let b = c.body_at-body.result in
    let info = c.args.info.now in
    let old : Machine = c.args.self.now in
    let e0 : Entry = record { start = c.body_at-body.result.start; end = c.body_at-body.result.end; params = 0; locals = c.entry_at-locals.result.locals } in
    let high = ap (λ (s : Active). s.height) c.reset.ensures in
    let room = ap (λ (s : Active). s.room) c.reset.ensures in
    let wide : c.reset.new.self.height + (e0.locals - e0.params) + old.tallest ≤ c.reset.new.self.room =
    omega (arith, high, room, c.requires.room.cells c.entry_at-locals.result c.entry_at-locals.ensures) in
    let laid : Laid c.reset.new.self e0 old.tallest c.lay_here.new.self = c.lay_here.ensures.laid old.tallest wide in
    let m : Machine = record old {
      active = c.set_own.new.self;
      inner = c.clear.new.self;
      callers = c.clear-2.new.self;
      room = 255;
      inside = true;
      start = start.Iteration info.line info.counter (to_z w64 (of_z w64 c.args.counter));
    } in
    (iteration_starts c.args.code.now c.requires.valid info c.requires.one e e0 b c.body_at-body.ensures
    refl refl refl
    c.args.counter c.reset.new.self c.lay_here.new.self m laid c.set_own.ensures
    c.requires.room.tall c.clear.ensures.items c.clear-2.ensures.items refl refl
    (ap (λ n. start.Iteration info.line info.counter n) (to_z-of_z w64 c.args.counter c.ranges.counter))).stands

pub returns-clause-room : goal.returns-clause-room
returns-clause-room c =
    let old : Machine = c.args.self.now in
    let info = c.args.info.now in
    let m : Machine = record old {
      active = c.set_own.new.self;
      inner = c.clear.new.self;
      callers = c.clear-2.new.self;
      room = 255;
      inside = true;
      start = start.Iteration info.line info.counter (to_z w64 (of_z w64 c.args.counter));
    } in
    let a = ap (λ (s : Active). s.size) c.reset.ensures in
    let b = ap (λ (s : Active). s.size) c.set_own.ensures in
    room_kept c.args.code.now info old m (record { cells = omega (arith, a, b, c.lay_here.ensures.size); tallest = refl }) c.requires.room
