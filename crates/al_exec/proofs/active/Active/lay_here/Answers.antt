use Rattle.std.proofs.Common.{ap, refl, arith, ◌-◌}
use Rattle.al_exec.specs.Active.{Active}
use Rattle.al_exec.proofs.Calling.{locals_are, room_is}
use Rattle.al_exec.proofs.Filling.{filled_here}
use Rattle.al_exec.proofs.active.Active.lay_here.Goals as goal

pub open-requires-clause-locals : goal.open-requires-clause-locals
open-requires-clause-locals c =
    let high = ap (λ (s : Active). s.height) c.push_zeros.ensures in
    omega (arith, high, c.requires.args, c.requires.params)

pub returns-clause-laid : goal.returns-clause-laid
returns-clause-laid c more wide =
    let s : Active = c.args.self.now in
    let e = c.args.entry in
    let filled = filled_here s c.push_zeros.new.self (e.locals - e.params) more c.push_zeros.ensures wide in
    let o = c.open.ensures in
    record {
      place = ap (λ (s : Active). s.place) o.new;
      locals = locals_are e more s s c.push_zeros.new.self c.open.new.self c.open.result c.requires.params refl filled o c.requires.args;
      own = ap (λ (s : Active). s.own) o.new;
      stack = ap (λ (s : Active). s.stack) o.new;
      height = ap (λ (s : Active). s.height) o.new;
      room = room_is e more s s c.push_zeros.new.self c.open.new.self c.open.result c.requires.params refl filled o;
    }
