use Rattle.std.proofs.Common.{sym, ap, ◌∙◌}
use Rattle.std.specs.Prelude.{slice_set}
use Rattle.al_exec.specs.declared.machine.Machine.{Machine}
use Rattle.al_exec.specs.Active.{Active}
use Rattle.al_exec.proofs.Ongoing.{relocated}
use Rattle.al_exec.proofs.machine.Machine.after_loop.Goals as goal

pub returns-clause-stands : goal.returns-clause-stands
returns-clause-stands c code stands =
    let m : Machine = c.args.self.now in
    let s : Active = c.set_local.new.self in
    let set = ap (λ (s : Active). s.locals) c.set_local.ensures in
    relocated code m s
    (c.set_local.ensures
    ∙ ap (λ (x : Active). record x { locals = slice_set c.set_locals.new.self.locals m.counter c.from_int.result }) c.set_locals.ensures
    ∙ (λ j. record m.active { locals = sym set j })) stands
