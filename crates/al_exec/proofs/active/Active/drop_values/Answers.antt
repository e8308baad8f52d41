use Rattle.std.proofs.Common.{◌≤◌, ◌-◌, ap, ◌∙◌, arith, drop}
use Rattle.al_exec.specs.Active.{Active, private_of}
use Rattle.al_exec.proofs.Cells.{dropped}
use Rattle.al_exec.proofs.active.Active.drop_values.Goals as goal

pub returns : goal.returns
returns c =
    let i = c.self.inside in
    let some : c.args.count ≤ i.top - i.floor = omega (arith, c.requires, ap (λ s. s.height) c.self.view_is) in
    dropped i.cells.items i.place i.base i.floor i.top (private_of i.own) i.budget c.args.count c.self.invariant.1 c.self.invariant.2 some
    ∙ ap (λ (s : Active). record s { stack = drop c.args.count s.stack; height = s.height - c.args.count }) c.self.view_is
