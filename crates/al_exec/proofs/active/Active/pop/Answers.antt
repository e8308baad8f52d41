use Rattle.std.proofs.Common.{◌-◌, ◌<◌, ap, ◌∙◌, arith}
use Rattle.al_code.specs.Machine.{top, below}
use Rattle.al_exec.specs.Active.{Active, private_of}
use Rattle.al_exec.proofs.Cells.{pops_value, pops_rest}
use Rattle.al_exec.proofs.active.Active.pop.Goals as goal

pub returns-clause-value : goal.returns-clause-value
returns-clause-value c =
    let i = c.self.inside in
    let some : i.floor < i.top = omega (arith, c.requires, ap (λ s. s.height) c.self.view_is) in
    pops_value i.cells.items i.place i.base i.floor i.top (private_of i.own) i.budget _ some c.self.invariant.2 c.index.ensures
    ∙ ap (λ s. top s.stack) c.self.view_is

pub returns-clause-rest : goal.returns-clause-rest
returns-clause-rest c =
    let i = c.self.inside in
    let some : i.floor < i.top = omega (arith, c.requires, ap (λ s. s.height) c.self.view_is) in
    pops_rest i.cells.items i.place i.base i.floor i.top (private_of i.own) i.budget some c.self.invariant.2
    ∙ ap (λ (s : Active). record s { stack = below s.stack; height = s.height - 1 }) c.self.view_is
