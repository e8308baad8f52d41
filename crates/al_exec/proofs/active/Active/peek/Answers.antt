use Rattle.std.proofs.Common.{◌<◌, ap, ◌∙◌, arith}
use Rattle.al_code.specs.Machine.{top}
use Rattle.al_exec.specs.Active.{private_of}
use Rattle.al_exec.proofs.Cells.{pops_value}
use Rattle.al_exec.proofs.active.Active.peek.Goals as goal

pub returns : goal.returns
returns c =
    let i = c.self.inside in
    let some : i.floor < i.top = omega (arith, c.requires, ap (λ s. s.height) c.self.view_is) in
    pops_value i.cells.items i.place i.base i.floor i.top (private_of i.own) i.budget _ some c.self.invariant.2 c.index.ensures
    ∙ ap (λ s. top s.stack) c.self.view_is
