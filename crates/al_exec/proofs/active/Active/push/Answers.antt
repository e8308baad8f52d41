use Rattle.std.proofs.Common.{◌+◌, ◌∷◌, ap, ◌∙◌, arith}
use Rattle.al_exec.specs.Active.{Active, private_of}
use Rattle.al_exec.proofs.Cells.{pushed}
use Rattle.al_exec.proofs.active.Active.push.Goals as goal

pub returns : goal.returns
returns c =
    let i = c.self.inside in
    pushed i.cells.items i.place i.base i.floor i.top (private_of i.own) i.budget c.args.v c.self.invariant.0 c.self.invariant.1
    (omega (arith, c.requires, ap (λ s. s.height) c.self.view_is, ap (λ s. s.room) c.self.view_is))
    ∙ ap (λ (s : Active). record s { stack = c.args.v ∷ s.stack; height = s.height + 1 }) c.self.view_is
