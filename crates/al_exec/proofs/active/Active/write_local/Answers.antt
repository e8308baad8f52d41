use Rattle.std.proofs.Common.{ap, ◌∙◌}
use Rattle.std.specs.Prelude.{slice_set}
use Rattle.al_exec.specs.Active.{Active, private_of}
use Rattle.al_exec.proofs.Cells.{local_set}
use Rattle.al_exec.proofs.active.Active.write_local.Goals as goal

pub returns-then-k-self : goal.returns-then-k-self
returns-then-k-self c =
    let i = c.self.inside in
    local_set i.cells.items i.place i.base i.floor i.top (private_of i.own) i.budget c.args.k c.args.v c.if-k-self.true c.self.invariant.1 c.self.invariant.2
    ∙ ap (λ (s : Active). record s { locals = slice_set s.locals c.args.k c.args.v }) c.self.view_is
