use Rattle.std.proofs.Common.{ap, ◌∙◌}
use Rattle.std.specs.Prelude.{slice_set}
use Rattle.al_exec.specs.Active.{Active}
use Rattle.al_exec.proofs.Copied.{one_copied}
use Rattle.al_exec.proofs.active.Active.set_locals.Goals as goal

pub loop-i-preserved : goal.loop-i-preserved
loop-i-preserved c =
    let s : Active = c.args.self.now in
    let i = c.loop-i.i in
    let v = c.index-locals-i.result in
    c.write_local.ensures
    ∙ ap (λ (x : Active). record x { locals = slice_set x.locals i v }) c.loop-i.invariant
    ∙ ap (λ l. record s { locals = l }) (one_copied c.args.locals.now s.locals i v c.loop-i-test.true c.requires c.index-locals-i.is)
