use Rattle.al_exec.proofs.Filling.{filled_by}
use Rattle.al_exec.proofs.active.Active.fill.Goals as goal

pub returns-clause-ok : goal.returns-clause-ok
returns-clause-ok c =
    filled_by c.args.self.now c.grow.new.self c.push_zeros.new.self c.args.zeros c.args.more c.in_ok-grow.ensures.ok c.push_zeros.ensures
