use Rattle.std.proofs.Common.{◌≡◌, drop}
use Rattle.al_core.specs.Applied.{without_freed}
use Rattle.al_commit.proofs.commits.take_out.Given as goal

abbrev pub invariant-loop-obj : goal.invariant-loop-obj
invariant-loop-obj g l =
    without_freed (drop l.obj-index l.freed) (g.S.Store.memory l.store) ≡ without_freed l.freed (g.S.Store.memory l.fn.store)
