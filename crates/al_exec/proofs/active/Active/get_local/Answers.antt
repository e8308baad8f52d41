use Rattle.al_exec.proofs.active.Active.get_local.Goals as goal

pub returns-then-is_private : goal.returns-then-is_private
returns-then-is_private g c input code = c.get_own.ensures input code (g.V.View.content c.args.view.now)
