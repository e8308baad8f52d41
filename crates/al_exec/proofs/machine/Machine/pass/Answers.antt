use Rattle.std.proofs.Common.{sym, subst}
use Rattle.al_exec.specs.declared.pause.Pause.{Pause}
use Rattle.al_exec.specs.Pauses.{instr_of}
use Rattle.al_exec.specs.Machines.{Moved}
use Rattle.al_exec.proofs.machine.Machine.pass.Goals as goal

pub returns-in-Return-clause-moves : goal.returns-in-Return-clause-moves
returns-in-Return-clause-moves g c input =
    subst
    (λ (p : Pause).
    Moved input c.args.code.now (instr_of p) c.args.self.now (g.V.View.content c.args.view.now)
    c.leave.result c.leave.new.self (g.V.View.content c.args.view.now))
    (sym c.in-Return.is) (c.leave.ensures.moves input (g.V.View.content c.args.view.now))
