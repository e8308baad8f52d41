use Rattle.al_exec.proofs.Starting.{began_stands, started}
use Rattle.al_exec.proofs.machine.Machine.run_from_start.Goals as goal

pub run_on-requires-clause-stands : goal.run_on-requires-clause-stands
run_on-requires-clause-stands g c =
    began_stands c.args.input.now c.args.code.now c.args.self.now c.begin_run.new.self
    (g.V.View.content c.args.view.now) (g.V.View.content c.begin_run.new.view)
    c.in-Ok.ensures.begins c.requires.stands

pub returns-in_ok-stop-in-Ok-clause-stops : goal.returns-in_ok-stop-in-Ok-clause-stops
returns-in_ok-stop-in-Ok-clause-stops g c =
    started c.args.input.now c.args.code.now c.args.self.now c.begin_run.new.self (g.V.View.content c.args.view.now) (g.V.View.content c.begin_run.new.view)
    c.in-Ok.ensures.begins c.in_ok-stop-in-Ok.stop c.run_on.new.self c.run_on.new.self.active.budget
    (g.V.View.content c.run_on.new.view) c.in_ok-stop-in-Ok.ensures.stops
