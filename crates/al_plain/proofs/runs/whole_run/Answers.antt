use Rattle.std.proofs.Common.{◌≡◌, sym, ap, ◌∙◌}
use Rattle.al_core.specs.Action.{State}
use Rattle.al_core.specs.Meaning.{Outside}
use Rattle.al_core.specs.Iteration.{ending_of}
use Rattle.al_core.specs.Run.{Whole, outside, start, whole_run}
use Rattle.al_interpreter.specs.declared.setting.Setting.{Setting}
use Rattle.al_interpreter.specs.Settings.{setting_of}
use Rattle.al_interpreter.specs.Wholes.{main_does}
use Rattle.al_plain.proofs.runs.whole_run.Goals as goal

from : (on : Setting) (s : State Whole) → s ≡ start (setting_of on)
    → whole_run (setting_of on) ≡ main_does (λ on. outside (setting_of on)) Outside on s
unfolding whole_run
from on s is = ap (main_does (λ on. outside (setting_of on)) Outside on) (sym is)

pub returns-in-Ok-clause-machine : goal.returns-in-Ok-clause-machine
returns-in-Ok-clause-machine c = sym (ap (λ r. r.1) (from c.args.on.now _ c.in_ok-m.ensures ∙ c.in-Ok.ensures))

pub returns-in-Err-Trap-clause-ending : goal.returns-in-Err-Trap-clause-ending
returns-in-Err-Trap-clause-ending c =
    sym (ap (λ r. ending_of r.0) (from c.args.on.now _ c.in_ok-m.ensures ∙ (rw c.in-Err-Trap.field-0-is at c.in-Err-Trap.ensures)))

pub returns-in-Err-Trap-clause-machine : goal.returns-in-Err-Trap-clause-machine
returns-in-Err-Trap-clause-machine c =
    sym (ap (λ r. r.1) (from c.args.on.now _ c.in_ok-m.ensures ∙ (rw c.in-Err-Trap.field-0-is at c.in-Err-Trap.ensures)))
