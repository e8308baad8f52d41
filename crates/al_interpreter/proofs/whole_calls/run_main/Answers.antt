use Rattle.std.proofs.Common.{ℕ, ◌+◌, [], subst, rules}
use Rattle.std.specs.Prelude.{slice_get}
use Rattle.al_source.specs.Answers.{Does}
use Rattle.al_core.specs.declared.values.Val.{Val}
use Rattle.al_core.specs.Run.{line_of}
use Rattle.al_interpreter.specs.Calls.{call_within}
use Rattle.al_interpreter.specs.Faults.{stopped}
use Rattle.al_interpreter.proofs.whole_calls.run_main.Goals as goal

pub returns : goal.returns
returns g c =
    let program = c.args.on.now.program.now in
    let main = λ (room : ℕ). call_within g.S.Stage.world g.S.Stage.place (room + 1) c.args.on.now program.main []
    (line_of (slice_get program.funcs program.main)) c.args.m.now in
    let told : Does {A = Val} stopped (main c.calls_within.result) c.call_to.result c.call_to.new.m = search rules in
    subst (λ room. Does {A = Val} stopped (main room) c.call_to.result c.call_to.new.m) c.calls_within.ensures told
