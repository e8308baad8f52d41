use Rattle.std.proofs.Common.{◌≡◌, Ok, Err, sym, ap, ◌∙◌}
use Rattle.std.specs.Int.{w64}
use Rattle.std.proofs.lemmas.Int.{to_z-of_z}
use Rattle.al_core.specs.Access.{in_iteration}
use Rattle.al_core.specs.Meaning.{Inside}
use Rattle.al_core.specs.Iteration.{iteration, iteration_does, iteration_from, finished}
use Rattle.al_interpreter.specs.Wholes.{iterates}
use Rattle.al_plain.specs.Executions.{execution_of}
use Rattle.al_plain.proofs.iterations.iteration.Goals as goal

pub returns-in-Ok-clause-exact : goal.returns-in-Ok-clause-exact
unfolding iteration
returns-in-Ok-clause-exact c =
    let x = c.args.x.now in
    let start = c.in_ok-m.ensures in
    let n = to_z-of_z w64 c.counter_at-n.result c.counter_at-n.ensures.fits ∙ c.counter_at-n.ensures.value in
    let does : iteration_does (execution_of x) c.args.j (iteration_from (execution_of x) c.args.j c.args.content) ≡ (Ok tt, c.iterate.new.m) =
    (λ t. iterates (λ on. in_iteration) Inside x.on x.looped.counter x.looped.note.now.line x.looped.body.now (sym n t) (sym start t)) ∙ c.in-Ok.ensures in
    c.finish.ensures ∙ ap (finished x.on.knobs.iter_steps) (sym does)

pub returns-in-Err-Trap-clause-exact : goal.returns-in-Err-Trap-clause-exact
unfolding iteration
returns-in-Err-Trap-clause-exact c =
    let x = c.args.x.now in
    let start = c.in_ok-m.ensures in
    let n = to_z-of_z w64 c.counter_at-n.result c.counter_at-n.ensures.fits ∙ c.counter_at-n.ensures.value in
    let does : iteration_does (execution_of x) c.args.j (iteration_from (execution_of x) c.args.j c.args.content)
    ≡ (Err (c.in-Err-Trap.t, c.in-Err-Trap.line), c.iterate.new.m) =
    (λ t. iterates (λ on. in_iteration) Inside x.on x.looped.counter x.looped.note.now.line x.looped.body.now (sym n t) (sym start t))
    ∙ (rw c.in-Err-Trap.field-0-is at c.in-Err-Trap.ensures) in
    c.finish-in-Err-Trap.ensures ∙ ap (finished x.on.knobs.iter_steps) (sym does)
