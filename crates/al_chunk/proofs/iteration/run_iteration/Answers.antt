use Rattle.std.proofs.Common.{sym, ap, ◌∙◌, ◌-◌, subst}
use Rattle.std.specs.Int.{w64}
use Rattle.std.proofs.lemmas.Int.{to_z-of_z}
use Rattle.al_exec.specs.Going.{run_of, state_with, StopsAs}
use Rattle.al_chunk.proofs.Starting.{placed}
use Rattle.al_chunk.proofs.Turning.{EndsAs, by_stop}
use Rattle.al_chunk.proofs.iteration.run_iteration.Goals as goal
use Rattle.al_chunk.proofs.iteration.run_iteration.Goals.{in-Ended, in-Trapped}

pub returns-clause-exact : goal.returns-clause-exact
returns-clause-exact g c typed l s =
    let code = c.args.code.now in
    let info = c.args.info.now in
    let env = c.args.env.now in
    let input = c.args.input.now in
    let w = g.V.View.content c.args.view.now in
    let w' = g.V.View.content c.go.new.view in
    let m = c.again.new.self in
    let p = placed code c.requires.valid info c.requires.one in
    let starts = c.again.ensures.starts p.entry p.body p.has_entry p.has_body in
    let counts = to_z-of_z w64 c.counter.result c.counter.ensures.fits ∙ c.counter.ensures.value in
    let e = c.match-branch-2.ending in
    let ends : EndsAs c.in_ok-go.field-0 e =
    elim c.match-branch-2.branch [
      | in-Ended v ↦ subst (λ s. EndsAs s e) (sym v.in-Ended.is) v.ending-is
      | in-Trapped v ↦ subst (λ s. EndsAs s e) (sym v.in-Trapped.is) v.ending-is
    ] in
    let stopped : StopsAs code m.inside (run_of input code m) (state_with m env.iter_steps w) c.in_ok-go.field-0 c.go.new.self c.go.new.budget w' =
    subst (λ n. StopsAs code m.inside (run_of input code m) (state_with m n w) c.in_ok-go.field-0 c.go.new.self c.go.new.budget w')
    c.new-budget.ensures c.in_ok-go.ensures.stops in
    by_stop code c.requires.valid info c.requires.one p typed l s input env c.args.j _ counts m starts w c.requires.names
    c.in_ok-go.field-0 e c.go.new.self c.go.new.budget c.saturating_sub.result w' stopped
    (c.saturating_sub.ensures ∙ ap (λ n. env.iter_steps - n) c.left.ensures) ends

pub returns-clause-room : goal.returns-clause-room
returns-clause-room g c = c.in_ok-go.ensures.room c.args.info.now c.again.ensures.room
