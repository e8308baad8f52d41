use Rattle.std.proofs.Common.{None, subst, rules}
use Rattle.std.specs.Int.{w64}
use Rattle.std.proofs.lemmas.Int.{to_z-of_z}
use Rattle.al_core.specs.Access.{Content}
use Rattle.al_core.specs.Run.{Whole}
use Rattle.al_exec.specs.Going.{StopsAs, run_of, state_with}
use Rattle.al_exec.specs.declared.stop.Stop.{Stop}
use Rattle.al_engine.specs.Worlds.{whole_of}
use Rattle.al_engine.proofs.Nexts.{ended, trapped, stopped, stopped_as}
use Rattle.al_engine.proofs.runs.go_to_stop.Goals as goal

pub answer_stop-requires-clause-stopped : goal.answer_stop-requires-clause-stopped
answer_stop-requires-clause-stopped g c κs within =
    let a = c.args in
    let j = a.job.now in
    let s = a.world in
    let v = c.go.new.view in
    let w : Whole = whole_of
    (record { memory = g.S.Store.memory s.seen.store; allocations = s.seen.names; printed = s.seen.printed; accesses = None }) s.executions s.counts in
    let x : Content = record { memory = g.S.Store.memory v.store; allocations = v.names; printed = v.printed; accesses = None } in
    stopped_as j c.in-AtLoop.number c.in-AtLoop.lo c.in-AtLoop.hi c.go.new.self c.go.new.budget (record w { content = x }) _ _ _
    (to_z-of_z w64 c.in-AtLoop.lo (search rules)) (to_z-of_z w64 c.in-AtLoop.hi (search rules)) c.left-left.ensures
    (stopped j c.requires.may.valid a.m.now a.budget.now w c.requires.at c.go.new.self c.go.new.budget x c.in-AtLoop.number c.in-AtLoop.lo c.in-AtLoop.hi
    (subst (λ (stop : Stop). StopsAs j.code.now a.m.now.inside (run_of j.input.now j.code.now a.m.now) (state_with a.m.now a.budget.now w.content) stop
    c.go.new.self c.go.new.budget x) c.in-AtLoop.is c.in_ok-stop.ensures.stops)
    c.in_ok-stop.ensures.running)

pub returns-in-Ended : goal.returns-in-Ended
returns-in-Ended g c =
    let a = c.args in
    let j = a.job.now in
    let s = a.world in
    let v = c.go.new.view in
    let w : Whole = whole_of
    (record { memory = g.S.Store.memory s.seen.store; allocations = s.seen.names; printed = s.seen.printed; accesses = None }) s.executions s.counts in
    let x : Content = record { memory = g.S.Store.memory v.store; allocations = v.names; printed = v.printed; accesses = None } in
    ended j c.requires.may.valid a.m.now a.budget.now w c.requires.at c.go.new.self c.go.new.budget x c.in-Ended.field-0
    (subst (λ (stop : Stop). StopsAs j.code.now a.m.now.inside (run_of j.input.now j.code.now a.m.now) (state_with a.m.now a.budget.now w.content) stop
    c.go.new.self c.go.new.budget x) c.in-Ended.is c.in_ok-stop.ensures.stops)

pub returns-in-Trapped : goal.returns-in-Trapped
returns-in-Trapped g c =
    let a = c.args in
    let j = a.job.now in
    let s = a.world in
    let v = c.go.new.view in
    let w : Whole = whole_of
    (record { memory = g.S.Store.memory s.seen.store; allocations = s.seen.names; printed = s.seen.printed; accesses = None }) s.executions s.counts in
    let x : Content = record { memory = g.S.Store.memory v.store; allocations = v.names; printed = v.printed; accesses = None } in
    trapped j c.requires.may.valid a.m.now a.budget.now w c.requires.at c.go.new.self c.go.new.budget x c.in-Trapped.t c.in-Trapped.line
    (subst (λ (stop : Stop). StopsAs j.code.now a.m.now.inside (run_of j.input.now j.code.now a.m.now) (state_with a.m.now a.budget.now w.content) stop
    c.go.new.self c.go.new.budget x) c.in-Trapped.is c.in_ok-stop.ensures.stops)
